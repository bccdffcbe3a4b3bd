-- What is due, memory and faults of the outside apart.
--     Due              how a run ends, and the text that it puts before
--     ends outcome     this outcome is due, without a text
--     prints text      a text is due, and `Done` after it
--     accepts          the word that accepts a certificate is due, and `Accepted` after it
-- The wording is this project's own.
use Rattle.std.specs.Prelude.{ℕ, List, [], ◌∷◌, codes}
use Rattle.conley_texts.specs.Line.{line}
use Rattle.conley_tool.specs.declared.outcome.Outcome.{Outcome}
use Rattle.conley_tool.specs.declared.outcome.Outcome.TheVariants.{Done, Accepted}

pub record Due : Type 0 where
  -- how the run ends
  pub outcome : Outcome
  -- the bytes that `out` gains before
  pub text : List ℕ

abbrev pub ends : Outcome → Due
ends outcome = record { outcome = outcome; text = [] }

abbrev pub prints : List ℕ → Due
prints text = record { outcome = Done; text = text }

abbrev pub accepts : Due
accepts = record { outcome = Accepted; text = line (codes "accepted" ∷ []) }
