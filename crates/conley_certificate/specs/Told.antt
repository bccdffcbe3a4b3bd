-- How a rejection is told.
--     words_of_reason reason    J1 to J15, then part, row, column, and the two values there
-- The wording is this project's own.
use Rattle.std.specs.Prelude.{ℕ, List, [], ◌∷◌, ◌++◌, map, decimal, codes}
use Rattle.conley_certificate.specs.declared.reason.Reason.{Reason}

abbrev pub words_of_reason : Reason → List (List ℕ)
words_of_reason r = (codes "J" ++ decimal r.law) ∷ map decimal (r.part ∷ r.row ∷ r.column ∷ r.have ∷ r.want ∷ [])
