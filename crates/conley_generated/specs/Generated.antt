-- The cells that some cells generate, and the complex of them.
--     IsUnder rule seeds s              s is one of the seeds, or a face of a cell that is under them
--     AreAllUnder rule seeds cells      these are exactly the cells under the seeds
--     AreInOrder rule cells             each cell stands before the next: by dimension, then place by place
--     AreCellsUnder rule seeds cells    these are exactly the cells under the seeds, each once, in order
--     AreMoreUnder rule seeds most      there are more than so many cells under the seeds
--     IsGenerated F rule seeds most c   the complex of the cells under the seeds
-- The wording is this project's own.
use Rattle.std.specs.Prelude.{◌≡◌, ◌↔◌, ◌<◌, ◌≤◌, ℕ, List, [], ◌∷◌, All, Contains, length, map, slice_index_or}
use Rattle.std.specs.List.{AllPairs}
use Rattle.conley_lists.specs.Lists.{AreApart}
use Rattle.conley_field.specs.Arithmetic.{Arithmetic}
use Rattle.conley_chains.specs.Matrix.{entry, VanishesFrom}
use Rattle.conley_first.specs.First.{Precedes}
use Rattle.conley_lefschetz.specs.Complex.{Layout}
use Rattle.conley_generated.specs.Rule.{Rule, IsFace, value}

pub data IsUnder (rule : Rule) (seeds : List (List ℕ)) : List ℕ → Type 0 where
  seed : (s : List ℕ) → Contains seeds s → IsUnder rule seeds s
  face : (s t : List ℕ) → IsUnder rule seeds s → IsFace rule s t → IsUnder rule seeds t

-- each cell stands before all later ones, by dimension, then place by place
abbrev pub AreInOrder : Rule → List (List ℕ) → Type 0
AreInOrder rule cells = AllPairs (λ s t. Precedes (rule.dim s ∷ s) (rule.dim t ∷ t)) cells

abbrev pub AreAllUnder : Rule → List (List ℕ) → List (List ℕ) → Type 0
AreAllUnder rule seeds cells = (s : List ℕ) → Contains cells s ↔ IsUnder rule seeds s

pub record AreCellsUnder (rule : Rule) (seeds cells : List (List ℕ)) : Type 0 where
  pub ordered : AreInOrder rule cells
  pub all : AreAllUnder rule seeds cells

pub record AreMoreUnder (rule : Rule) (seeds : List (List ℕ)) (most : ℕ) : Type 0 where
  pub some : List (List ℕ)
  pub apart : AreApart some
  pub under : All (IsUnder rule seeds) some
  pub more : most < length some

pub record IsGenerated (F : Arithmetic) (rule : Rule) (seeds : List (List ℕ)) (most : ℕ) (c : Layout) : Type 0 where
  pub cells : List (List ℕ)
  pub are : AreCellsUnder rule seeds cells
  pub few : length cells ≤ most
  pub labels : c.labels ≡ map rule.label cells
  pub dims : c.dims ≡ map rule.dim cells
  pub boundary : (x y : ℕ) → x < length cells → y < length cells → entry c.boundary y x ≡ value F rule (slice_index_or cells x []) (slice_index_or cells y [])
  pub beyond : VanishesFrom (length cells) c.boundary
