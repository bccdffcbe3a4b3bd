-- Steps by faces and parts, and a smaller digraph with the same reach.
--     Step faces part_of x y             y is a face of x, or lies in the part of x
--     IsNext part_of x y                 y is the cell of the part that comes next after x; after the last comes the first
--     HasTransitions faces part_of heads  the steps of the digraph lead to the cells directly under each cell, and to the next of its part
-- After Mrozek and Wanner; the wording is this project's own.
use Rattle.std.specs.Prelude.{◌≡◌, ◌⊎◌, ◌↔◌, ◌<◌, ◌≤◌, ℕ, List, length}
use Rattle.conley_lists.specs.Lists.{ListedStep}
use Rattle.conley_faces.specs.Face.{IsFace}
use Rattle.conley_mvf.specs.Partition.{ShareAPart}

abbrev pub Step : List (List ℕ) → List ℕ → ℕ → ℕ → Type 0
Step faces part_of x y = IsFace faces x y ⊎ ShareAPart part_of x y

-- the least of the greater cells of the part, or from its greatest cell its least; a part of one cell has no next
pub record IsNext (part_of : List ℕ) (x y : ℕ) : Type 0 where
  pub part : ShareAPart part_of x y
  pub next : ((x < y) × ((z : ℕ) → ShareAPart part_of x z → x < z → y ≤ z)) ⊎ ((y < x) × ((z : ℕ) → ShareAPart part_of x z → (y ≤ z) × (z ≤ x)))

pub record HasTransitions (faces : List (List ℕ)) (part_of : List ℕ) (heads : List (List ℕ)) : Type 0 where
  pub count : length heads ≡ length faces
  pub steps : (x y : ℕ) → ListedStep heads x y ↔ (ListedStep faces x y ⊎ IsNext part_of x y)
