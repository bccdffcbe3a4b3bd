-- The complex of the cubes that listed cubes generate.
--     AreCubes cubes cells             these are exactly the cubes, each once, by dimension, then place by place
--     AreCubeValues F cells boundary   the values of a cube and its faces: the upper end of the wide pair in place k has (-1)^j, the
--                                      lower one -(-1)^j, where j wide pairs stand before, and there are no other faces
--     IsCubicalComplex F cubes c       the complex of the cubes, with their labels, dimensions and values
--     CubicalComplexIsOne F            listed cubes have at most one complex
-- The wording is this project's own.
use Rattle.std.specs.Prelude.{◌≡◌, ◌⊎◌, ◌↔◌, ◌+◌, ◌-◌, ◌<◌, ℕ, ℤ, true, List, [], Contains, length, map, slice_index, slice_index_or, slice_set}
use Rattle.std.specs.List.{AllPairs}
use Rattle.conley_field.specs.Arithmetic.{Arithmetic}
use Rattle.conley_chains.specs.Matrix.{Table, entry, VanishesFrom}
use Rattle.conley_lefschetz.specs.Complex.{Layout, IsLayout}
use Rattle.conley_generated.specs.Rule.{minus_one_to}
use Rattle.conley_cubical.specs.Cube.{IsCube, IsBefore, is_wide, dim_of, label_of, wide_before}

pub record AreCubes (cubes : List (List (ℤ × ℤ))) (cells : List (List ℕ)) : Type 0 where
  pub ordered : AllPairs IsBefore cells
  pub all : (s : List ℕ) → Contains cells s ↔ IsCube cubes s

-- t is s with one of the ends in place of a wide pair
abbrev pub IsEnd : List ℕ → List ℕ → Type 0
IsEnd s t = (k : ℕ) × (k < length s) × (is_wide (slice_index s k) ≡ true)
    × ((t ≡ slice_set s k (slice_index s k + 1)) ⊎ (t ≡ slice_set s k (slice_index s k - 1)))

-- cell x is the cube in place x
pub record AreCubeValues (F : Arithmetic) (cells : List (List ℕ)) (boundary : Table) : Type 0 where
  pub upper : (x y k : ℕ) → x < length cells → y < length cells → k < length (slice_index_or cells x [])
      → is_wide (slice_index (slice_index_or cells x []) k) ≡ true
      → slice_index_or cells y [] ≡ slice_set (slice_index_or cells x []) k (slice_index (slice_index_or cells x []) k + 1)
      → entry boundary y x ≡ minus_one_to F (wide_before (slice_index_or cells x []) k)
  pub lower : (x y k : ℕ) → x < length cells → y < length cells → k < length (slice_index_or cells x [])
      → is_wide (slice_index (slice_index_or cells x []) k) ≡ true
      → slice_index_or cells y [] ≡ slice_set (slice_index_or cells x []) k (slice_index (slice_index_or cells x []) k - 1)
      → entry boundary y x ≡ F.neg (minus_one_to F (wide_before (slice_index_or cells x []) k))
  pub none : (x y : ℕ) → x < length cells → y < length cells → ¬ IsEnd (slice_index_or cells x []) (slice_index_or cells y []) → entry boundary y x ≡ 0
  pub beyond : VanishesFrom (length cells) boundary

pub record IsCubicalComplex (F : Arithmetic) (cubes : List (List (ℤ × ℤ))) (c : Layout) : Type 0 where
  pub cells : List (List ℕ)
  pub are : AreCubes cubes cells
  pub labels_are : c.labels ≡ map label_of cells
  pub dims_are : c.dims ≡ map dim_of cells
  pub values : AreCubeValues F cells c.boundary

-- at most one complex has the laws and is that of the cubes
abbrev pub CubicalComplexIsOne : Arithmetic → Type 0
CubicalComplexIsOne F = (cubes : List (List (ℤ × ℤ))) (a b : Layout) → IsLayout F a → IsLayout F b
    → IsCubicalComplex F cubes a → IsCubicalComplex F cubes b → a ≡ b
