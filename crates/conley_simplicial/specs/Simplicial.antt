-- The complex of the simplices that some vertices and listed simplices generate.
--     AreSimplices n simplices cells             these are exactly the simplices, each once, by dimension, then place by place
--     AreSimplexValues F cells boundary          without the vertex in place i a simplex gives a face of value (-1)^i, and there are no others
--     IsSimplicialComplex F labels simplices c   the complex of the simplices, with their labels, dimensions and values
--     SimplicialComplexIsOne F                   vertices and listed simplices have at most one complex
-- The wording is this project's own.
use Rattle.std.specs.Prelude.{◌≡◌, ◌≢◌, ◌↔◌, ◌-◌, ◌<◌, ℕ, List, [], Contains, length, map, slice_index_or}
use Rattle.std.specs.List.{AllPairs, remove}
use Rattle.conley_field.specs.Arithmetic.{Arithmetic}
use Rattle.conley_chains.specs.Matrix.{Table, entry, VanishesFrom}
use Rattle.conley_lefschetz.specs.Complex.{Layout, IsLayout}
use Rattle.conley_generated.specs.Rule.{minus_one_to}
use Rattle.conley_simplicial.specs.Simplex.{IsSimplex, IsBefore, label_of}

pub record AreSimplices (n : ℕ) (simplices cells : List (List ℕ)) : Type 0 where
  pub ordered : AllPairs IsBefore cells
  pub all : (s : List ℕ) → Contains cells s ↔ IsSimplex n simplices s

-- cell x is the list of vertices in place x
pub record AreSimplexValues (F : Arithmetic) (cells : List (List ℕ)) (boundary : Table) : Type 0 where
  pub value : (x y i : ℕ) → x < length cells → y < length cells → i < length (slice_index_or cells x [])
      → slice_index_or cells y [] ≡ remove (slice_index_or cells x []) i
      → entry boundary y x ≡ minus_one_to F i
  pub none : (x y : ℕ) → x < length cells → y < length cells → ((i : ℕ) → i < length (slice_index_or cells x [])
      → slice_index_or cells y [] ≢ remove (slice_index_or cells x []) i)
      → entry boundary y x ≡ 0
  pub beyond : VanishesFrom (length cells) boundary

pub record IsSimplicialComplex (F : Arithmetic) (labels simplices : List (List ℕ)) (c : Layout) : Type 0 where
  pub cells : List (List ℕ)
  pub are : AreSimplices (length labels) simplices cells
  pub labels_are : c.labels ≡ map (label_of labels) cells
  pub dims_are : c.dims ≡ map (λ s. length s - 1) cells
  pub values : AreSimplexValues F cells c.boundary

-- at most one complex has the laws and is that of the vertices and simplices
abbrev pub SimplicialComplexIsOne : Arithmetic → Type 0
SimplicialComplexIsOne F = (labels simplices : List (List ℕ)) (a b : Layout) → IsLayout F a → IsLayout F b → IsSimplicialComplex F labels simplices a
    → IsSimplicialComplex F labels simplices b → a ≡ b
