-- Relative cycles and relative boundaries of a set of cells, and its Conley numbers. The set is a list of cells, locally closed.
--     IsRelativeCycle F c set chain     a chain on the closure of the set whose boundary lies on its mouth
--     IsRelativeBoundary F c set chain  the boundary of a chain on the closure plus a chain on the mouth
--     IsRegular F c set                 every relative cycle is a relative boundary
--     IsCritical F c set                the set isn't regular
--     IsConleyBasis F c set k r cycles  every relative cycle on cells of dimension k is exactly one combination of these r plus a relative boundary
--     AreConleyNumbers F c set numbers  for each dimension below the levels so many cycles are such a basis
--     NumbersAreOne F c                 any two lists that meet the last two have one length, and are one
--     RegularWhereZero F c              a set is regular exactly where all its Conley numbers are 0
-- A chain is seen as its code at each cell. After Mrozek and Wanner; the wording is this project's own.
use Rattle.std.specs.Prelude.{◌≡◌, ◌↔◌, ℕ, ◌<◌, List, All, length, slice_index}
use Rattle.conley_field.specs.Arithmetic.{Arithmetic}
use Rattle.conley_algebra.specs.Entries.{Vector}
use Rattle.conley_algebra.specs.Homology as algebra
use Rattle.conley_chains.specs.Matrix.{entry, column_count}
use Rattle.conley_faces.specs.Face.{IsInClosure, IsInMouth}
use Rattle.conley_lefschetz.specs.Listing.{dim_in}
use Rattle.conley_lefschetz.specs.Complex.{Layout}

abbrev pub IsRelativeCycle : Arithmetic → Layout → List ℕ → Vector → Type 0
IsRelativeCycle F c set = algebra.IsRelativeCycle F (column_count c.boundary) (entry c.boundary) (IsInClosure c.faces set) (IsInMouth c.faces set)

abbrev pub IsRelativeBoundary : Arithmetic → Layout → List ℕ → Vector → Type 0
IsRelativeBoundary F c set = algebra.IsRelativeBoundary F (column_count c.boundary) (entry c.boundary) (IsInClosure c.faces set) (IsInMouth c.faces set)

abbrev pub IsRegular : Arithmetic → Layout → List ℕ → Type 0
IsRegular F c set = (chain : Vector) → IsRelativeCycle F c set chain → IsRelativeBoundary F c set chain

abbrev pub IsCritical : Arithmetic → Layout → List ℕ → Type 0
IsCritical F c set = ¬ IsRegular F c set

abbrev pub IsConleyBasis : Arithmetic → Layout → List ℕ → ℕ → ℕ → (ℕ → Vector) → Type 0
IsConleyBasis F c set = algebra.IsHomologyBasis F (column_count c.boundary) (entry c.boundary) (dim_in c.dims) (IsInClosure c.faces set) (IsInMouth c.faces set)

pub record AreConleyNumbers (F : Arithmetic) (c : Layout) (set numbers : List ℕ) : Type 0 where
  pub levels_count : length numbers ≡ c.levels
  pub basis : (k : ℕ) → k < c.levels → (cycles : ℕ → Vector) × IsConleyBasis F c set k (slice_index numbers k) cycles

pub record NumbersAreOne (F : Arithmetic) (c : Layout) : Type 0 where
  pub one_length : (set : List ℕ) (k r s : ℕ) (z w : ℕ → Vector) → IsConleyBasis F c set k r z → IsConleyBasis F c set k s w → r ≡ s
  pub one_list : (set a b : List ℕ) → AreConleyNumbers F c set a → AreConleyNumbers F c set b → a ≡ b

abbrev pub RegularWhereZero : Arithmetic → Layout → Type 0
RegularWhereZero F c = (set numbers : List ℕ) → AreConleyNumbers F c set numbers → (IsRegular F c set ↔ All (λ r. r ≡ 0) numbers)
