-- A column as a row of codes, one for each cell of the complex.
--     IsRowFor .. i kept row end     the row is the boundary of a chain that ends at cell i, and has no code from place `end` of the set on
use Rattle.std.specs.Prelude.{◌≡◌, ◌≢◌, ℕ, ◌+◌, ◌≤◌, Bool, List, length, slice_index}
use Rattle.conley_lists.specs.Lists.{AllBelow}
use Rattle.conley_field.specs.Arithmetic.{Arithmetic}
use Rattle.conley_algebra.specs.Entries.{Vector}
use Rattle.conley_chains.specs.Chain.{HasCodes}
use Rattle.conley_chains.specs.Matrix.{Table, column_count}
use Rattle.conley_lefschetz.specs.Listing.{dim_in}
use Rattle.conley_homology.specs.Own.{own_entries, place_in, IsKept}
use Rattle.conley_homology.specs.Reduced.{IsColumn, LiesUpTo}

-- the chain is kept where `keeps` says so
pub record IsRowFor (F : Arithmetic) (m : Table) (dims set : List ℕ) (keeps : Bool) (i : ℕ) (kept : List (ℕ × ℕ)) (row : List ℕ) (end : ℕ) : Type 0 where
  pub chain : Vector
  pub is_kept : IsKept keeps chain kept
  pub column : IsColumn F (column_count m) (own_entries m set) (dim_in dims) (place_in set) i chain (slice_index row)
  pub kept_codes : HasCodes F kept
  pub width : length row ≡ length dims
  pub codes : AllBelow F.order row
  pub within : end ≤ length set
  pub upto : LiesUpTo (place_in set) end (slice_index row)
  pub lead : (p : ℕ) → end ≡ p + 1 → slice_index row (place_in set p) ≢ 0
