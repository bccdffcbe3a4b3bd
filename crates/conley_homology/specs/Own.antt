-- The boundary among the cells of a set, and chains on its cells.
--     own_entries m set           the boundary m, without the rows and columns of other cells
--     place_in set i              cell i of the set
--     vector_at chains i          chain i of a list, as a vector
--     owner_at owner i            the cell whose boundary ends at cell i of the set
--     IsLast es e                 e is the last entry of a chain
--     IsOwnComplex F m dims set   the boundary on the cells of the set is that of a complex
--     IsKept keeps chain kept     the chain is kept where `keeps` says so
--     IsDone, IsEnd, IsChainFor, IsReducedSoFar   what the reduction of columns keeps
use Rattle.std.specs.Prelude.{◌^◌, ◌≡◌, ◌≢◌, ◌⊎◌, ℕ, ◌+◌, ◌<◌, ◌≤◌, Bool, true, List, [], All, length, slice_index_or, if◌then◌else◌, Option, Some, None}
use Rattle.std.specs.List.Sorted.{IsStrictlyIncreasing}
use Rattle.conley_lists.specs.Lists.{is_listed, AllBelow}
use Rattle.conley_field.specs.Arithmetic.{Arithmetic}
use Rattle.conley_algebra.specs.Entries.{Vector, Entries, product_of, zero_entries, SameEntries, OnlyWhere}
use Rattle.conley_chains.specs.Chain.{coefficient, HasCodes}
use Rattle.conley_chains.specs.Matrix.{Table, entry, column_count, AllCodes}
use Rattle.conley_lefschetz.specs.Listing.{dim_in}
use Rattle.conley_homology.specs.Reduced.{IsColumn, EndsAt}

abbrev pub own_entries : Table → List ℕ → Entries
own_entries m set row column = if is_listed set row then (if is_listed set column then entry m row column else 0) else 0

abbrev pub place_in : List ℕ → ℕ → ℕ
place_in set i = slice_index_or set i 0

-- the vector of chain i of a list
abbrev pub vector_at : List (List (ℕ × ℕ)) → ℕ → Vector
vector_at chains i = coefficient (slice_index_or chains i [])

abbrev pub owner_at : List (Option ℕ) → ℕ → Option ℕ
owner_at owner i = slice_index_or owner i None

-- e is the last entry
pub record IsLast (es : List (ℕ × ℕ)) (e : ℕ × ℕ) : Type 0 where
  pub at : coefficient es e.0 ≡ e.1
  pub not_zero : e.1 ≢ 0
  pub beyond : (x : ℕ) → e.0 < x → coefficient es x ≡ 0

-- the boundary on the cells of a set is that of a complex
pub record IsOwnComplex (F : Arithmetic) (m : Table) (dims set : List ℕ) : Type 0 where
  pub ascending : IsStrictlyIncreasing set
  pub cells : AllBelow (column_count m) set
  pub few : column_count m < 2 ^ 32
  pub codes : AllCodes F m
  pub dims_count : length dims ≡ column_count m
  pub squares : SameEntries (product_of F (column_count m) (own_entries m set) (own_entries m set)) zero_entries
  pub one_down : OnlyWhere (λ y x. dim_in dims x ≡ dim_in dims y + 1) (own_entries m set)

-- cells of higher dimension than the level, and those of the level among the first i
abbrev pub IsDone : List ℕ → List ℕ → ℕ → ℕ → ℕ → Type 0
IsDone dims set level i j = (level < dim_in dims (place_in set j)) ⊎ ((dim_in dims (place_in set j) ≡ level) × (j < i))

-- a chain on the set ends before place `end` of the set: at the place before it, or nowhere where `end` is 0
pub record IsEnd (set : List ℕ) (chain : List (ℕ × ℕ)) (end : ℕ) : Type 0 where
  pub within : end ≤ length set
  pub none : end ≡ 0 → chain ≡ []
  pub at : (p : ℕ) → end ≡ p + 1 → EndsAt (place_in set) p (coefficient chain)

-- the chain is kept where `keeps` says so
abbrev pub IsKept : Bool → Vector → List (ℕ × ℕ) → Type 0
IsKept keeps chain kept = keeps ≡ true → (x : ℕ) → coefficient kept x ≡ chain x

-- for cell i there is a chain that ends at it, which is kept where `keeps` says so, and its boundary is `reduced`
pub record IsChainFor (F : Arithmetic) (m : Table) (dims set : List ℕ) (keeps : Bool) (i : ℕ) (kept reduced : List (ℕ × ℕ)) : Type 0 where
  pub chain : Vector
  pub is_kept : IsKept keeps chain kept
  pub column : IsColumn F (column_count m) (own_entries m set) (dim_in dims) (place_in set) i chain (coefficient reduced)
  pub kept_codes : HasCodes F kept
  pub reduced_codes : HasCodes F reduced

-- the cells of which done holds have columns that are reduced, and chains, which are kept where `keeps` says so
pub record IsReducedSoFar (F : Arithmetic) (m : Table) (dims set : List ℕ) (keeps : Bool) (done : ℕ → Type 0) (kept reduced : List (List (ℕ × ℕ)))
    (owner : List (Option ℕ)) : Type 0 where
  pub kept_count : length kept ≡ length set
  pub reduced_count : length reduced ≡ length set
  pub owner_count : length owner ≡ length set
  pub kept_codes : All (HasCodes F) kept
  pub reduced_codes : All (HasCodes F) reduced
  pub chain : ℕ → Vector
  pub is_kept : keeps ≡ true → (i x : ℕ) → vector_at kept i x ≡ chain i x
  pub column : (i : ℕ) → i < length set → done i → owner_at owner i ≡ None
      → IsColumn F (column_count m) (own_entries m set) (dim_in dims) (place_in set) i (chain i) (vector_at reduced i)
  pub owns : (p i : ℕ) → p < length set → owner_at owner p ≡ Some i → (i < length set) × done i × (owner_at owner i ≡ None)
      × EndsAt (place_in set) p (vector_at reduced i)
  pub ends : (i : ℕ) → i < length set → done i → owner_at owner i ≡ None
      → ((p : ℕ) × ((p < length set) × (owner_at owner p ≡ Some i))) ⊎ (slice_index_or reduced i [] ≡ [])
