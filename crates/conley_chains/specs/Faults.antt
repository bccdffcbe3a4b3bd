-- The faults of entries that a chain or a matrix is to be made of, each told by the number of its entry.
--     pair_at es k, triple_at es k                  entry k of a chain's entries, of a matrix's entries
--     stands es place, stands_in es row column      whether an entry stands at the place
--     is_outside rows columns order e               whether an entry is beyond the rows, the columns or the codes
--     first_of_three k out_of_range zero repeated   the first of three faults of entry k that holds
--     fault_at order es k                           the fault of entry k of a chain's entries, if it has one
--     fault_within rows columns order es k          the same of a matrix's entries
--     own_fault_at, own_fault_within                the same, but for a place that stood before
--     IsFaultless fault n                           none of the first n entries has a fault
--     IsFirstFault fault n error                    the error is the fault of the least of them that has one
--     code_at es row column                         the code that a matrix's entries keep at a place, else 0
--     no_memory e error                             what want of memory becomes
use Rattle.std.specs.Prelude.{◌≡◌, ℕ, ◌<◌, ◌==◌, ◌&&◌, ◌||◌, nat_le, Bool, false, List, [], ◌∷◌, take, slice_index_or, if◌then◌else◌, Option, Some, None}
use Rattle.std.specs.List.{list_any}
use Rattle.std.specs.declared.alloc.AllocError.{AllocError}
use Rattle.conley_chains.specs.declared.error.MatrixError.{MatrixError}
use Rattle.conley_chains.specs.declared.error.MatrixError.TheVariants.{Range, Zero, Repeated, NoMemory}

-- what want of memory becomes
abbrev pub no_memory : AllocError → MatrixError → Type 0
no_memory e error = error ≡ NoMemory

-- the first of three faults of entry k that holds: something out of range, a code that is zero, a place that stood before
abbrev pub first_of_three : ℕ → Bool → Bool → Bool → Option MatrixError
first_of_three k out_of_range zero repeated =
    if out_of_range then Some (Range k) else (if zero then Some (Zero k) else (if repeated then Some (Repeated k) else None))

-- whether an entry stands at this place
abbrev pub stands : List (ℕ × ℕ) → ℕ → Bool
stands es place = list_any (λ e. place == e.0) es

-- a chain's entry is a place and a code; every place is in range, and a code is where it is below the order
abbrev pub pair_at : List (ℕ × ℕ) → ℕ → ℕ × ℕ
pair_at es k = slice_index_or es k (0, 0)

abbrev pub fault_at : ℕ → List (ℕ × ℕ) → ℕ → Option MatrixError
fault_at order es k = first_of_three k (nat_le order (pair_at es k).1) ((pair_at es k).1 == 0) (stands (take k es) (pair_at es k).0)

-- its fault by itself, whatever stands before
abbrev pub own_fault_at : ℕ → List (ℕ × ℕ) → ℕ → Option MatrixError
own_fault_at order es k = first_of_three k (nat_le order (pair_at es k).1) ((pair_at es k).1 == 0) false

-- whether an entry stands in this row and column
abbrev pub stands_in : List (ℕ × ℕ × ℕ) → ℕ → ℕ → Bool
stands_in es row column = list_any (λ e. (row == e.0) && (column == e.1)) es

-- a matrix's entry is a row, a column and a code
abbrev pub triple_at : List (ℕ × ℕ × ℕ) → ℕ → ℕ × ℕ × ℕ
triple_at es k = slice_index_or es k (0, 0, 0)

-- whether an entry is beyond the rows, the columns or the codes
abbrev pub is_outside : ℕ → ℕ → ℕ → ℕ × ℕ × ℕ → Bool
is_outside rows columns order e = nat_le rows e.0 || nat_le columns e.1 || nat_le order e.2

abbrev pub fault_within : ℕ → ℕ → ℕ → List (ℕ × ℕ × ℕ) → ℕ → Option MatrixError
fault_within rows columns order es k =
    first_of_three k (is_outside rows columns order (triple_at es k)) ((triple_at es k).2 == 0) (stands_in (take k es) (triple_at es k).0 (triple_at es k).1)

abbrev pub own_fault_within : ℕ → ℕ → ℕ → List (ℕ × ℕ × ℕ) → ℕ → Option MatrixError
own_fault_within rows columns order es k = first_of_three k (is_outside rows columns order (triple_at es k)) ((triple_at es k).2 == 0) false

abbrev pub IsFaultless : (ℕ → Option MatrixError) → ℕ → Type 0
IsFaultless fault n = (k : ℕ) → k < n → fault k ≡ None

abbrev pub IsFirstFault : (ℕ → Option MatrixError) → ℕ → MatrixError → Type 0
IsFirstFault fault n error = (k : ℕ) × ((k < n) × (fault k ≡ Some error) × ((j : ℕ) → j < k → fault j ≡ None))

abbrev pub code_at : List (ℕ × ℕ × ℕ) → ℕ → ℕ → ℕ
code_at [] row column = 0
code_at (e ∷ es) row column = if (row == e.0) && (column == e.1) then e.2 else code_at es row column
