-- The numbers of a summary.
--     count_of_dim dims k      how many cells have dimension k
--     euler dims               the number of cells of dimension 0, less those of dimension 1, plus those of dimension 2
--     index_sum numbers k      the sum of the numbers of all sets at dimension k
--     entry_count matrix       how many entries are kept; where the columns are chains, these are the entries other than zero, each once
-- The wording is this project's own.
use Rattle.std.specs.Prelude.{◌==◌, ℕ, ℤ, pos, ◌+ℤ◌, ◌-ℤ◌, List, length, count_by, sum_by, slice_index}
use Rattle.conley_chains.specs.Matrix.{Table}

abbrev pub count_of_dim : List ℕ → ℕ → ℕ
count_of_dim dims k = count_by (λ dim. dim == k) dims

abbrev pub euler : List ℕ → ℤ
euler dims = (pos (count_of_dim dims 0) -ℤ pos (count_of_dim dims 1)) +ℤ pos (count_of_dim dims 2)

-- 0 for a set without a number at that dimension
abbrev pub index_sum : List (List ℕ) → ℕ → ℕ
index_sum numbers k = sum_by (λ row. slice_index row k) numbers

abbrev pub entry_count : Table → ℕ
entry_count matrix = sum_by length matrix.columns
