-- Entries sorted by their places.
--     placed_at ps k         entry k of a list
--     IsOnePlace a b         a and b stand at one place
--     IsInOrder a b          a does not stand after b: by column, then by row, then by number
--     AreApart ps n          no two of the first n stand at one place
--     IsFirstRepeat ps n     entry n is the first that stands where an earlier one does
--     pair_of, triple_of     what a chain and a matrix keep of an entry
--     least_of found n       the lesser of a number that was found, if any, and n
--     placed_as k e          entry k of a list, where e is its row, its column and its code
--     ArePlaced n e ps       ps are the first entries e 0, e 1, .. of a list of n
--     StopsAt own n k fault  entry k of n is the first with a fault of its own, which is told, or k is n and there is none
use Rattle.std.specs.Prelude.{◌≡◌, ℕ, ◌<◌, ◌≤◌, List, length, slice_index_or, min, Option, None, Some}
use Rattle.conley_chains.specs.declared.error.MatrixError.{MatrixError}
use Rattle.conley_chains.specs.declared.placing.Placed.{Placed}

abbrev pub placed_at : List Placed → ℕ → Placed
placed_at ps k = slice_index_or ps k (record { column = 0; row = 0; number = 0; code = 0 })

abbrev pub IsOnePlace : Placed → Placed → Type 0
IsOnePlace a b = (a.column ≡ b.column) × (a.row ≡ b.row)

pub record IsInOrder (a b : Placed) : Type 0 where
  pub columns : a.column ≤ b.column
  pub rows : a.column ≡ b.column → a.row ≤ b.row
  pub numbers : a.column ≡ b.column → a.row ≡ b.row → a.number ≤ b.number

abbrev pub AreApart : List Placed → ℕ → Type 0
AreApart ps n = (j k : ℕ) → j < k → k < n → ¬ IsOnePlace (placed_at ps j) (placed_at ps k)

pub record IsFirstRepeat (ps : List Placed) (n : ℕ) : Type 0 where
  pub within : n < length ps
  pub stood : (j : ℕ) × ((j < n) × IsOnePlace (placed_at ps j) (placed_at ps n))
  pub apart : AreApart ps n

abbrev pub pair_of : Placed → ℕ × ℕ
pair_of p = (p.row, p.code)

abbrev pub triple_of : Placed → ℕ × ℕ × ℕ
triple_of p = (p.row, p.column, p.code)

abbrev pub least_of : Option ℕ → ℕ → ℕ
least_of None n = n
least_of (Some m) n = min m n

abbrev pub placed_as : ℕ → ℕ × ℕ × ℕ → Placed
placed_as k e = record { column = e.1; row = e.0; number = k; code = e.2 }

pub record ArePlaced (n : ℕ) (e : ℕ → ℕ × ℕ × ℕ) (ps : List Placed) : Type 0 where
  pub within : length ps ≤ n
  pub each : (k : ℕ) → k < length ps → placed_at ps k ≡ placed_as k (e k)

abbrev pub StopsAt : (ℕ → Option MatrixError) → ℕ → ℕ → Option MatrixError → Type 0
StopsAt own n k None = k ≡ n
StopsAt own n k (Some error) = (k < n) × (own k ≡ Some error)
