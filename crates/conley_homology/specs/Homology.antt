-- Lists of cycles by dimension, and what they are of a set of cells in a complex.
--     cycle_at numbers cycles k i              cycle i of those of dimension k, as its code at each cell
--     IsHomology F c set numbers cycles        the cycles of each dimension are so many, and a basis modulo relative boundaries
--     AreListed Q n list                       the numbers below n of which Q holds are those of the list
--     IsCounted Q n count                      Q holds of so many numbers below n
--     IsCollected kept Q n count before after  chains of the numbers below n of which Q holds stand after others
use Rattle.std.specs.Prelude.{◌≡◌, ℕ, ◌+◌, ◌<◌, ◌≤◌, List, [], length, take, sum, map, ◌++◌, slice_index, slice_index_or}
use Rattle.conley_field.specs.Arithmetic.{Arithmetic}
use Rattle.conley_algebra.specs.Entries.{Vector}
use Rattle.conley_algebra.specs.Listing.{IsListing}
use Rattle.conley_chains.specs.Chain.{coefficient}
use Rattle.conley_lefschetz.specs.Complex.{Layout}
use Rattle.conley_lefschetz.specs.Conley.{IsConleyBasis}

-- the cycles of each dimension stand after those of lower ones
abbrev pub cycle_at : List ℕ → List (List (ℕ × ℕ)) → ℕ → ℕ → Vector
cycle_at numbers cycles k i = coefficient (slice_index_or cycles (sum (take k numbers) + i) [])

pub record IsHomology (F : Arithmetic) (c : Layout) (set numbers : List ℕ) (cycles : List (List (ℕ × ℕ))) : Type 0 where
  pub levels_count : length numbers ≡ c.levels
  pub total : length cycles ≡ sum numbers
  pub basis : (k : ℕ) → k < c.levels → IsConleyBasis F c set k (slice_index numbers k) (cycle_at numbers cycles k)

-- the numbers below n of which Q holds are those of the list, each once
pub record AreListed (Q : ℕ → Type 0) (n : ℕ) (list : List ℕ) : Type 0 where
  pub most : length list ≤ n
  pub listing : IsListing n Q (length list) (λ i. slice_index_or list i 0)

-- Q holds of so many numbers below n
abbrev pub IsCounted : (ℕ → Type 0) → ℕ → ℕ → Type 0
IsCounted Q n count = (list : List ℕ) × ((length list ≡ count) × AreListed Q n list)

pub record IsCollected (kept : List (List (ℕ × ℕ))) (Q : ℕ → Type 0) (n count : ℕ) (before after : List (List (ℕ × ℕ))) : Type 0 where
  pub list : List ℕ
  pub list_count : length list ≡ count
  pub listed : AreListed Q n list
  pub items : after ≡ before ++ map (λ j. slice_index_or kept j []) list
