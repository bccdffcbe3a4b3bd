-- Classes numbered in the order of their least nodes.
--     IsRenumbered numbers class_of n                    the first n nodes are told apart as before, by numbers in the order of their first nodes
--     IsRenumberedSoFar numbers class_of renamed next n  and `renamed` has the new number of each number that was seen, which are those below `next`
use Rattle.std.specs.Prelude.{◌≡◌, ◌<◌, ◌≤◌, ℕ, List, Option, None, Some, length, slice_index, slice_index_or}
use Rattle.conley_lists.specs.Gathered.{IsNumberedUpTo, AreTaken, AreToldApart}

pub record IsRenumbered (numbers class_of : List ℕ) (n : ℕ) : Type 0 where
  pub count : length class_of ≡ n
  pub same : AreToldApart n class_of numbers
  -- each smaller number is that of an earlier node
  pub in_order : IsNumberedUpTo n class_of
  pub low : (x : ℕ) → x < n → slice_index class_of x ≤ x

pub record IsRenumberedSoFar (numbers class_of : List ℕ) (renamed : List (Option ℕ)) (next n : ℕ) : Type 0 where
  pub done : IsRenumbered numbers class_of n
  pub few : next ≤ n
  pub known : (x : ℕ) → x < n → slice_index_or renamed (slice_index numbers x) None ≡ Some (slice_index class_of x)
  pub named : (k c : ℕ) → slice_index_or renamed k None ≡ Some c → (c < next) × ((x : ℕ) × (x < n) × (slice_index numbers x ≡ k) × (slice_index class_of x ≡ c))
  pub used : AreTaken next n class_of
