-- What the steps that make the digraph of transitions say of what they made; no public clause cites it.
--     IsNextIn cells x y               y stands after x in the list; after the last stands the first
--     HasHeads faces part_of x heads   the heads of the cell x
--     HasTransitionsSoFar faces part_of n lists   the lists of the first n cells
use Rattle.std.specs.Prelude.{◌≡◌, ◌⊎◌, ◌↔◌, ◌+◌, ◌<◌, ◌≤◌, ℕ, List, [], Contains, length, take, slice_index, slice_index_or}
use Rattle.conley_lists.specs.Lists.{ListedStep, entries_of}
use Rattle.conley_transitions.specs.Step.{IsNext}

abbrev pub IsNextIn : List ℕ → ℕ → ℕ → Type 0
IsNextIn cells x y = (k : ℕ) × (k < length cells) × (slice_index cells k ≡ x) × (((k + 1 < length cells) × (y ≡ slice_index cells (k + 1)))
    ⊎ ((length cells ≤ k + 1) × (y ≡ slice_index cells 0)))

pub record HasHeads (faces : List (List ℕ)) (part_of : List ℕ) (x : ℕ) (heads : List ℕ) : Type 0 where
  pub steps : (y : ℕ) → Contains heads y ↔ (ListedStep faces x y ⊎ IsNext part_of x y)
  pub few : length heads ≤ length (slice_index_or faces x []) + 1

pub record HasTransitionsSoFar (faces : List (List ℕ)) (part_of : List ℕ) (n : ℕ) (lists : List (List ℕ)) : Type 0 where
  pub count : length lists ≡ n
  pub steps : (x y : ℕ) → x < n → ListedStep lists x y ↔ (ListedStep faces x y ⊎ IsNext part_of x y)
  -- one entry more at most for each cell
  pub entries : length (entries_of lists) ≤ length (entries_of (take n faces)) + n
