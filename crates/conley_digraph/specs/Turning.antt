-- Digraphs turned round.
--     PutsUnderEach old new heads x    the list of each head has x besides
--     StayAscending old new heads x    ascending lists of numbers below x ascend still, where the heads do
--     IsTurnedRound lists turned       a step leads from y to x where one led from x to y, and lists ascend where those given do
use Rattle.std.specs.Prelude.{◌≡◌, ◌⊎◌, ◌<◌, ◌↔◌, ℕ, List, [], Contains, length, slice_index_or}
use Rattle.std.specs.List.Sorted.{IsStrictlyIncreasing}
use Rattle.conley_lists.specs.Lists.{ListedStep, AllAscend}

pub record PutsUnderEach (old new : List (List ℕ)) (heads : List ℕ) (x : ℕ) : Type 0 where
  pub count : length new ≡ length old
  pub steps : (a b : ℕ) → ListedStep new a b ↔ (ListedStep old a b ⊎ (Contains heads a × (b ≡ x)))
  -- all other lists stay
  pub kept : (k : ℕ) → ¬ Contains heads k → slice_index_or new k [] ≡ slice_index_or old k []

abbrev pub StayAscending : List (List ℕ) → List (List ℕ) → List ℕ → ℕ → Type 0
StayAscending old new heads x = IsStrictlyIncreasing heads → ((a b : ℕ) → ListedStep old a b → b < x) → AllAscend old → AllAscend new

-- of the steps from the first n nodes
pub record IsTurnedSoFar (lists turned : List (List ℕ)) (n : ℕ) : Type 0 where
  pub count : length turned ≡ length lists
  pub steps : (x y : ℕ) → ListedStep turned y x ↔ ((x < n) × ListedStep lists x y)
  pub ascending : AllAscend lists → AllAscend turned

pub record IsTurnedRound (lists turned : List (List ℕ)) : Type 0 where
  pub count : length turned ≡ length lists
  pub steps : (x y : ℕ) → ListedStep turned y x ↔ ListedStep lists x y
  pub ascending : AllAscend lists → AllAscend turned
