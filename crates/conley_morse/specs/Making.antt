-- What the steps that find the Morse sets say of what they made; no public clause cites it.
--     LiesInOnePart part_of class                        the cells of the class have the part of its first
--     HasTwoParts part_of class                          some cell of the class has another part than its first
--     ClassCounts flow class                             each cell of the class is one whose class counts
--     AreCountedSoFar F c part_of lists n sets numbers   those of the first n classes that count, with their Conley numbers
use Rattle.std.specs.Prelude.{◌≡◌, ◌≢◌, ◌<◌, ◌≤◌, ℕ, List, Contains, length, slice_index}
use Rattle.conley_field.specs.Arithmetic.{Arithmetic}
use Rattle.conley_lefschetz.specs.Complex.{Layout}
use Rattle.conley_transitions.specs.Flow.{Flow, StepOf, Counts}
use Rattle.conley_transitions.specs.Morse.{set_at, StandInOrder}
use Rattle.conley_graph.specs.Decomposition.{flow_of, HaveConleyNumbers}

abbrev pub LiesInOnePart : List ℕ → List ℕ → Type 0
LiesInOnePart part_of class = (x : ℕ) → Contains class x → slice_index part_of x ≡ slice_index part_of (slice_index class 0)

abbrev pub HasTwoParts : List ℕ → List ℕ → Type 0
HasTwoParts part_of class = (x : ℕ) × Contains class x × (slice_index part_of x ≢ slice_index part_of (slice_index class 0))

abbrev pub ClassCounts : Flow → List ℕ → Type 0
ClassCounts flow class = (x : ℕ) → Contains class x → Counts (StepOf flow) flow x

pub record AreCountedSoFar (F : Arithmetic) (c : Layout) (part_of : List ℕ) (lists : List (List ℕ)) (n : ℕ) (sets numbers : List (List ℕ)) : Type 0 where
  pub few : length sets ≤ n
  pub come : (i : ℕ) → i < length sets → (k : ℕ) × (k < n) × (set_at sets i ≡ set_at lists k) × ClassCounts (flow_of F c part_of) (set_at lists k)
  pub all : (k : ℕ) → k < n → ClassCounts (flow_of F c part_of) (set_at lists k) → (i : ℕ) × (i < length sets) × (set_at sets i ≡ set_at lists k)
  pub in_order : StandInOrder sets
  pub numbers_count : length numbers ≡ length sets
  pub conley : HaveConleyNumbers F c sets numbers
