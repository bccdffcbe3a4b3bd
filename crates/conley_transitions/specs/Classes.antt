-- The recurrence classes as lists.
--     AreRecurrenceClasses faces part_of classes    each class is a list of cells, ascending, and the lists stand in the order of their least cells
-- After Mrozek and Wanner; the wording is this project's own.
use Rattle.std.specs.Prelude.{◌≡◌, ◌↔◌, ◌<◌, ℕ, List, Contains, length}
use Rattle.std.specs.List.Sorted.{IsStrictlyIncreasing}
use Rattle.conley_walk.specs.Walk.{AreRecurrent}
use Rattle.conley_transitions.specs.Step.{Step}
use Rattle.conley_transitions.specs.Morse.{set_at, IsAt, StandInOrder}

pub record AreRecurrenceClasses (faces : List (List ℕ)) (part_of : List ℕ) (classes : List (List ℕ)) : Type 0 where
  pub non_empty : (k : ℕ) → k < length classes → 0 < length (set_at classes k)
  pub cells : (k x : ℕ) → Contains (set_at classes k) x → x < length part_of
  pub all : (x : ℕ) → x < length part_of → (k : ℕ) × IsAt classes x k
  pub once : (j k x : ℕ) → Contains (set_at classes j) x → Contains (set_at classes k) x → j ≡ k
  -- a class has the cells that a cell of it reaches and is reached from
  pub same : (k x y : ℕ) → Contains (set_at classes k) x → Contains (set_at classes k) y ↔ AreRecurrent (Step faces part_of) x y
  pub ascending : (k : ℕ) → IsStrictlyIncreasing (set_at classes k)
  pub in_order : StandInOrder classes
