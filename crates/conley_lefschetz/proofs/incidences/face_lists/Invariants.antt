use Rattle.std.proofs.Common.{◌≡◌, ◌≤◌, ℕ, [], replicate, length}
use Rattle.std.specs.Prelude.{◌↔◌}
use Rattle.conley_lists.specs.Lists.{items_of, ListedStep, entries_of}
use Rattle.conley_lefschetz.specs.Fault.{StoodBefore}
use Rattle.conley_lefschetz.proofs.incidences.face_lists.Given as goal

-- lists without entries
abbrev pub invariant-loop : goal.invariant-loop
invariant-loop l = items_of l.lists.items ≡ replicate l.counter []

abbrev pub invariant-loop-incidence : goal.invariant-loop-incidence
invariant-loop-incidence l = record {
  count : length l.lists.items ≡ l.cells;
  entries : length (entries_of (items_of l.lists.items)) ≤ l.incidence-index;
  steps : (x y : ℕ) → ListedStep (items_of l.lists.items) x y ↔ StoodBefore l.incidences l.incidence-index x y;
}
