use Rattle.std.proofs.Common.{◌≡◌, length}
use Rattle.conley_lists.specs.Lists.{items_of}
use Rattle.conley_mvf.specs.Making.{MarkedSoFar}
use Rattle.conley_mvf.proofs.faults.first_repeat.Given as goal

abbrev pub invariant-loop-list : goal.invariant-loop-list
invariant-loop-list l = record {
  width : length l.seen.items ≡ l.cells;
  so_far : MarkedSoFar (items_of l.lists) l.list l.seen.items;
}
