use Rattle.std.proofs.Common.{◌≡◌, length}
use Rattle.conley_lists.specs.Lists.{items_of}
use Rattle.conley_digraph.specs.Rows.{AreRowsSoFar}
use Rattle.conley_digraph.proofs.rows.class_rows.Given as goal

-- the classes so far have their rows
abbrev pub invariant-loop-x : goal.invariant-loop-x
invariant-loop-x l = record {
  count : length l.rows.items ≡ length l.members.items;
  so_far : AreRowsSoFar (items_of l.steps) l.class_of l.order l.x-index (items_of l.rows.items);
}
