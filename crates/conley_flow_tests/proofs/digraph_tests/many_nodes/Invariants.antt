use Rattle.std.proofs.Common.{◌≡◌, ◌≤◌, length}
use Rattle.conley_lists.specs.Lists.{items_of, entries_of}
use Rattle.conley_flow_tests.proofs.digraph_tests.many_nodes.Given as goal

abbrev pub invariant-loop-x : goal.invariant-loop-x
invariant-loop-x l = (length l.lists.items ≡ l.x) × (length (entries_of (items_of l.lists.items)) ≤ l.x)
