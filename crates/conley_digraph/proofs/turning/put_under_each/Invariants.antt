use Rattle.std.proofs.Common.{take}
use Rattle.conley_lists.specs.Lists.{items_of}
use Rattle.conley_digraph.specs.Turning.{PutsUnderEach, StayAscending}
use Rattle.conley_digraph.proofs.turning.put_under_each.Given as goal

abbrev pub invariant-loop-y : goal.invariant-loop-y
invariant-loop-y l = record {
  puts : PutsUnderEach (items_of l.fn.lists.items) (items_of l.lists.items) (take l.y-index l.heads) l.x;
  ascending : StayAscending (items_of l.fn.lists.items) (items_of l.lists.items) l.heads l.x;
}
