use Rattle.std.proofs.Common.{take}
use Rattle.conley_lists.specs.Lists.{items_of, IsOrderedCopy}
use Rattle.conley_lists.proofs.lists.all_ordered.Given as goal

abbrev pub invariant-loop-list : goal.invariant-loop-list
invariant-loop-list l = IsOrderedCopy (items_of l.copies.items) (items_of (take l.list-index l.lists))
