use Rattle.conley_lists.specs.Lists.{items_of}
use Rattle.conley_lists.specs.Gathered.{AreGathered}
use Rattle.conley_lists.proofs.lists.gathered.Given as goal

abbrev pub invariant-loop-x : goal.invariant-loop-x
invariant-loop-x l = AreGathered l.numbers l.x (items_of l.lists.items)
