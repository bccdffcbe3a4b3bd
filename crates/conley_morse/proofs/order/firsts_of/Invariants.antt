use Rattle.conley_lists.specs.Lists.{items_of}
use Rattle.conley_morse.specs.Covers.{AreFirstCells}
use Rattle.conley_morse.proofs.order.firsts_of.Given as goal

abbrev pub invariant-loop-i : goal.invariant-loop-i
invariant-loop-i l = AreFirstCells l.rows (items_of l.sets) l.i l.firsts.items
