use Rattle.std.proofs.Common.{length}
use Rattle.conley_lists.specs.Lists.{items_of}
use Rattle.conley_morse.specs.Covers.{lower_test, AreCoversSoFar}
use Rattle.conley_morse.proofs.order.covers.Given as goal

abbrev pub invariant-loop-p : goal.invariant-loop-p
invariant-loop-p l = AreCoversSoFar (lower_test l.rows (items_of l.sets)) (length l.sets) l.p l.order.items
