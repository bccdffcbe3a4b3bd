use Rattle.std.proofs.Common.{length}
use Rattle.conley_lists.specs.Lists.{items_of}
use Rattle.conley_order.specs.LowerRows.{lower_by, AreLowerRows}
use Rattle.conley_order.proofs.lower.lower_rows.Given as goal

abbrev pub invariant-loop-p : goal.invariant-loop-p
invariant-loop-p g l = AreLowerRows (lower_by (g.G.Grading.is_below l.grading) l.cells) (length l.cells) l.p (items_of l.lower.items)
