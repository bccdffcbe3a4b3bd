use Rattle.conley_faces.proofs.MarkLemmas.{AreLeft}
use Rattle.conley_faces.proofs.lists.unmark.Given as goal

abbrev pub invariant-loop-y : goal.invariant-loop-y
invariant-loop-y l = AreLeft l.list l.y-index l.fn.seen l.seen
