use Rattle.conley_mvf.proofs.FirstsLemmas.{PutsSoFar}
use Rattle.conley_mvf.proofs.numbering.put_first.Given as goal

abbrev pub invariant-loop-x : goal.invariant-loop-x
invariant-loop-x l = PutsSoFar l.fn.least.items l.least.items l.list l.x-index
