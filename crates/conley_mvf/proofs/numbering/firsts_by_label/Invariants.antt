use Rattle.conley_mvf.specs.Making.{FirstsSoFar}
use Rattle.conley_mvf.proofs.numbering.firsts_by_label.Given as goal

abbrev pub invariant-loop-x : goal.invariant-loop-x
invariant-loop-x l = FirstsSoFar l.labels l.x l.first.items l.least.items
