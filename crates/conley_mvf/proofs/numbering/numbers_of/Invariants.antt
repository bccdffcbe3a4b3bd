use Rattle.conley_mvf.specs.Making.{NumbersSoFar}
use Rattle.conley_mvf.proofs.numbering.numbers_of.Given as goal

abbrev pub invariant-loop-x : goal.invariant-loop-x
invariant-loop-x l = NumbersSoFar l.least l.x l.part_of.items l.next
