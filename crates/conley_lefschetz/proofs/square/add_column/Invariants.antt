use Rattle.conley_lefschetz.proofs.SquareLemmas.{IsSquareSoFar}
use Rattle.conley_lefschetz.proofs.square.add_column.Given as goal

abbrev pub invariant-loop-e : goal.invariant-loop-e
invariant-loop-e g l = IsSquareSoFar (g.F.Field.arithmetic l.field) l.matrix l.x l.e-index l.sums
