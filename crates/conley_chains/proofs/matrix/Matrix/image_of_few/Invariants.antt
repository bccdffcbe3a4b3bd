use Rattle.conley_chains.proofs.MatrixLemmas.{IsImageSoFar}
use Rattle.conley_chains.proofs.matrix.Matrix.image_of_few.Given as goal

abbrev pub invariant-loop-e : goal.invariant-loop-e
invariant-loop-e g l = IsImageSoFar (g.F.Field.arithmetic l.field) l.self l.entries l.e-index l.image
