use Rattle.conley_chains.proofs.TransposeLemmas.{IsTransposedSoFar}
use Rattle.conley_chains.proofs.matrix.Matrix.transpose.Given as goal

abbrev pub invariant-loop-k : goal.invariant-loop-k
invariant-loop-k l = IsTransposedSoFar l.self.rows l.self.columns l.k l.rows.items
