use Rattle.conley_field.specs.Arithmetic.{Arithmetic}
use Rattle.conley_chains.proofs.ColumnLemmas.{IsBuiltSoFar}
use Rattle.conley_chains.proofs.matrix.Matrix.empty.Given as goal

abbrev pub invariant-loop-turn : goal.invariant-loop-turn
invariant-loop-turn l = (K : Arithmetic) → IsBuiltSoFar K l.rows (λ row column. 0) l.turn l.kept.items
