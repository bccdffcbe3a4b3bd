use Rattle.conley_chains.proofs.RunLemmas.{AreRunsSoFar}
use Rattle.conley_chains.proofs.matrix.columns_of.Given as goal

abbrev pub invariant-loop-column : goal.invariant-loop-column
invariant-loop-column l = AreRunsSoFar l.placed l.column l.start l.columns.items
