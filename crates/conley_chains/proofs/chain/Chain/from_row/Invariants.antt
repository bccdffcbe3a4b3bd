use Rattle.conley_chains.proofs.RowLemmas.{IsKeptSoFar}
use Rattle.conley_chains.proofs.chain.Chain.from_row.Given as goal

abbrev pub invariant-loop-i : goal.invariant-loop-i
invariant-loop-i l = IsKeptSoFar l.row l.i l.chain
