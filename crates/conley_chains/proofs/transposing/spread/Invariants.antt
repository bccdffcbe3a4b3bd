use Rattle.conley_chains.proofs.TransposeLemmas.{IsSpreadSoFar}
use Rattle.conley_chains.proofs.transposing.spread.Given as goal

abbrev pub invariant-loop-e : goal.invariant-loop-e
invariant-loop-e l = IsSpreadSoFar l.place l.column l.fn.rows.items l.e-index l.rows.items
