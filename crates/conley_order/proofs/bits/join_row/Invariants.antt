use Rattle.conley_order.proofs.LowerRowLemmas.{JoinedSoFar}
use Rattle.conley_order.proofs.bits.join_row.Given as goal

abbrev pub invariant-loop-k : goal.invariant-loop-k
invariant-loop-k l = JoinedSoFar l.fn.words l.words l.row l.k
