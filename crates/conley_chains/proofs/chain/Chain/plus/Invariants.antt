use Rattle.std.proofs.Common.{length, ◌-◌, ◌+◌}
use Rattle.conley_chains.proofs.PlusLemmas.{IsSumSoFar}
use Rattle.conley_chains.proofs.chain.Chain.plus.Given as goal

abbrev pub invariant-loop-i : goal.invariant-loop-i
invariant-loop-i g l = IsSumSoFar (g.F.Field.arithmetic l.field) l.a l.by l.b l.i l.j l.sum

abbrev pub decreases-loop-i : goal.decreases-loop-i
decreases-loop-i g l = (length l.a - l.i) + (length l.b - l.j)
