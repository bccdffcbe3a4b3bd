use Rattle.conley_chains.proofs.AppendLemmas.{IsAppendedSoFar}
use Rattle.conley_chains.proofs.chain.Chain.append.Given as goal

abbrev pub invariant-loop-e : goal.invariant-loop-e
invariant-loop-e g l = IsAppendedSoFar (g.F.Field.arithmetic l.field) l.fn.self l.by l.other l.e-index l.self
