use Rattle.conley_chains.proofs.WithoutLemmas.{IsRestSoFar}
use Rattle.conley_chains.proofs.chain.Chain.without.Given as goal

abbrev pub invariant-loop-e : goal.invariant-loop-e
invariant-loop-e l = IsRestSoFar l.k l.q l.e-items l.e-index l.rest
