use Rattle.conley_chains.proofs.PlacingLemmas.{IsLeastBelow}
use Rattle.conley_chains.proofs.placing.least_repeat.Given as goal

abbrev pub invariant-loop-k : goal.invariant-loop-k
invariant-loop-k l = IsLeastBelow l.placed l.k l.least
