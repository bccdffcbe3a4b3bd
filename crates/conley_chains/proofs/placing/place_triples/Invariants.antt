use Rattle.std.proofs.Common.{length}
use Rattle.conley_chains.specs.Faults.{triple_at, own_fault_within}
use Rattle.conley_chains.proofs.ReadingLemmas.{IsPlacedSoFar}
use Rattle.conley_chains.proofs.placing.place_triples.Given as goal

abbrev pub invariant-loop-k : goal.invariant-loop-k
invariant-loop-k l = IsPlacedSoFar (length l.entries) (triple_at l.entries) (own_fault_within l.rows l.columns l.order l.entries) l.k l.placed.items
