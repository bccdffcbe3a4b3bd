use Rattle.std.proofs.Common.{length}
use Rattle.conley_chains.specs.Faults.{pair_at, own_fault_at}
use Rattle.conley_chains.proofs.ReadingLemmas.{IsPlacedSoFar}
use Rattle.conley_chains.proofs.placing.place_pairs.Given as goal

abbrev pub invariant-loop-k : goal.invariant-loop-k
invariant-loop-k l =
    IsPlacedSoFar (length l.entries) (λ k. ((pair_at l.entries k).0, 0, (pair_at l.entries k).1)) (own_fault_at l.order l.entries) l.k l.placed.items
