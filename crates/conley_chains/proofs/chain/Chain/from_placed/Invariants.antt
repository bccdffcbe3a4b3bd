use Rattle.std.proofs.Common.{◌≡◌, map, take}
use Rattle.conley_chains.specs.Placing.{pair_of}
use Rattle.conley_chains.proofs.chain.Chain.from_placed.Given as goal

abbrev pub invariant-loop-entry : goal.invariant-loop-entry
invariant-loop-entry l = l.kept.items ≡ map pair_of (take l.entry-index l.placed)
