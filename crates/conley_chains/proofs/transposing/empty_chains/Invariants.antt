use Rattle.std.proofs.Common.{◌≡◌, ℕ, [], length, get_or}
use Rattle.conley_chains.proofs.transposing.empty_chains.Given as goal

abbrev pub invariant-loop-count : goal.invariant-loop-count
invariant-loop-count l = (length l.chains.items ≡ l.count-index) × ((k : ℕ) → get_or l.chains.items k [] ≡ [])
