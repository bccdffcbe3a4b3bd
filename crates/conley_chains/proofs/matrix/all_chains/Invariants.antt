use Rattle.std.proofs.Common.{ℕ, [], ◌<◌, get_or}
use Rattle.conley_chains.specs.Chain.{IsChain}
use Rattle.conley_chains.proofs.matrix.all_chains.Given as goal

-- the columns so far are chains
abbrev pub invariant-loop-column : goal.invariant-loop-column
invariant-loop-column l = (k : ℕ) → k < l.column-index → IsChain (get_or l.columns k [])
