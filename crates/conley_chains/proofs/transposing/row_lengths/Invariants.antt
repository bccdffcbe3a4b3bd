use Rattle.std.proofs.Common.{◌≡◌, length}
use Rattle.conley_chains.proofs.transposing.row_lengths.Given as goal

abbrev pub invariant-loop-column : goal.invariant-loop-column
invariant-loop-column l = length l.lengths.items ≡ l.count
