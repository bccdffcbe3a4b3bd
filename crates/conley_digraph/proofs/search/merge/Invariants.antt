use Rattle.std.proofs.Common.{◌<◌, ◌≤◌, ℕ, length, get_or}
use Rattle.conley_digraph.proofs.search.merge.Given as goal

-- what isn't kept lies past the place
abbrev pub invariant-loop-kept : goal.invariant-loop-kept
invariant-loop-kept l = record {
  within : l.kept ≤ length l.bounds.items;
  past : (i : ℕ) → l.kept ≤ i → i < length l.bounds.items → l.place < get_or l.bounds.items i 0;
}

abbrev pub decreases-loop-kept : goal.decreases-loop-kept
decreases-loop-kept l = l.kept
