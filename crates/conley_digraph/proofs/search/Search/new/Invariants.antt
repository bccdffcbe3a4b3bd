use Rattle.std.proofs.Common.{◌≡◌, ◌<◌, ◌+◌, ℕ, [], length, get_or}
use Rattle.conley_lists.specs.Lists.{items_of}
use Rattle.conley_digraph.proofs.search.Search.new.Given as goal

abbrev pub invariant-loop-heads : goal.invariant-loop-heads
invariant-loop-heads l = record {
  count : length l.turns.items ≡ l.heads-index;
  wants : (y : ℕ) → y < l.heads-index → get_or l.turns.items y 0 ≡ length (get_or (items_of l.steps) y []) + 1;
}
