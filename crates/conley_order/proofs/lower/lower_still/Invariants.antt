use Rattle.std.proofs.Common.{◌≡◌, ◌+◌, ◌/◌, [], length, get_or}
use Rattle.conley_lists.specs.Lists.{items_of}
use Rattle.conley_order.proofs.LowerRowLemmas.{StillSoFar}
use Rattle.conley_order.proofs.lower.lower_still.Given as goal

abbrev pub invariant-loop-r : goal.invariant-loop-r
invariant-loop-r l = record {
  width : length l.words.items ≡ (length l.lower + 63) / 64;
  bits : StillSoFar (items_of l.lower) (get_or (items_of l.lower) l.p []) l.r l.words.items;
}
