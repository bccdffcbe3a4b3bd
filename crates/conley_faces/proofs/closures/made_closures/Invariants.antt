use Rattle.std.proofs.Common.{◌≡◌, length}
use Rattle.conley_lists.specs.Lists.{items_of}
use Rattle.conley_faces.specs.Closures.{AreClosuresSoFar, IsUnmarked, unmade}
use Rattle.conley_faces.proofs.closures.made_closures.Given as goal

abbrev pub invariant-loop-seen : goal.invariant-loop-seen
invariant-loop-seen l = record {
  state : AreClosuresSoFar (items_of l.direct) (items_of l.closures.items);
  width : length l.seen.items ≡ length l.direct;
  unmarked : IsUnmarked l.seen.items;
}

-- the closures that aren't made
abbrev pub decreases-loop-seen : goal.decreases-loop-seen
decreases-loop-seen l = unmade (items_of l.closures.items)
