use Rattle.std.proofs.Common.{ℕ, take}
use Rattle.std.specs.Prelude.{Contains, ◌↔◌}
use Rattle.conley_lists.specs.Lists.{items_of}
use Rattle.conley_faces.specs.Closures.{IsInListOf, AreMarked}
use Rattle.conley_faces.proofs.lists.marked.Given as goal

abbrev pub invariant-loop-x : goal.invariant-loop-x
invariant-loop-x l = record {
  marks : AreMarked l.seen l.all.items;
  same : (y : ℕ) → Contains l.all.items y ↔ IsInListOf (items_of l.lists) (take l.x-index l.cells) y;
}
