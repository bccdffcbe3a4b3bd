use Rattle.std.proofs.Common.{take}
use Rattle.conley_faces.specs.Closures.{AreMarked}
use Rattle.conley_faces.proofs.MarkLemmas.{AreTaken}
use Rattle.conley_faces.proofs.lists.take_unmarked.Given as goal

abbrev pub invariant-loop-y : goal.invariant-loop-y
invariant-loop-y l = record {
  marks : AreMarked l.seen l.taken.items;
  taken : AreTaken l.fn.taken.items (take l.y-index l.list) l.taken.items;
}
