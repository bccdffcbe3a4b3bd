use Rattle.std.proofs.Common.{◌<◌, ℕ, length}
use Rattle.std.specs.Prelude.{Contains}
use Rattle.conley_lists.specs.Lists.{items_of, ListedStep}
use Rattle.conley_mvf.specs.Partition.{HaveNoGap}
use Rattle.conley_hull.specs.Making.{IsTable, Closes, GapsWait, work}
use Rattle.conley_hull.proofs.closing.close_all.Given as goal

abbrev pub invariant-loop-x : goal.invariant-loop-x
invariant-loop-x l = record {
  table : IsTable l.labels.items (items_of l.cells.items);
  closes : Closes (HaveNoGap l.faces) l.fn.labels.items l.labels.items;
  cells : (x : ℕ) → Contains l.waiting.items x → x < length l.faces;
  settled : GapsWait (ListedStep (items_of l.below)) l.labels.items l.waiting.items;
}

abbrev pub decreases-loop-x : goal.decreases-loop-x
decreases-loop-x l = work (items_of l.cells.items) l.waiting.items
