use Rattle.std.proofs.Common.{◌<◌, ◌≤◌, ℕ, [], get_or}
use Rattle.conley_lists.specs.Lists.{items_of, ListedStep}
use Rattle.conley_hull.specs.Making.{IsTable, IsClosedOver, Closes, LetsMovedWait, IsSettled, work}
use Rattle.conley_hull.proofs.closing.take_between.Given as goal

abbrev pub invariant-loop-y : goal.invariant-loop-y
invariant-loop-y l = record {
  table : IsTable l.labels.items (items_of l.cells.items);
  closes : Closes (IsClosedOver (ListedStep (items_of l.lists))) l.fn.labels.items l.labels.items;
  waits : LetsMovedWait l.fn.labels.items l.labels.items l.fn.waiting.items l.waiting.items;
  settled : (j z : ℕ) → j < l.y-index → ListedStep (items_of l.lists) (get_or (get_or (items_of l.lists) l.x []) j 0) z
      → IsSettled l.labels.items l.waiting.items l.x (get_or (get_or (items_of l.lists) l.x []) j 0) z;
  work : work (items_of l.cells.items) l.waiting.items ≤ work (items_of l.fn.cells.items) l.fn.waiting.items;
}
