use Rattle.std.proofs.Common.{◌≡◌, ℕ, take, length}
use Rattle.std.specs.Prelude.{Contains, slice_index}
use Rattle.conley_lists.specs.Lists.{items_of, ListedStep}
use Rattle.conley_order.specs.ClassRows.{word_bit}
use Rattle.conley_digraph.specs.Rows.{IsRowSoFar}
use Rattle.conley_digraph.proofs.rows.row_of.Given as goal

-- the heads of the members so far are joined
abbrev pub invariant-loop-x : goal.invariant-loop-x
invariant-loop-x l = record {
  row : IsRowSoFar (items_of l.steps) l.class_of (length l.rows) l.class l.row.items;
  heads : (x y : ℕ) → Contains (take l.x-index l.members) x → ListedStep (items_of l.steps) x y → word_bit l.row.items (slice_index l.class_of y) ≡ 1;
}
