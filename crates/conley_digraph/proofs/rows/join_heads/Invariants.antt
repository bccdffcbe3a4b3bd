use Rattle.std.proofs.Common.{take, length}
use Rattle.std.specs.Prelude.{slice_index}
use Rattle.conley_lists.specs.Lists.{items_of}
use Rattle.conley_digraph.specs.Rows.{IsRowSoFar, JoinsHeads}
use Rattle.conley_digraph.proofs.rows.join_heads.Given as goal

-- the heads so far are joined
abbrev pub invariant-loop-y : goal.invariant-loop-y
invariant-loop-y l = record {
  row : IsRowSoFar (items_of l.steps) l.class_of (length l.rows) (slice_index l.class_of l.x) l.row;
  heads : JoinsHeads l.fn.row l.row l.class_of (take l.y-index l.y-items);
}
