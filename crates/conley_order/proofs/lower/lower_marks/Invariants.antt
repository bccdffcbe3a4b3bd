use Rattle.std.proofs.Common.{◌≡◌, ◌<◌, ℕ, false, length, get_or}
use Rattle.conley_order.specs.LowerRows.{lower_by}
use Rattle.conley_order.proofs.lower.lower_marks.Given as goal

abbrev pub invariant-loop-q : goal.invariant-loop-q
invariant-loop-q g l = record {
  width : length l.row.items ≡ l.q;
  marks : (k : ℕ) → k < l.q → get_or l.row.items k false ≡ lower_by (g.G.Grading.is_below l.grading) l.cells k l.p;
}
