use Rattle.std.proofs.Common.{arith, ◌≤◌, ◌*◌, length, ap}
use Rattle.conley_order.specs.LowerRows.{lower_by}
use Rattle.conley_order.proofs.LowerRowLemmas.{lower_more}
use Rattle.conley_order.proofs.lower.lower_rows.Goals as goal

pub loop-p-preserved : goal.loop-p-preserved
loop-p-preserved g c =
    let row = c.in_ok-words_of.field-0 in
    let wide : length c.args.cells.now ≤ 64 * length row.items = omega (
      arith,
      c.in_ok-words_of.ensures.width,
      c.in_ok-marks.ensures.width,
      ap length c.deref.ensures.value,
      row.ok.0,
    ) in
    rw c.in_ok-push.ensures.items
    (lower_more (lower_by (g.G.Grading.is_below c.args.grading.now) c.args.cells.now) (length c.args.cells.now) c.loop-p.p c.loop-p.lower.items row
    c.loop-p.invariant wide (λ q lq.
    rw (c.deref.ensures.value, c.in_ok-marks.ensures.marks q lq) at (c.in_ok-words_of.ensures.bits q)))
