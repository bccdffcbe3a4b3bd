use Rattle.std.proofs.Common.{arith, ◌<◌, length, ap}
use Rattle.conley_lists.specs.Lists.{items_of}
use Rattle.conley_lists.proofs.ListLemmas.{row_of, length-items_of}
use Rattle.conley_morse.specs.Covers.{lower_test}
use Rattle.conley_morse.proofs.OrderLemmas.{lower_by_sets, covers_more}
use Rattle.conley_morse.proofs.order.covers.Goals as goal

pub push_covers-requires-clause-lower : goal.push_covers-requires-clause-lower
push_covers-requires-clause-lower c =
    let rows = c.in_ok-lower.lower.items in
    let are = lower_by_sets c.args.rows.now (items_of c.args.sets.now) (length c.args.sets.now) c.in_ok-firsts.firsts.items (items_of rows)
    c.in_ok-firsts.ensures (rw (c.as_slice-cells.ensures.value, c.in_ok-firsts.ensures.count) at c.in_ok-lower.ensures) in
    let lt : c.loop-p.p < length rows = omega (arith, are.height, length-items_of rows, c.loop-p-test.true) in
    let row = row_of rows c.loop-p.p c.index.result.now lt c.index.ensures in
    omega (arith, are.width c.loop-p.p c.loop-p-test.true, ap length row, ap length c.deref-in-loop-p.ensures.value)

pub loop-p-preserved : goal.loop-p-preserved
loop-p-preserved c =
    let rows = c.in_ok-lower.lower.items in
    let are = lower_by_sets c.args.rows.now (items_of c.args.sets.now) (length c.args.sets.now) c.in_ok-firsts.firsts.items (items_of rows)
    c.in_ok-firsts.ensures (rw (c.as_slice-cells.ensures.value, c.in_ok-firsts.ensures.count) at c.in_ok-lower.ensures) in
    let lt : c.loop-p.p < length rows = omega (arith, are.height, length-items_of rows, c.loop-p-test.true) in
    let row = row_of rows c.loop-p.p c.index.result.now lt c.index.ensures in
    let adds = rw (c.deref-in-loop-p.ensures.value, c.deref-in-loop-p-2.ensures.value, ← row) at c.in_ok-push_covers.ensures in
    let still = rw c.deref.ensures.value at c.in_ok-between.ensures.bits in
    covers_more (lower_test c.args.rows.now (items_of c.args.sets.now)) (length c.args.sets.now) c.loop-p.p (items_of rows) c.in_ok-between.between.items
    c.loop-p.order.items c.push_covers.new.order.items are c.loop-p-test.true still c.loop-p.invariant adds
