use Rattle.std.proofs.Common.{arith, ◌<◌, length, ap}
use Rattle.conley_lists.specs.Lists.{items_of}
use Rattle.conley_lists.proofs.ListLemmas.{row_of, length-items_of}
use Rattle.conley_morse.proofs.OrderLemmas.{first_read, first_more}
use Rattle.conley_morse.proofs.order.firsts_of.Goals as goal

pub index-requires : goal.index-requires
index-requires c =
    let first = c.requires c.loop-i.i (omega (arith, c.loop-i-test.true, length-items_of c.args.sets.now)) in
    let row = row_of c.args.sets.now c.loop-i.i c.index-sets-i.result c.loop-i-test.true c.index-sets-i.is in
    omega (arith, first.0, ap length row, c.index-sets-i.result.ok.0)

pub loop-i-preserved : goal.loop-i-preserved
loop-i-preserved c =
    let first = c.requires c.loop-i.i (omega (arith, c.loop-i-test.true, length-items_of c.args.sets.now)) in
    let read = first_read c.args.sets.now c.loop-i.i c.index-sets-i.result c.index.result.now c.loop-i-test.true c.index-sets-i.is first.0 c.index.ensures in
    rw c.in_ok-push.ensures.items (first_more c.args.rows.now (items_of c.args.sets.now) c.loop-i.i c.loop-i.firsts.items c.index.result.now c.loop-i.invariant
    read (omega (arith, first.1, read)))
