-- one cell more
use Rattle.std.proofs.Common.{arith, ◌<◌, length}
use Rattle.conley_transitions.proofs.HeadLemmas.{transitions_more}
use Rattle.conley_transitions.proofs.steps.all_heads.Goals as goal

pub loop-x-preserved : goal.loop-x-preserved
loop-x-preserved c =
    let lt : c.loop-x.x < length c.args.faces.now = omega (arith, c.loop-x-test.true, c.count-x-end.ensures.count) in
    rw c.in_ok-push.ensures.items
    (transitions_more c.args.faces.now c.args.partition.now c.loop-x.x c.loop-x.lists.items c.in_ok-heads_of.field-0 lt c.loop-x.invariant
    c.in_ok-heads_of.ensures)
