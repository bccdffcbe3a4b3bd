-- one node more
use Rattle.std.proofs.Common.{arith}
use Rattle.conley_lists.proofs.ListLemmas.{row_in_range, row_of, length-items_of}
use Rattle.conley_digraph.proofs.TurningLemmas.{turned_more, turned_all}
use Rattle.conley_digraph.proofs.turning.turned_round.Goals as goal

pub put_under_each-requires : goal.put_under_each-requires
put_under_each-requires c =
    let all = row_in_range c.args.steps.now c.loop-x.x c.index-steps-x.result c.requires.digraph c.loop-x-test.true c.index-steps-x.is in
    rw c.deref.ensures.value
    (λ k d lt. omega (arith, all k d lt, c.loop-x.invariant.count, length-items_of c.args.steps.now, length-items_of c.loop-x.lists.items))

pub loop-x-preserved : goal.loop-x-preserved
loop-x-preserved c =
    let row = row_of c.args.steps.now c.loop-x.x c.index-steps-x.result c.loop-x-test.true c.index-steps-x.is in
    turned_more _ _ _ _ c.loop-x.invariant (rw (c.deref.ensures.value, ← row) at c.in_ok-put_under_each.ensures.puts)
    (rw (c.deref.ensures.value, ← row) at c.in_ok-put_under_each.ensures.ascending)

pub returns : goal.returns
returns c = turned_all _ _ _ (omega (arith, length-items_of c.args.steps.now, c.loop-x-test.false)) c.loop-x.invariant
