-- one node more
use Rattle.std.proofs.Common.{arith, ◌<◌, length, get_or}
use Rattle.std.proofs.lemmas.List.{take_more}
use Rattle.conley_digraph.proofs.CloseLemmas.{closes_more}
use Rattle.conley_digraph.proofs.search.close_all.Goals as goal

pub loop-x-preserved : goal.loop-x-preserved
loop-x-preserved c =
    let lt : get_or c.args.nodes.now c.loop-x.x-index 0 < length c.loop-x.stages = omega (arith, c.requires c.loop-x.x-index 0 c.loop-x-test.true) in
    rw (take_more c.args.nodes.now c.loop-x.x-index 0 c.loop-x-test.true) (closes_more _ _ _ _ _ c.loop-x.invariant lt)
