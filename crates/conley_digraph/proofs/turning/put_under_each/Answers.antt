-- one head more
use Rattle.std.proofs.lemmas.List.{take_more}
use Rattle.conley_digraph.proofs.TurningLemmas.{put_more, ascending_more}
use Rattle.conley_digraph.proofs.turning.put_under_each.Goals as goal

pub loop-y-preserved : goal.loop-y-preserved
loop-y-preserved c = record {
  puts = rw (take_more c.args.heads.now c.loop-y.y-index 0 c.loop-y-test.true)
      (put_more _ _ _ _ _ _ c.loop-y.invariant.puts c.in_ok-put_under.ensures.puts);
  ascending = ascending_more _ _ _ _ _ _ c.loop-y-test.true c.loop-y.invariant.puts c.in_ok-put_under.ensures.puts c.loop-y.invariant.ascending;
}
