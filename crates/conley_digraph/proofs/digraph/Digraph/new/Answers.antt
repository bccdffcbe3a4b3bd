use Rattle.std.proofs.Common.{arith}
use Rattle.conley_lists.proofs.ListLemmas.{length-items_of}
use Rattle.conley_lists.proofs.EntryLemmas.{digraph_same}
use Rattle.conley_digraph.proofs.digraph.Digraph.new.Goals as goal

pub invariant_of-result : goal.invariant_of-result
invariant_of-result c = record {
  few = omega (arith, c.in_ok-heads.ensures.count, length-items_of c.args.steps.now, c.requires.count);
  digraph = digraph_same _ _ c.in_ok-heads.ensures c.in_default.ensures.none;
  ascending = c.in_ok-heads.ensures.ascending;
}
