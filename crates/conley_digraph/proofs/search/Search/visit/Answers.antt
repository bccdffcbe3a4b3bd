-- the node is met, and then one turn more is taken
use Rattle.std.proofs.Common.{arith, ◌<◌, length}
use Rattle.conley_lists.specs.Lists.{items_of}
use Rattle.conley_lists.proofs.ListLemmas.{length-items_of}
use Rattle.conley_digraph.proofs.ClosingLemmas.{visit_search, visit_keeps, visit_meets}
use Rattle.conley_digraph.proofs.search.Search.visit.Goals as goal

pub loop-self-init : goal.loop-self-init
loop-self-init c =
    let lists = items_of c.args.steps.now in
    let old = c.args.self.now in
    let new = c.meet.new.self in
    let node : c.args.root < length lists = omega (arith, c.requires.node, length-items_of c.args.steps.now) in
    record {
      search = visit_search lists old c.requires.search c.requires.path new c.args.root node c.requires.fresh c.in_ok-meet.ensures;
      met = visit_keeps lists old c.requires.search c.requires.path new c.args.root node c.requires.fresh c.in_ok-meet.ensures;
      root = visit_meets lists old c.requires.search c.requires.path new c.args.root node c.requires.fresh c.in_ok-meet.ensures;
    }

pub loop-self-preserved : goal.loop-self-preserved
loop-self-preserved c = record {
  search = c.in_ok-turn.ensures.search;
  met = λ y m. c.in_ok-turn.ensures.met y (c.loop-self.invariant.met y m);
  root = c.in_ok-turn.ensures.met c.args.root c.loop-self.invariant.root;
}
