-- one node more is met, and at the end all are closed
use Rattle.std.proofs.Common.{arith, ◌≡◌, ◌<◌, length, below_more, ◌∙◌}
use Rattle.std.proofs.lemmas.List.{get_or_read}
use Rattle.conley_lists.specs.Lists.{items_of}
use Rattle.conley_lists.proofs.ListLemmas.{length-items_of}
use Rattle.conley_digraph.specs.declared.search.Stage.TheVariants.{New}
use Rattle.conley_digraph.specs.Search.{stage_of, IsMet}
use Rattle.conley_digraph.proofs.StackLemmas.{met_unless}
use Rattle.conley_digraph.proofs.ClosingLemmas.{met_closed, closing_all}
use Rattle.conley_digraph.proofs.search.closing_of.Goals as goal
use Rattle.conley_digraph.proofs.search.closing_of.Goals.{in-New+in_ok-visit, in_default}

pub loop-root-preserved : goal.loop-root-preserved
loop-root-preserved c =
    let cells = length-items_of c.args.steps.now in
    let node : c.loop-root.root < length c.loop-root.search.stages.items = omega (
      arith,
      c.loop-root-test.true,
      cells,
      c.loop-root.invariant.search.stages_are.count,
    ) in
    let at : c.index.result.now ≡ stage_of c.loop-root.search.stages.items c.loop-root.root =
    get_or_read c.loop-root.search.stages.items c.loop-root.root c.index.result.now node c.index.ensures New in
    elim c.match-index.branch [
      | in-New+in_ok-visit w ↦ rw w.search-is (record {
        search = w.in_ok-visit.ensures.search;
        path = w.in_ok-visit.ensures.path;
        met = below_more (IsMet w.visit.new.self.stages.items) c.loop-root.root (λ y lt. w.in_ok-visit.ensures.met y (c.loop-root.invariant.met y lt))
            w.in_ok-visit.ensures.root;
      })
      | in_default w ↦ rw w.search-is (record {
        search = c.loop-root.invariant.search;
        path = c.loop-root.invariant.path;
        met = below_more (IsMet c.loop-root.search.stages.items) c.loop-root.root c.loop-root.invariant.met
            (met_unless c.loop-root.search.stages.items c.loop-root.root (λ e. w.in_default.not-New (at ∙ e)));
      })
    ]

pub numbers_of-requires : goal.numbers_of-requires
numbers_of-requires c =
    rw c.deref.ensures.value (λ y lt.
    let state = c.loop-root.invariant in
    met_closed (items_of c.args.steps.now) c.loop-root.search state.search state.path y (state.met y
    (omega (arith, lt, c.loop-root-test.false, state.search.stages_are.count, length-items_of c.args.steps.now))))

pub returns : goal.returns
returns c =
    let search = c.loop-root.search in
    let numbered = rw c.deref.ensures.value at c.in_ok-numbers.ensures in
    closing_all (items_of c.args.steps.now) search.stages.items search.turns.items search.stack.items search.bounds.items search.path.items search.roots.items
    c.in_ok-numbers.numbers.items c.loop-root.invariant.search numbered
