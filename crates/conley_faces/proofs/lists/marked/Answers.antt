use Rattle.std.proofs.Common.{arith, ◌<◌, length, get_or}
use Rattle.conley_lists.specs.Lists.{items_of}
use Rattle.conley_lists.proofs.ListLemmas.{row_of, take_whole, All-from_contained}
use Rattle.conley_faces.proofs.MarkLemmas.{listed-more}
use Rattle.conley_faces.proofs.lists.marked.Goals as goal

pub take_unmarked-requires-clause-range : goal.take_unmarked-requires-clause-range
take_unmarked-requires-clause-range c =
    let cell = get_or c.args.cells.now c.loop-x.x-index 0 in
    let row = row_of c.args.lists.now cell c.index-lists-x.result (c.requires.cells c.loop-x.x-index 0 c.loop-x-test.true) c.index-lists-x.is in
    rw (c.deref.ensures.value, ← row)
    (All-from_contained (λ y. y < length c.loop-x.seen) (get_or (items_of c.args.lists.now) cell _)
    (λ y s. let within = c.requires.range cell y s in omega (arith, within)))

pub loop-x-preserved : goal.loop-x-preserved
loop-x-preserved c =
    let cell = get_or c.args.cells.now c.loop-x.x-index 0 in
    let row = row_of c.args.lists.now cell c.index-lists-x.result (c.requires.cells c.loop-x.x-index 0 c.loop-x-test.true) c.index-lists-x.is in
    record {
      marks = c.in_ok-take_unmarked.ensures.marks;
      same = listed-more (items_of c.args.lists.now) c.args.cells.now c.loop-x.x-index _ _ c.loop-x-test.true c.loop-x.invariant.same
          (λ y. rw row (rw c.deref.ensures.value at (c.in_ok-take_unmarked.ensures.taken y)));
    }

pub returns-clause-same : goal.returns-clause-same
returns-clause-same c = λ y. rw (take_whole c.loop-x.x-index c.args.cells.now c.loop-x-test.false) at (c.loop-x.invariant.same y)
