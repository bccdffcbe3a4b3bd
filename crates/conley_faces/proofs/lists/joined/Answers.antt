use Rattle.std.proofs.Common.{get_or}
use Rattle.conley_lists.specs.Lists.{items_of}
use Rattle.conley_lists.proofs.ListLemmas.{row_of, take_whole}
use Rattle.conley_faces.proofs.MarkLemmas.{listed-more, taken-append}
use Rattle.conley_faces.proofs.lists.joined.Goals as goal

pub loop-x-preserved : goal.loop-x-preserved
loop-x-preserved c = λ y.
    let cell = get_or c.args.cells.now c.loop-x.x-index 0 in
    let lt = c.requires c.loop-x.x-index 0 c.loop-x-test.true in
    let row = row_of c.args.lists.now cell c.index-lists-x.result lt c.index-lists-x.is in
    rw (c.in_ok-extend_from_slice.ensures.items, c.deref.ensures.value, ← row)
    (listed-more (items_of c.args.lists.now) c.args.cells.now c.loop-x.x-index _ _ c.loop-x-test.true c.loop-x.invariant (taken-append _ _) y)

pub returns : goal.returns
returns c = λ y. rw (take_whole c.loop-x.x-index c.args.cells.now c.loop-x-test.false) at (c.loop-x.invariant y)
