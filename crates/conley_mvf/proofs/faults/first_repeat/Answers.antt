use Rattle.std.proofs.Common.{arith, ◌≡◌, [], get_or, sym, ◌∙◌, subst, Some, None}
use Rattle.conley_lists.specs.Lists.{items_of}
use Rattle.conley_lists.proofs.ListLemmas.{length-items_of, row_of}
use Rattle.conley_mvf.specs.Making.{MarksPart}
use Rattle.conley_mvf.proofs.MarkLemmas.{all_below, repeat_here, so_far_more, so_far_all}
use Rattle.conley_mvf.proofs.faults.first_repeat.Goals as goal

pub mark_part-requires : goal.mark_part-requires
mark_part-requires c =
    let row = row_of c.args.lists.now c.loop-list.list c.index-lists-list.result c.loop-list-test.true c.index-lists-list.is in
    rw (c.deref.ensures.value, ← row) (λ k d lt. omega (
      arith,
      all_below (get_or (items_of c.args.lists.now) c.loop-list.list []) c.args.cells
          (c.requires c.loop-list.list) k d lt,
      c.loop-list.invariant.width,
    ))

pub returns-in-Some : goal.returns-in-Some
returns-in-Some c =
    let row = row_of c.args.lists.now c.loop-list.list c.index-lists-list.result c.loop-list-test.true c.index-lists-list.is in
    let here : c.deref.result.now ≡ get_or (items_of c.args.lists.now) c.loop-list.list [] = c.deref.ensures.value ∙ sym row in
    let marks = subst (λ part. MarksPart part c.loop-list.seen.items c.mark_part.new.seen.items (Some c.in-Some.place)) here c.in-Some.ensures.marks in
    repeat_here (items_of c.args.lists.now) c.loop-list.list c.loop-list.seen.items c.loop-list.invariant.so_far c.in-Some.place c.mark_part.new.seen.items
    marks

pub loop-list-preserved : goal.loop-list-preserved
loop-list-preserved c =
    let row = row_of c.args.lists.now c.loop-list.list c.index-lists-list.result c.loop-list-test.true c.index-lists-list.is in
    let here : c.deref.result.now ≡ get_or (items_of c.args.lists.now) c.loop-list.list [] = c.deref.ensures.value ∙ sym row in
    let marks = subst (λ part. MarksPart part c.loop-list.seen.items c.mark_part.new.seen.items None) here c.in_default.ensures.marks in
    record {
      width = omega (arith, c.in_default.ensures.width, c.loop-list.invariant.width);
      so_far = so_far_more (items_of c.args.lists.now) c.loop-list.list c.loop-list.seen.items c.loop-list.invariant.so_far c.mark_part.new.seen.items marks;
    }

pub returns : goal.returns
returns c = so_far_all _ _ _ (omega (arith, length-items_of c.args.lists.now)) c.loop-list.invariant.so_far
