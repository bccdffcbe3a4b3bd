use Rattle.std.proofs.Common.{arith, get_or, take, length, ◌<◌}
use Rattle.std.proofs.lemmas.List.{take_more}
use Rattle.conley_lists.proofs.ListLemmas.{take_whole}
use Rattle.conley_faces.proofs.MarkLemmas.{marked-more, taken-new, taken-old}
use Rattle.conley_faces.proofs.lists.take_unmarked.Goals.{then-not-seen-place+in_ok-push, else-not-seen-place}
use Rattle.conley_faces.proofs.lists.take_unmarked.Goals as goal

pub loop-y-preserved : goal.loop-y-preserved
loop-y-preserved c =
    let list = c.args.list.now in
    let i = c.loop-y.y-index in
    let h = get_or list i 0 in
    let within = c.requires.range i 0 c.loop-y-test.true in
    let lt : h < length c.loop-y.seen = omega (arith, within) in
    elim c.if-not-seen-place.branch [
      | then-not-seen-place+in_ok-push w ↦
          rw (w.seen-is, w.taken-is, w.in_ok-push.ensures.items)
          (record {
            marks = marked-more c.loop-y.seen c.loop-y.taken.items h lt c.loop-y.invariant.marks;
            taken = λ y. rw (take_more list i 0 c.loop-y-test.true) (taken-new c.args.taken.now.items (take i list) c.loop-y.taken.items h
                c.loop-y.invariant.taken y);
          })
      | else-not-seen-place w ↦
          rw (w.seen-is, w.taken-is)
          (record {
            marks = c.loop-y.invariant.marks;
            taken = λ y. rw (take_more list i 0 c.loop-y-test.true) (taken-old c.args.taken.now.items (take i list) c.loop-y.taken.items h
                ((c.loop-y.invariant.marks.same h).0 w.if-not-seen-place.false) c.loop-y.invariant.taken y);
          })
    ]

pub returns-clause-taken : goal.returns-clause-taken
returns-clause-taken c = λ y. rw (take_whole c.loop-y.y-index c.args.list.now c.loop-y-test.false) at (c.loop-y.invariant.taken y)
