use Rattle.std.proofs.Common.{arith, subst, refl, ◌∙◌, sym, below_more}
use Rattle.conley_lists.specs.Lists.{items_of}
use Rattle.conley_lists.proofs.ListLemmas.{length-items_of, row_of}
use Rattle.conley_faces.specs.Face.{IsFirstGap, IsLocallyClosed}
use Rattle.conley_mvf.proofs.GapLemmas.{gap_here, gap_listed}
use Rattle.conley_mvf.proofs.faults.first_gap.Goals as goal

pub find_gap-requires : goal.find_gap-requires
find_gap-requires c =
    let row = row_of c.args.lists.now c.loop-k.k c.index-lists-k.result c.loop-k-test.true c.index-lists-k.is in
    rw (c.deref.ensures.value, ← row) (c.requires c.loop-k.k)

pub returns-in-Some : goal.returns-in-Some
returns-in-Some c =
    let row = row_of c.args.lists.now c.loop-k.k c.index-lists-k.result c.loop-k-test.true c.index-lists-k.is in
    let first = subst (λ s. IsFirstGap c.args.faces.now s c.in-Some.gap) (c.deref.ensures.value ∙ sym row) c.in-Some.ensures.gap in
    gap_here c.args.faces.now (items_of c.args.lists.now) c.loop-k.k c.in-Some.gap first c.loop-k.invariant

pub loop-k-preserved : goal.loop-k-preserved
loop-k-preserved c =
    let row = row_of c.args.lists.now c.loop-k.k c.index-lists-k.result c.loop-k-test.true c.index-lists-k.is in
    below_more _ _ c.loop-k.invariant (subst (λ s. IsLocallyClosed c.args.faces.now s) (c.deref.ensures.value ∙ sym row) (c.in_default.ensures.none.0 refl))

pub returns : goal.returns
returns c = λ k x y z g.
    let lt = gap_listed c.args.faces.now (items_of c.args.lists.now) k x y z g in
    c.loop-k.invariant k (omega (arith, lt, length-items_of c.args.lists.now, c.loop-k-test.false)) x y z g
