use Rattle.std.proofs.Common.{arith, ◌<◌, ◌≤◌, get_or, refl, subst, below_more}
use Rattle.std.proofs.lemmas.List.Elements.{Contains-get_or}
use Rattle.conley_lists.proofs.ListLemmas.{place_of, at_least}
use Rattle.conley_faces.specs.Face.{IsFace}
use Rattle.conley_faces.proofs.FaceLemmas.{face_ends}
use Rattle.conley_faces.proofs.faces.Faces.first_gap_below.Goals.{then-not-stands_in+in_default, else-not-stands_in}
use Rattle.conley_faces.proofs.faces.Faces.first_gap_below.Goals as goal

pub first_face_in-requires-clause-cell : goal.first_face_in-requires-clause-cell
first_face_in-requires-clause-cell c =
    let items = c.faces_of-y-items.result.now in
    let i = c.loop-y.y-index in
    face_ends c.args.self.now c.faces_of-y-items.ensures.order.digraph c.args.x (get_or items i 0)
    ((c.faces_of-y-items.ensures.faces (get_or items i 0)).0 (Contains-get_or items i 0 c.loop-y-test.true))

pub returns-in-Some-clause-first : goal.returns-in-Some-clause-first
returns-in-Some-clause-first c = λ y z g.
    let items = c.faces_of-y-items.result.now in
    let i = c.loop-y.y-index in
    let p = place_of items y ((c.faces_of-y-items.ensures.faces y).1 g.down) in
    let before : p.0 < i → get_or items i 0 ≤ get_or items p.0 0 = λ lt. absurd (c.loop-y.invariant p.0 lt z (rw p.2 g)) in
    let least = at_least items c.faces_of-y-items.ensures.ascending i p.0 before p.1 in
    (rw p.2 at least, λ e. c.in-Some.ensures.found.2 z g.lower (subst (λ q. IsFace c.args.self.now q z) e g.further))

pub loop-y-preserved : goal.loop-y-preserved
loop-y-preserved c = below_more _ _ c.loop-y.invariant (λ z g. elim c.if-not-stands_in.branch [
  | then-not-stands_in+in_default w ↦ w.in_default.ensures.none z g.lower g.further
  | else-not-stands_in w ↦ g.outside (w.if-not-stands_in.ensures.0 refl)
])

pub returns-clause-none : goal.returns-clause-none
returns-clause-none c = λ y z g.
    let p = place_of c.faces_of-y-items.result.now y ((c.faces_of-y-items.ensures.faces y).1 g.down) in
    c.loop-y.invariant p.0 (omega (arith, p.1, c.loop-y-test.false)) z (rw p.2 g)
