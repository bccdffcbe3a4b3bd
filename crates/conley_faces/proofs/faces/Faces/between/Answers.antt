use Rattle.std.proofs.Common.{◌<◌, get_or, length, refl}
use Rattle.std.proofs.lemmas.Bool.{false≢true}
use Rattle.std.proofs.lemmas.List.Elements.{Contains-get_or}
use Rattle.conley_lists.proofs.ListLemmas.{All-from_contained, take_whole}
use Rattle.conley_faces.specs.Face.{IsFace}
use Rattle.conley_faces.proofs.FaceLemmas.{face_ends}
use Rattle.conley_faces.proofs.PartLemmas.{part-more, part-other}
use Rattle.conley_faces.proofs.faces.Faces.between.Goals.{then-is_face+in_ok-push, else-is_face}
use Rattle.conley_faces.proofs.faces.Faces.between.Goals as goal

pub is_face-requires-clause-upper : goal.is_face-requires-clause-upper
is_face-requires-clause-upper c =
    let items = c.faces_of-y-items.result.now in
    let i = c.loop-y.y-index in
    face_ends c.args.self.now c.faces_of-y-items.ensures.order.digraph c.args.x (get_or items i 0)
    ((c.faces_of-y-items.ensures.faces (get_or items i 0)).0 (Contains-get_or items i 0 c.loop-y-test.true))

pub loop-y-preserved : goal.loop-y-preserved
loop-y-preserved c =
    let items = c.faces_of-y-items.result.now in
    let up = c.faces_of-y-items.ensures.ascending in
    elim c.if-is_face.branch [
      | then-is_face+in_ok-push w ↦
          rw (w.list-is, w.in_ok-push.ensures.items)
          (part-more (λ y. IsFace c.args.self.now y c.args.z) items c.loop-y.list.items c.loop-y.y-index c.loop-y-test.true up c.loop-y.invariant
          (w.if-is_face.ensures.0 refl))
      | else-is_face w ↦
          rw w.list-is
          (part-other (λ y. IsFace c.args.self.now y c.args.z) items c.loop-y.list.items c.loop-y.y-index c.loop-y-test.true up c.loop-y.invariant
          (λ f. false≢true (w.if-is_face.ensures.1 f)))
    ]

pub returns-clause-cells : goal.returns-clause-cells
returns-clause-cells c =
    let part = rw (take_whole c.loop-y.y-index c.faces_of-y-items.result.now c.loop-y-test.false) at c.loop-y.invariant in
    record {
      ascending = part.ascending;
      cells = All-from_contained (λ y. y < length c.args.self.now) c.loop-y.list.items (λ y d.
          face_ends c.args.self.now c.faces_of-y-items.ensures.order.digraph c.args.x y ((c.faces_of-y-items.ensures.faces y).0 ((part.same y).0 d).0));
    }

pub returns-clause-between : goal.returns-clause-between
returns-clause-between c = λ y.
    let part = rw (take_whole c.loop-y.y-index c.faces_of-y-items.result.now c.loop-y-test.false) at c.loop-y.invariant in
    let faces = c.faces_of-y-items.ensures.faces y in
    ((λ d. let h = (part.same y).0 d in (faces.0 h.0, h.1)), (λ h. (part.same y).1 (faces.1 h.0, h.1)))
