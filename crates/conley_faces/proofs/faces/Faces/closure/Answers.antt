use Rattle.std.proofs.Common.{arith, ℕ, length, ◌<◌}
use Rattle.std.specs.Prelude.{Contains, ◌↔◌}
use Rattle.conley_lists.specs.Lists.{items_of}
use Rattle.conley_lists.proofs.ListLemmas.{All-from_contained, length-items_of}
use Rattle.conley_faces.specs.Face.{IsInClosure}
use Rattle.conley_faces.proofs.FaceLemmas.{face_ends}
use Rattle.conley_faces.proofs.ClosureLemmas.{closure_listed}
use Rattle.conley_faces.proofs.faces.Faces.closure.Goals as goal
use Rattle.conley_faces.proofs.faces.Faces.closure.Goals.{After-drop-all-2}

closure : (c : After-drop-all-2) (y : ℕ) → Contains c.in_ok-list.list.items y ↔ IsInClosure c.args.self.now c.args.set.now y
closure c y =
    let listed = rw c.self.view_is at (closure_listed (items_of c.self.inside.direct.items) (items_of c.self.inside.closures.items) c.self.invariant.closures
    c.args.set.now y) in
    let all = rw c.deref.ensures.value at (c.in_ok-all.ensures y) in
    let same = rw c.deref-2.ensures.value at (c.in_ok-list.ensures.same y) in
    ((λ d. listed.0 (all.0 (same.0 d))), (λ g. same.1 (all.1 (listed.1 g))))

pub returns-clause-cells : goal.returns-clause-cells
returns-clause-cells c = record {
  ascending = c.in_ok-list.ensures.ascending;
  cells = All-from_contained (λ y. y < length c.args.self.now) c.in_ok-list.list.items (λ y d.
      face_ends c.args.self.now (rw c.self.view_is at c.self.invariant.order.digraph) ((closure c y).0 d).0 y ((closure c y).0 d).2);
}

pub returns-clause-closure : goal.returns-clause-closure
returns-clause-closure c = closure c

pub gathered-requires-clause-range : goal.gathered-requires-clause-range
gathered-requires-clause-range c = λ x y s.
    let table = c.self.invariant in
    let direct = items_of c.self.inside.direct.items in
    let face = (table.closures.faces x y).0 (rw c.deref.ensures.value at s) in
    let within = face_ends direct table.order.digraph x y face in
    rw c.deref.ensures.value (omega (arith, within, table.closures.height, length-items_of c.self.inside.closures.items))
