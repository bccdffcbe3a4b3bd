use Rattle.std.proofs.Common.{arith}
use Rattle.conley_lists.specs.Lists.{items_of}
use Rattle.conley_faces.proofs.FaceLemmas.{face_ends}
use Rattle.conley_faces.proofs.faces.Faces.all_faces.Goals as goal

pub returns-clause-digraph : goal.returns-clause-digraph
returns-clause-digraph c = λ x y s.
    let table = c.self.invariant in
    let face = (table.closures.faces x y).0 (rw c.as_slice.ensures.value at s) in
    let within = face_ends (items_of c.self.inside.direct.items) table.order.digraph x y face in
    rw c.as_slice.ensures.value (omega (arith, within, table.closures.height))

pub returns-clause-faces : goal.returns-clause-faces
returns-clause-faces c = λ x y. rw (c.as_slice.ensures.value, ← c.self.view_is) (c.self.invariant.closures.faces x y)
