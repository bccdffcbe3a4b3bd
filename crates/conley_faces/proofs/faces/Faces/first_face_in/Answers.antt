use Rattle.std.proofs.lemmas.Option.{IfSome_then}
use Rattle.std.proofs.Common.{ℕ, Option, None, Some}
use Rattle.std.specs.Prelude.{IfNone}
use Rattle.conley_faces.proofs.faces.Faces.first_face_in.Goals as goal

-- what follows where there is no value
IfNone_then : (r : Option ℕ) {P Q : Type 0} → IfNone r P → (P → Q) → IfNone r Q
IfNone_then None p on = on p
IfNone_then (Some x) p on = tt

pub returns-then-set-faces-clause-found : goal.returns-then-set-faces-clause-found
returns-then-set-faces-clause-found c = IfSome_then c.first_common.result c.first_common.ensures.found (λ z h.
    let faces = c.faces_of-faces.ensures.faces in
    (h.0, (faces z).0 h.1, λ w d f. h.2 w d ((faces w).1 f)))

pub returns-then-set-faces-clause-none : goal.returns-then-set-faces-clause-none
returns-then-set-faces-clause-none c = IfNone_then c.first_common.result c.first_common.ensures.none (λ h z d f. h z d ((c.faces_of-faces.ensures.faces z).1 f))

pub returns-clause-found : goal.returns-clause-found
returns-clause-found c = IfSome_then c.first_common-2.result c.first_common-2.ensures.found (λ z h.
    let faces = c.faces_of-faces.ensures.faces in
    (h.1, (faces z).0 h.0, λ w d f. h.2 w ((faces w).1 f) d))

pub returns-clause-none : goal.returns-clause-none
returns-clause-none c = IfNone_then c.first_common-2.result c.first_common-2.ensures.none (λ h z d f. h z ((c.faces_of-faces.ensures.faces z).1 f) d)
