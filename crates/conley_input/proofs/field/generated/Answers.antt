use Rattle.std.proofs.Common.{arith, ◌≡◌, ℕ, List, Err, length, sym, ap, subst}
use Rattle.conley_lists.specs.Lists.{items_of}
use Rattle.conley_lists.proofs.ListLemmas.{length-items_of}
use Rattle.conley_hull.specs.declared.error.HullError.TheVariants as HullError
use Rattle.conley_mvf.specs.Fault as parts
use Rattle.conley_mvf.specs.declared.error.PartError.TheVariants as part
use Rattle.conley_input.specs.Refusals.{IsFirstRefusal}
use Rattle.conley_input.specs.declared.error.FileFault.TheVariants as FileFault
use Rattle.conley_input.proofs.PartLemmas.{in_parts, none_unknown}
use Rattle.conley_input.proofs.RefusalLemmas.{hull_accepted, first_empty}
use Rattle.conley_input.proofs.field.generated.Goals as goal

-- the first part without cells
pub returns-in-Some-clause-err : goal.returns-in-Some-clause-err
returns-in-Some-clause-err c = λ file is clear fault e.
    let layout = c.args.complex.now.1 in
    let lists : List (List ℕ) = items_of c.args.lists.now in
    let k = c.in-Some.k in
    let found = c.in-Some.ensures in
    let empty : parts.IsEmptyList lists k = (omega (arith, found.0, length-items_of c.args.lists.now), found.1) in
    let told : FileFault.EmptyPart k ≡ fault = cc in
    subst (IsFirstRefusal file) told (first_empty file clear is.kind k (layout, is.complex, subst (λ ls. parts.IsEmptyList ls k) is.parts empty)
    (λ j less f. found.2 j less (subst (λ ls. parts.IsEmptyList ls j) (sym is.parts) (in_parts file layout is.complex (part.EmptyPart j) f)).1))

-- no part is without cells
pub returns-in-Ok-clause-ok : goal.returns-in-Ok-clause-ok
returns-in-Ok-clause-ok c = λ file is clear.
    let layout = c.args.complex.now.1 in
    let none = c.in_default.ensures in
    hull_accepted file clear is.kind (λ k f.
    let empty = subst (λ ls. parts.IsEmptyList ls k) (sym is.parts) (in_parts file layout is.complex (part.EmptyPart k) f) in
    none k (omega (arith, empty.0, length-items_of c.args.lists.now)) empty.1)

-- each number is known
pub returns-in-Err-Unknown-clause-err : goal.returns-in-Err-Unknown-clause-err
returns-in-Err-Unknown-clause-err c = λ file is clear fault e.
    let layout = c.args.complex.now.1 in
    let cells : length layout.dims ≡ length layout.faces = omega (arith, c.faces.ensures.laws.complex.dims_count, c.faces.ensures.laws.complex.faces_count) in
    let told : c.in-Err-Unknown.field-0 ≡ HullError.Unknown c.in-Err-Unknown.list c.in-Err-Unknown.place = cc in
    let first = c.in-Err-Unknown.ensures.unknown c.in-Err-Unknown.list c.in-Err-Unknown.place (ap (λ x. Err x) told) in
    let unknown = rw c.faces.ensures.faces at first.unknown in
    absurd (none_unknown (length layout.faces) (items_of c.args.lists.now) (λ k x s. omega (arith, c.requires.known k x s, cells)) c.in-Err-Unknown.list
    c.in-Err-Unknown.place unknown)
