use Rattle.std.proofs.Common.{arith, ◌≡◌, ℕ, List, length, refl, sym, subst}
use Rattle.conley_lists.specs.Lists.{items_of}
use Rattle.conley_mvf.specs.Fault as parts
use Rattle.conley_mvf.specs.declared.error.PartError.TheVariants as part
use Rattle.conley_input.specs.Errors.{part_error}
use Rattle.conley_input.specs.declared.error.InputError.TheVariants as InputError
use Rattle.conley_input.proofs.PartLemmas.{in_parts, first_in_parts, none_unknown}
use Rattle.conley_input.proofs.RefusalLemmas.{parts_accepted, first_parts, part_not_memory}
use Rattle.conley_input.proofs.field.whole.Goals as goal

pub returns-in-Ok-clause-ok : goal.returns-in-Ok-clause-ok
returns-in-Ok-clause-ok c = λ file is clear.
    let layout = c.args.complex.now.1 in
    let none = rw c.faces.ensures.faces at c.in-Ok.ensures.accepted in
    parts_accepted file clear is.kind (λ error f. none error (subst (λ ls. parts.Fails layout.faces ls error) (sym is.parts)
    (in_parts file layout is.complex error f)))

pub returns-in-Err-clause-err : goal.returns-in-Err-clause-err
returns-in-Err-clause-err c = λ file is clear fault e.
    let layout = c.args.complex.now.1 in
    let lists : List (List ℕ) = items_of c.args.lists.now in
    let error = c.in-Err.error in
    let same : part_error error ≡ InputError.Bad fault = cc in
    let first = rw c.faces.ensures.faces at (c.in-Err.ensures.err error refl (part_not_memory error fault same)) in
    let listed = first_in_parts file layout is.complex error (subst (λ ls. parts.IsFirstFault layout.faces ls error) is.parts first) in
    let cells : length layout.dims ≡ length layout.faces = omega (arith, c.faces.ensures.laws.complex.dims_count, c.faces.ensures.laws.complex.faces_count) in
    let all_known = none_unknown (length layout.faces) lists (λ k x s. omega (arith, c.requires.known k x s, cells)) in
    first_parts file clear is.kind (λ l p f. all_known l p (subst (λ ls. parts.IsUnknown (length layout.faces) ls l p) (sym is.parts)
    (in_parts file layout is.complex (part.Unknown l p) f))) error listed fault same
