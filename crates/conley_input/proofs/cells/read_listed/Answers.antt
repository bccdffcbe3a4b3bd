use Rattle.std.proofs.Common.{◌≡◌, ◌∙◌, ap, refl, subst}
use Rattle.conley_field.specs.AnyField.{arithmetic_of}
use Rattle.conley_lefschetz.specs.Listing.{Listing, bytes_of}
use Rattle.conley_lefschetz.specs.Complex.{IsComplexOf}
use Rattle.conley_lefschetz.specs.Fault.{IsFirstFault}
use Rattle.conley_input.specs.Errors.{cells_error}
use Rattle.conley_input.specs.Meaning.{listed_cells}
use Rattle.conley_input.specs.declared.error.InputError.TheVariants as InputError
use Rattle.conley_input.proofs.KindLemmas.{listing_is, good_labels, cells_not_memory, first_cells, no_cells}
use Rattle.conley_input.proofs.cells.read_listed.Goals as goal

pub returns-in-Ok-clause-accepted : goal.returns-in-Ok-clause-accepted
returns-in-Ok-clause-accepted c =
    let F = arithmetic_of c.args.field in
    let cells = listed_cells c.args.cells in
    let same = listing_is F cells c.args.incidences.now _ _ c.in_ok-labels.ensures.labels (c.deref-2.ensures.value ∙ c.in_ok-labels.ensures.dims) in
    let ok = subst (λ (l : Listing). IsComplexOf F l c.in-Ok.complex.1) same c.in-Ok.ensures.ok in
    let good = good_labels c.deref.result.now _ (ap bytes_of c.deref.ensures.value ∙ c.in_ok-labels.ensures.labels) c.in_default.ensures.none in
    no_cells F cells c.args.incidences.now good ok.accepted

pub returns-clause-err : goal.returns-clause-err
returns-clause-err c = λ fault e.
    let F = arithmetic_of c.args.field in
    let cells = listed_cells c.args.cells in
    let error = c.in-Err.error in
    let told : cells_error error ≡ InputError.Bad fault = cc in
    let same = listing_is F cells c.args.incidences.now _ _ c.in_ok-labels.ensures.labels (c.deref-2.ensures.value ∙ c.in_ok-labels.ensures.dims) in
    let first = subst (λ (l : Listing). IsFirstFault F l error) same (c.in-Err.ensures.err error refl (cells_not_memory error fault told)) in
    let good = good_labels c.deref.result.now _ (ap bytes_of c.deref.ensures.value ∙ c.in_ok-labels.ensures.labels) c.in_default.ensures.none in
    first_cells F cells c.args.incidences.now good error first fault told
