use Rattle.std.proofs.Common.{◌≡◌, refl}
use Rattle.conley_field.specs.AnyField.{arithmetic_of}
use Rattle.conley_lefschetz.specs.Listing.{bytes_of}
use Rattle.conley_lists.specs.Lists.{items_of}
use Rattle.conley_input.specs.Errors.{simplices_error}
use Rattle.conley_input.specs.declared.error.InputError.TheVariants as InputError
use Rattle.conley_input.proofs.KindLemmas.{simplices_not_memory, first_simplices, no_simplices}
use Rattle.conley_input.proofs.generated.read_simplices.Goals as goal

pub returns-in-Ok-clause-accepted : goal.returns-in-Ok-clause-accepted
returns-in-Ok-clause-accepted c = no_simplices (arithmetic_of c.args.field) (bytes_of c.args.vertices.now) (items_of c.args.simplices.now)
    c.in-Ok.ensures.accepted

pub returns-in-Err-clause-err : goal.returns-in-Err-clause-err
returns-in-Err-clause-err c = λ fault e.
    let error = c.in-Err.error in
    let same : simplices_error error ≡ InputError.Bad fault = cc in
    first_simplices (arithmetic_of c.args.field) (bytes_of c.args.vertices.now) (items_of c.args.simplices.now) error
    (c.in-Err.ensures.err error refl (simplices_not_memory error fault same)) fault same
