use Rattle.std.proofs.Common.{◌≡◌, refl}
use Rattle.conley_field.specs.AnyField.{arithmetic_of}
use Rattle.conley_lists.specs.Lists.{items_of}
use Rattle.conley_input.specs.Errors.{cubes_error}
use Rattle.conley_input.specs.declared.error.InputError.TheVariants as InputError
use Rattle.conley_input.proofs.KindLemmas.{cubes_not_memory, first_cubes, no_cubes}
use Rattle.conley_input.proofs.generated.read_cubes.Goals as goal

pub returns-in-Ok-clause-accepted : goal.returns-in-Ok-clause-accepted
returns-in-Ok-clause-accepted c = no_cubes (arithmetic_of c.args.field) c.args.axes (items_of c.args.cubes.now) c.in-Ok.ensures.accepted

pub returns-in-Err-clause-err : goal.returns-in-Err-clause-err
returns-in-Err-clause-err c = λ fault e.
    let error = c.in-Err.error in
    let same : cubes_error error ≡ InputError.Bad fault = cc in
    first_cubes (arithmetic_of c.args.field) c.args.axes (items_of c.args.cubes.now) error
    (c.in-Err.ensures.err error refl (cubes_not_memory error fault same)) fault same
