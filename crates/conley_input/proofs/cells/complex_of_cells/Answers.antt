use Rattle.conley_field.specs.AnyField.{arithmetic_of-IsField}
use Rattle.conley_input.proofs.CellLemmas.{with_scalars-codes}
use Rattle.conley_input.proofs.cells.complex_of_cells.Goals as goal

pub new-requires-clause-codes : goal.new-requires-clause-codes
new-requires-clause-codes c = rw (c.deref.ensures.value, c.in_ok-incidences.ensures) (with_scalars-codes (arithmetic_of-IsField c.args.field)
    c.args.incidences.now)

pub returns-clause-err : goal.returns-clause-err
returns-clause-err c = λ error e ne. rw (c.deref.ensures.value, c.in_ok-incidences.ensures, c.in_ok-dims.ensures) at (c.new.ensures.err error e ne)
