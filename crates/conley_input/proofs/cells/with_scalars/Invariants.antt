use Rattle.std.proofs.Common.{◌≡◌, take}
use Rattle.conley_field.specs.AnyField.{arithmetic_of}
use Rattle.conley_input.specs.Listing as listed
use Rattle.conley_input.proofs.cells.with_scalars.Given as goal

abbrev pub invariant-loop-incidence : goal.invariant-loop-incidence
invariant-loop-incidence l = l.list.items ≡ listed.with_scalars (arithmetic_of l.field) (take l.incidence-index l.incidences)
