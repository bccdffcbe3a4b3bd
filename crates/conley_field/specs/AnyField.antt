-- What a contract sees of any field of the table: the arithmetic of the field that the value holds.
--     arithmetic_of f            its arithmetic
--     arithmetic_of-IsField f    the laws of it
use Rattle.conley_field.specs.Arithmetic.{Arithmetic, IsField}
use Rattle.conley_field.specs.Prime.{residues}
use Rattle.conley_field.specs.PrimeField.{order_of, order_of-IsField}
use Rattle.conley_field.specs.declared.any.AnyField.{AnyField}
use Rattle.conley_field.specs.declared.any.AnyField.TheVariants.{Prime}

-- the arithmetic of the field that is held
abbrev pub arithmetic_of : AnyField → Arithmetic
arithmetic_of (Prime f) = residues (order_of f)

-- the laws of it
pub arithmetic_of-IsField : (f : AnyField) → IsField (arithmetic_of f)
arithmetic_of-IsField (Prime f) = order_of-IsField f
