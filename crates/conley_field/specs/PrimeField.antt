-- What a contract sees of a prime field: its order, and that its residues are a field.
--     order_of f            the order of the field f
--     order_of-IsField f    the laws of its residues
use Rattle.std.specs.Prelude.{ℕ, refl}
use Rattle.conley_field.specs.Arithmetic.{IsField}
use Rattle.conley_field.specs.Prime.{residues}
use Rattle.conley_field.specs.ResidueLaws.{residues-IsField}
use Rattle.conley_field.specs.declared.prime.PrimeField.{PrimeField}
use Rattle.conley_field.specs.declared.prime.PrimeField.TheVariants.{Two, Three, Five, Seven, Eleven, Thirteen, Seventeen, Nineteen, TwentyThree, TwentyNine, ThirtyOne}

-- the order of a prime field
abbrev pub order_of : PrimeField → ℕ
order_of Two = 2
order_of Three = 3
order_of Five = 5
order_of Seven = 7
order_of Eleven = 11
order_of Thirteen = 13
order_of Seventeen = 17
order_of Nineteen = 19
order_of TwentyThree = 23
order_of TwentyNine = 29
order_of ThirtyOne = 31

-- the laws of its residues
pub order_of-IsField : (f : PrimeField) → IsField (residues (order_of f))
order_of-IsField Two = residues-IsField 2 refl
order_of-IsField Three = residues-IsField 3 refl
order_of-IsField Five = residues-IsField 5 refl
order_of-IsField Seven = residues-IsField 7 refl
order_of-IsField Eleven = residues-IsField 11 refl
order_of-IsField Thirteen = residues-IsField 13 refl
order_of-IsField Seventeen = residues-IsField 17 refl
order_of-IsField Nineteen = residues-IsField 19 refl
order_of-IsField TwentyThree = residues-IsField 23 refl
order_of-IsField TwentyNine = residues-IsField 29 refl
order_of-IsField ThirtyOne = residues-IsField 31 refl
