use Rattle.std.proofs.Common.{inr, refl}
use Rattle.std.proofs.lemmas.Bool.{iff_false}
use Rattle.conley_morse.proofs.counting.numbers_where_counted.Goals as goal

-- the numbers aren't all 0, so the one part isn't regular
pub returns-clause-counted : goal.returns-clause-counted
returns-clause-counted g c = inr (
  c.if-not-lies_in_one_part.ensures.one refl,
  (λ regular. iff_false c.are_zero.ensures c.if-are_zero.false (rw c.deref.ensures.value (c.in_ok-numbers.ensures.regular.0 regular))),
)
