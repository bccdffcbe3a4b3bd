use Rattle.std.proofs.Common.{ℕ, zero, suc, [], ◌∷◌, arith}
use Rattle.conley_lists.specs.Gathered.{IsNumbering}
use Rattle.conley_space_tests.proofs.lists_tests.places_are_gathered_by_their_numbers.Goals as goal

numbering : IsNumbering (0 ∷ 1 ∷ 0 ∷ [])
numbering zero k lx lk = absurd (omega (arith, lk))
numbering (suc zero) k lx lk = (0, omega arith, omega (arith, lk))
numbering (suc (suc zero)) k lx lk = absurd (omega (arith, lk))
numbering (suc (suc (suc x))) k lx lk = absurd (omega (arith, lx))

pub gathered-requires-clause-in_order : goal.gathered-requires-clause-in_order
gathered-requires-clause-in_order g c = numbering
