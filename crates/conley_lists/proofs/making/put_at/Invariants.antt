use Rattle.conley_lists.proofs.MakingLemmas.{IsPut}
use Rattle.conley_lists.proofs.making.put_at.Given as goal

abbrev pub invariant-loop-i : goal.invariant-loop-i
invariant-loop-i l = IsPut l.initial.numbers.items l.places l.i l.number l.numbers.items
