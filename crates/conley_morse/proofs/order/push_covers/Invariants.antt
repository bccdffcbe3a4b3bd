use Rattle.conley_morse.specs.Covers.{AddsCovers}
use Rattle.conley_morse.proofs.order.push_covers.Given as goal

abbrev pub invariant-loop-q : goal.invariant-loop-q
invariant-loop-q l = AddsCovers l.fn.order.items l.order.items l.lower l.between l.p l.q
