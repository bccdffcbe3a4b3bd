use Rattle.std.proofs.lemmas.Bool.{iff_false}
use Rattle.conley_morse.proofs.OrderLemmas.{adds_same, adds_more}
use Rattle.conley_morse.proofs.order.push_covers.Goals.{then-is_next+in_ok-push, else-is_next}
use Rattle.conley_morse.proofs.order.push_covers.Goals as goal

pub loop-q-preserved : goal.loop-q-preserved
loop-q-preserved c = elim c.if-is_next.branch [
  | then-is_next+in_ok-push w ↦
      rw (w.order-is, w.in_ok-push.ensures.items) (adds_more c.args.order.now.items c.loop-q.order.items c.args.lower.now c.args.between.now c.args.p
      c.loop-q.q c.loop-q.invariant (c.is_next.ensures.0 w.if-is_next.true))
  | else-is_next w ↦
      rw w.order-is (adds_same c.args.order.now.items c.loop-q.order.items c.args.lower.now c.args.between.now c.args.p c.loop-q.q c.loop-q.invariant
      (iff_false c.is_next.ensures w.if-is_next.false))
]
