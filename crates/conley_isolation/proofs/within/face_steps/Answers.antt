use Rattle.conley_isolation.proofs.WithinLemmas.{face_steps-more}
use Rattle.conley_isolation.proofs.within.face_steps.Goals as goal

pub loop-x-preserved : goal.loop-x-preserved
loop-x-preserved c = rw c.in_ok-push.ensures.items (face_steps-more c.args.direct c.args.faces.now c.args.set.now c.loop-x.x-index c.loop-x.lists.items
    c.in_ok-heads_of.field-0 c.loop-x.invariant c.in_ok-heads_of.ensures)
