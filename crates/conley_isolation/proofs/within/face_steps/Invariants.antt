use Rattle.conley_lists.specs.Lists.{items_of}
use Rattle.conley_isolation.specs.Making.{HasFaceSteps}
use Rattle.conley_isolation.proofs.within.face_steps.Given as goal

abbrev pub invariant-loop-x : goal.invariant-loop-x
invariant-loop-x l = HasFaceSteps l.direct l.faces l.set l.x-index (items_of l.lists.items)
