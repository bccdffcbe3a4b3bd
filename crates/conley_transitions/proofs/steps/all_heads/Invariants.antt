use Rattle.conley_lists.specs.Lists.{items_of}
use Rattle.conley_transitions.specs.Making.{HasTransitionsSoFar}
use Rattle.conley_transitions.proofs.steps.all_heads.Given as goal

abbrev pub invariant-loop-x : goal.invariant-loop-x
invariant-loop-x l = HasTransitionsSoFar l.faces l.partition l.x (items_of l.lists.items)
