use Rattle.conley_lists.specs.Lists.{items_of}
use Rattle.conley_digraph.specs.Turning.{IsTurnedSoFar}
use Rattle.conley_digraph.proofs.turning.turned_round.Given as goal

abbrev pub invariant-loop-x : goal.invariant-loop-x
invariant-loop-x l = IsTurnedSoFar (items_of l.steps) (items_of l.lists.items) l.x
