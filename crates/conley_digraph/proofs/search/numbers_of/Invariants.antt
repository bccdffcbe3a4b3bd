use Rattle.conley_digraph.specs.Closing.{AreNumbers}
use Rattle.conley_digraph.proofs.search.numbers_of.Given as goal

abbrev pub invariant-loop-stage : goal.invariant-loop-stage
invariant-loop-stage l = AreNumbers l.stages l.numbers.items l.stage-index
