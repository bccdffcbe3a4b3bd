-- all are closed
use Rattle.conley_digraph.proofs.search.numbers_of.Goals as goal

pub unreachable-requires : goal.unreachable-requires
unreachable-requires c = let w = c.requires c.loop-stage.stage-index c.loop-stage-test.true in c.in_default.not-Closed w.0 w.1
