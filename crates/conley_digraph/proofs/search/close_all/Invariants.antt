use Rattle.std.proofs.Common.{take}
use Rattle.conley_digraph.specs.Turn.{ClosesAll}
use Rattle.conley_digraph.proofs.search.close_all.Given as goal

-- the nodes so far are closed
abbrev pub invariant-loop-x : goal.invariant-loop-x
invariant-loop-x l = ClosesAll l.fn.stages l.stages (take l.x-index l.nodes) l.class
