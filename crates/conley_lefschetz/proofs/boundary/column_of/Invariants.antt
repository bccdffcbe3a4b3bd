use Rattle.std.proofs.Common.{◌≡◌, take}
use Rattle.conley_lefschetz.specs.Making.{column_of}
use Rattle.conley_lefschetz.proofs.boundary.column_of.Given as goal

abbrev pub invariant-loop-y : goal.invariant-loop-y
invariant-loop-y l = l.pairs.items ≡ column_of l.incidences l.x (take l.y-index l.direct)
