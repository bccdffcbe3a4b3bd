use Rattle.std.proofs.Common.{take}
use Rattle.conley_lefschetz.specs.Complex.{IsLevels}
use Rattle.conley_lefschetz.proofs.levels.levels_of.Given as goal

abbrev pub invariant-loop-dim : goal.invariant-loop-dim
invariant-loop-dim l = IsLevels (take l.dim-index l.dims) l.levels
