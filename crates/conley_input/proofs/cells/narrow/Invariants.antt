use Rattle.std.proofs.Common.{◌≡◌, take}
use Rattle.conley_input.proofs.cells.narrow.Given as goal

abbrev pub invariant-loop-dim : goal.invariant-loop-dim
invariant-loop-dim l = l.narrowed.items ≡ take l.dim-index l.dims
