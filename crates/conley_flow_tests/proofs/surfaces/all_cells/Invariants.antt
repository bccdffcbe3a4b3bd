use Rattle.std.proofs.Common.{◌<◌, All}
use Rattle.std.specs.List.Sorted.{IsStrictlyIncreasing}
use Rattle.conley_flow_tests.proofs.surfaces.all_cells.Given as goal

abbrev pub invariant-loop-cell : goal.invariant-loop-cell
invariant-loop-cell l = record {
  ascending : IsStrictlyIncreasing l.cells.items;
  below : All (λ x. x < l.cell) l.cells.items;
}
