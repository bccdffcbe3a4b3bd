use Rattle.std.proofs.Common.{arith}
use Rattle.conley_flow_tests.proofs.mvf_tests.parts_are_numbered_by_least_cells.Goals as goal

pub cells_of-requires : goal.cells_of-requires
cells_of-requires g c = (c.count.ensures.count 2).0 (omega arith)

pub cells_of-requires-2 : goal.cells_of-requires-2
cells_of-requires-2 g c = (c.count.ensures.count 3).0 (omega arith)
