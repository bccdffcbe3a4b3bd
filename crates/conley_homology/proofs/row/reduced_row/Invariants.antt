-- the row so far
use Rattle.conley_homology.specs.Row.{IsRowFor}
use Rattle.conley_homology.proofs.row.reduced_row.Given as goal

abbrev pub invariant-loop-source : goal.invariant-loop-source
invariant-loop-source g l = IsRowFor (g.F.Field.arithmetic l.field) l.cells.boundary.now l.cells.dims.now l.cells.set.now l.cells.keeps l.i l.kept l.row l.end

abbrev pub decreases-loop-source : goal.decreases-loop-source
decreases-loop-source g l = l.end
