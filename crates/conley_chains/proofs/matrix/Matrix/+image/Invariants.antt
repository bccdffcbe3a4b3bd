use Rattle.std.proofs.Common.{length}
use Rattle.conley_chains.proofs.matrix.Matrix.+image.Given as goal

abbrev pub decreases-image : goal.decreases-image
decreases-image g l = length l.entries.now
