-- the cells at or above the level
use Rattle.std.proofs.Common.{◌≤◌}
use Rattle.conley_homology.specs.Own.{place_in, IsReducedSoFar}
use Rattle.conley_lefschetz.specs.Listing.{dim_in}
use Rattle.conley_homology.proofs.elimination.eliminated.Given as goal

abbrev pub invariant-loop-level : goal.invariant-loop-level
invariant-loop-level g l =
    IsReducedSoFar (g.F.Field.arithmetic l.field) l.cells.boundary.now l.cells.dims.now l.cells.set.now l.cells.keeps
    (λ j. l.level ≤ dim_in l.cells.dims.now (place_in l.cells.set.now j)) l.columns.kept.items l.columns.reduced.items
    l.columns.owner.items

abbrev pub decreases-loop-level : goal.decreases-loop-level
decreases-loop-level g l = l.level
