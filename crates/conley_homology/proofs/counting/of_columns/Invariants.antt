-- the counts of the levels so far
use Rattle.conley_homology.specs.Reduced.{IsFree}
use Rattle.conley_homology.specs.Own.{place_in, owner_at, vector_at}
use Rattle.conley_lefschetz.specs.Listing.{dim_in}
use Rattle.std.proofs.Common.{length}
use Rattle.conley_homology.proofs.CollectedLemmas.{AreCounted}
use Rattle.conley_homology.proofs.counting.of_columns.Given as goal

abbrev pub invariant-loop-level : goal.invariant-loop-level
invariant-loop-level g l =
    AreCounted (IsFree (dim_in l.cells.dims.now) (place_in l.cells.set.now) (vector_at l.columns.reduced.items) (owner_at l.columns.owner.items))
    (length l.cells.set.now) l.level l.numbers.items
