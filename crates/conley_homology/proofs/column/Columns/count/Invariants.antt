-- the free cells so far
use Rattle.conley_homology.specs.Reduced.{IsFree}
use Rattle.conley_homology.specs.Own.{place_in, owner_at, vector_at}
use Rattle.conley_lefschetz.specs.Listing.{dim_in}
use Rattle.conley_homology.specs.Homology.{IsCounted}
use Rattle.conley_homology.proofs.column.Columns.count.Given as goal

abbrev pub invariant-loop-place : goal.invariant-loop-place
invariant-loop-place l =
    IsCounted (IsFree (dim_in l.cells.dims.now) (place_in l.cells.set.now) (vector_at l.self.reduced.items) (owner_at l.self.owner.items) l.level) l.place
    l.count
