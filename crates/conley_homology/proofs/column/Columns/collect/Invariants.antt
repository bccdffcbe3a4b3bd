-- the free cells so far
use Rattle.conley_homology.specs.Reduced.{IsFree}
use Rattle.conley_homology.specs.Own.{place_in, owner_at, vector_at}
use Rattle.conley_lefschetz.specs.Listing.{dim_in}
use Rattle.conley_homology.specs.Homology.{IsCollected}
use Rattle.conley_homology.proofs.column.Columns.collect.Given as goal

abbrev pub invariant-loop-i : goal.invariant-loop-i
invariant-loop-i l =
    IsCollected l.self.kept.items (IsFree (dim_in l.cells.dims.now) (place_in l.cells.set.now) (vector_at l.self.reduced.items) (owner_at l.self.owner.items)
    l.level) l.i l.count l.fn.cycles.items l.cycles.items
