use Rattle.conley_homology.specs.Reduced.{IsFree}
use Rattle.conley_homology.specs.Own.{place_in, owner_at, vector_at}
use Rattle.conley_lefschetz.specs.Listing.{dim_in}
use Rattle.conley_homology.proofs.CollectedLemmas.{counted-other, counted-more}
use Rattle.conley_homology.proofs.column.Columns.count.Goals as goal
use Rattle.conley_homology.proofs.column.Columns.count.Goals.{then-is_free, else-is_free}

pub loop-place-preserved : goal.loop-place-preserved
loop-place-preserved c =
    let Q = IsFree (dim_in c.args.cells.now.dims.now) (place_in c.args.cells.now.set.now) (vector_at c.args.self.now.reduced.items)
    (owner_at c.args.self.now.owner.items) c.args.level in
    elim c.if-is_free.branch [
      | then-is_free w ↦ rw w.count-is (counted-more Q c.loop-place.place c.loop-place.count (c.is_free.ensures.yes w.if-is_free.true) c.loop-place.invariant)
      | else-is_free w ↦ rw w.count-is (counted-other Q c.loop-place.place c.loop-place.count (c.is_free.ensures.no w.if-is_free.false) c.loop-place.invariant)
    ]
