use Rattle.std.proofs.Common.{arith, ◌≡◌, ◌∙◌, [], get_or}
use Rattle.conley_homology.specs.Reduced.{IsFree}
use Rattle.conley_homology.specs.Own.{place_in, owner_at, vector_at}
use Rattle.conley_lefschetz.specs.Listing.{dim_in}
use Rattle.conley_homology.proofs.ColumnLemmas.{chain_read}
use Rattle.conley_homology.proofs.CollectedLemmas.{collected-other, collected-more}
use Rattle.conley_homology.proofs.column.Columns.collect.Goals as goal
use Rattle.conley_homology.proofs.column.Columns.collect.Goals.{then-is_free+in_ok-from_pairs+in_ok-push, else-is_free}

pub loop-i-preserved : goal.loop-i-preserved
loop-i-preserved c =
    let kept = c.args.self.now.kept.items in
    let Q = IsFree (dim_in c.args.cells.now.dims.now) (place_in c.args.cells.now.set.now) (vector_at c.args.self.now.reduced.items)
    (owner_at c.args.self.now.owner.items) c.args.level in
    elim c.if-is_free.branch [
      | then-is_free+in_ok-from_pairs+in_ok-push w ↦
          let chain : w.in_ok-from_pairs.field-0 ≡ get_or kept c.loop-i.i [] =
          w.in_ok-from_pairs.ensures ∙ w.entries.ensures.entries ∙ chain_read kept c.loop-i.i w.index.result.now
          (omega (arith, c.requires.kept, c.loop-i-test.true)) w.index.ensures in
          rw (w.cycles-is, w.count-is, w.in_ok-push.ensures.items, chain)
          (collected-more kept Q c.loop-i.i c.loop-i.count c.args.cycles.now.items c.loop-i.cycles.items (c.is_free.ensures.yes w.if-is_free.true)
          c.loop-i.invariant)
      | else-is_free w ↦
          rw (w.cycles-is, w.count-is) (collected-other kept Q c.loop-i.i c.loop-i.count c.args.cycles.now.items c.loop-i.cycles.items
          (c.is_free.ensures.no w.if-is_free.false) c.loop-i.invariant)
    ]
