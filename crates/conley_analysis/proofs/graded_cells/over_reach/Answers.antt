use Rattle.std.proofs.Common.{◌∙◌, length}
use Rattle.conley_order.specs.ClassRows.{is_at_or_below}
use Rattle.conley_analysis.proofs.ReachLemmas.{complex_filtered}
use Rattle.conley_analysis.proofs.graded_cells.over_reach.Goals as goal

pub new-requires : goal.new-requires
new-requires g c =
    let l = c.args.complex.now.1 in
    rw (c.field.ensures.field, c.in_ok-dims.ensures.items, c.dims.ensures.dims, c.in_ok-matrix.ensures, c.boundary-2.ensures.boundary)
    (complex_filtered (g.met.F.Field.is_field c.args.complex.now.0) l c.field.ensures.laws c.requires.digraph
    (rw c.boundary.ensures.boundary at c.rows-rows.ensures.kept).keeps_rows
    (length c.args.grading.now.class_of) (is_at_or_below c.args.grading.now) c.requires.cells c.requires.down c.in_ok-base.base.items
    (c.in_ok-base.ensures.count ∙ c.count.ensures.count) (rw c.count.ensures.count at c.in_ok-base.ensures.items))
