use Rattle.std.proofs.Common.{◌<◌, subst, sym, ℕ}
use Rattle.conley_chains.specs.Matrix.{column_count}
use Rattle.conley_chains.proofs.MatrixLemmas.{image_start, image_more}
use Rattle.conley_chains.proofs.matrix.Matrix.image_of_few.Goals as goal

pub loop-e-init : goal.loop-e-init
loop-e-init g c = rw c.new-image.ensures (image_start (g.met.F.Field.is_field c.args.field.now) c.args.self.now c.args.entries.now)

pub loop-e-preserved : goal.loop-e-preserved
loop-e-preserved g c =
    let e = c.e-item.result in
    let within : e.0 < column_count c.args.self.now = subst (λ (x : ℕ × ℕ). x.0 < column_count c.args.self.now) (sym c.e-item.is)
    (c.requires.fits c.loop-e.e-index e c.loop-e-test.true) in
    image_more (g.met.F.Field.is_field c.args.field.now) c.args.self.now c.args.entries.now c.loop-e.e-index c.loop-e.image c.in_ok-image.image e
    c.requires.chain c.loop-e.invariant c.loop-e-test.true c.e-item.is within c.in_ok-image.ensures.codes
    (rw c.column.ensures.column at c.in_ok-image.ensures.sum)
