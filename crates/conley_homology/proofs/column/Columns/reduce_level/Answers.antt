use Rattle.conley_homology.proofs.StateLemmas.{level-next, level-end}
use Rattle.conley_homology.proofs.column.Columns.reduce_level.Goals as goal

pub loop-i-init : goal.loop-i-init
loop-i-init g c =
    level-next (g.met.F.Field.is_field c.args.field.now) c.args.cells.now.boundary.now c.args.cells.now.dims.now c.args.cells.now.set.now c.requires.complex
    c.args.self.now.kept.items c.args.self.now.reduced.items
    c.args.self.now.owner.items c.args.level c.requires.so_far

pub returns : goal.returns
returns g c = record {
  so_far = level-end (g.met.F.Field.is_field c.args.field.now) c.args.cells.now.boundary.now c.args.cells.now.dims.now c.args.cells.now.set.now
      c.requires.complex c.loop-i.self.kept.items c.loop-i.self.reduced.items
      c.loop-i.self.owner.items c.args.level c.loop-i.i c.loop-i-test.false c.loop-i.invariant;
}
