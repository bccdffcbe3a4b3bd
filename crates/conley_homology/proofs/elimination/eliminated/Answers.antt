use Rattle.std.proofs.Common.{arith, ◌-◌, ◌+◌}
use Rattle.conley_homology.proofs.StateLemmas.{level-start, level-same}
use Rattle.conley_homology.proofs.elimination.eliminated.Goals as goal

pub loop-level-init : goal.loop-level-init
loop-level-init g c =
    level-start (g.met.F.Field.is_field c.args.field.now) c.args.cells.now.boundary.now c.args.cells.now.dims.now c.args.cells.now.set.now c.requires.complex
    c.in_ok-columns.columns.kept.items
    c.in_ok-columns.columns.reduced.items c.in_ok-columns.columns.owner.items c.args.levels c.requires.levels c.in_ok-columns.ensures.kept.0
    c.in_ok-columns.ensures.reduced.0 c.in_ok-columns.ensures.owner.0
    c.in_ok-columns.ensures.kept.1 c.in_ok-columns.ensures.reduced.1 c.in_ok-columns.ensures.owner.1

pub reduce_level-requires-clause-so_far : goal.reduce_level-requires-clause-so_far
reduce_level-requires-clause-so_far g c =
    level-same (g.met.F.Field.is_field c.args.field.now) c.args.cells.now.boundary.now c.args.cells.now.dims.now c.args.cells.now.set.now c.requires.complex
    c.loop-level.columns.kept.items
    c.loop-level.columns.reduced.items c.loop-level.columns.owner.items c.loop-level.level (c.loop-level.level - 1 + 1) (omega (arith, c.loop-level-test.true))
    c.loop-level.invariant

pub returns : goal.returns
returns g c =
    level-same (g.met.F.Field.is_field c.args.field.now) c.args.cells.now.boundary.now c.args.cells.now.dims.now c.args.cells.now.set.now c.requires.complex
    c.loop-level.columns.kept.items
    c.loop-level.columns.reduced.items c.loop-level.columns.owner.items c.loop-level.level 0 (omega (arith, c.loop-level-test.false)) c.loop-level.invariant
