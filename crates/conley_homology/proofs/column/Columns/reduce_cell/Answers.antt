use Rattle.std.proofs.Common.{arith, ◌∙◌, sym}
use Rattle.conley_homology.proofs.PlaceLemmas.{place-at_least}
use Rattle.conley_homology.proofs.StateLemmas.{level-other, level-owned, level-column, owner_some, owner_none}
use Rattle.conley_homology.proofs.column.Columns.reduce_cell.Goals as goal

pub returns-then-cells-i : goal.returns-then-cells-i
returns-then-cells-i g c = record {
  so_far = level-other (g.met.F.Field.is_field c.args.field.now) c.args.cells.now.boundary.now c.args.cells.now.dims.now c.args.cells.now.set.now
      c.requires.complex c.args.self.now.kept.items c.args.self.now.reduced.items
      c.args.self.now.owner.items c.args.level c.args.i c.if-cells-i.true c.requires.so_far;
}

pub returns-then-is_some : goal.returns-then-is_some
returns-then-is_some g c = record {
  so_far =
      let owned = owner_some c.args.self.now.owner.items c.args.i c.index.result.now (omega (arith, c.requires.so_far.owner_count, c.requires.cell))
      c.index.ensures (sym c.is_some.ensures ∙ c.if-is_some.true) in
      level-owned (g.met.F.Field.is_field c.args.field.now) c.args.cells.now.boundary.now c.args.cells.now.dims.now c.args.cells.now.set.now c.requires.complex
      c.args.self.now.kept.items c.args.self.now.reduced.items
      c.args.self.now.owner.items c.args.level c.args.i owned.0 owned.1 c.requires.so_far;
}

pub put-requires-clause-few : goal.put-requires-clause-few
put-requires-clause-few g c =
    omega (
      arith,
      place-at_least c.args.cells.now.set.now c.requires.complex.ascending c.args.i c.requires.cell,
      c.requires.complex.cells c.args.i 0 c.requires.cell,
      c.requires.complex.few,
    )

pub returns : goal.returns
returns g c = record {
  so_far =
      rw (c.put.ensures.kept, c.put.ensures.reduced)
      (level-column (g.met.F.Field.is_field c.args.field.now) c.args.cells.now.boundary.now c.args.cells.now.dims.now c.args.cells.now.set.now
      c.requires.complex c.args.self.now.kept.items c.args.self.now.reduced.items
      c.args.self.now.owner.items c.args.level c.args.i c.in_ok-column.column.end c.in_ok-column.column.kept c.in_ok-column.column.reduced
      c.put.new.self.owner.items c.requires.cell c.if-cells-i.false
      (owner_none c.args.self.now.owner.items c.args.i c.index.result.now (omega (arith, c.requires.so_far.owner_count, c.requires.cell)) c.index.ensures
      (sym c.is_some.ensures ∙ c.if-is_some.false))
      c.requires.so_far c.in_ok-column.ensures.chains c.in_ok-column.ensures.end c.in_ok-column.ensures.free c.put.ensures.nowhere c.put.ensures.owner);
}
