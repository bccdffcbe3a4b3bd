use Rattle.std.proofs.Common.{arith, ◌<◌, length, ap}
use Rattle.conley_lists.proofs.ListLemmas.{row_of, length-items_of}
use Rattle.conley_faces.proofs.faces.Faces.faces_of.Goals as goal

pub returns-clause-ascending : goal.returns-clause-ascending
returns-clause-ascending c =
    let lt : c.args.x < length c.self.inside.closures.items = omega (
      arith,
      ap length c.self.view_is,
      c.self.invariant.closures.height,
      length-items_of c.self.inside.closures.items,
    ) in
    let row = row_of c.self.inside.closures.items c.args.x c.index.result.now lt c.index.ensures in
    rw (c.deref.ensures.value, ← row) (c.self.invariant.closures.ascending c.args.x)

pub returns-clause-faces : goal.returns-clause-faces
returns-clause-faces c = λ y.
    let lt : c.args.x < length c.self.inside.closures.items = omega (
      arith,
      ap length c.self.view_is,
      c.self.invariant.closures.height,
      length-items_of c.self.inside.closures.items,
    ) in
    let row = row_of c.self.inside.closures.items c.args.x c.index.result.now lt c.index.ensures in
    rw (← c.self.view_is, c.deref.ensures.value, ← row) (c.self.invariant.closures.faces c.args.x y)
