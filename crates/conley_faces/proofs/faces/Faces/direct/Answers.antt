use Rattle.std.proofs.Common.{arith, ◌<◌, length, ap}
use Rattle.conley_lists.proofs.ListLemmas.{row_of, length-items_of}
use Rattle.conley_faces.proofs.faces.Faces.direct.Goals as goal

pub returns-clause-ascending : goal.returns-clause-ascending
returns-clause-ascending c =
    let lt : c.args.x < length c.self.inside.direct.items = omega (arith, ap length c.self.view_is, length-items_of c.self.inside.direct.items) in
    let row = row_of c.self.inside.direct.items c.args.x c.index.result.now lt c.index.ensures in
    rw (c.deref.ensures.value, ← row) (c.self.invariant.order.ascending c.args.x)
