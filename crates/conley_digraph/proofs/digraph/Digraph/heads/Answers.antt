use Rattle.std.proofs.Common.{arith, ◌<◌, length, ap}
use Rattle.conley_lists.proofs.ListLemmas.{row_of, length-items_of}
use Rattle.conley_digraph.proofs.digraph.Digraph.heads.Goals as goal

pub returns-clause-ascending : goal.returns-clause-ascending
returns-clause-ascending c =
    let rows = c.self.inside.heads.items in
    let lt : c.args.node < length rows = omega (arith, ap length c.self.view_is, length-items_of rows) in
    let row = row_of rows c.args.node c.index.result.now lt c.index.ensures in
    rw (c.deref.ensures.value, ← row) (c.self.invariant.ascending c.args.node)
