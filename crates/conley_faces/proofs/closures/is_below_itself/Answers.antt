use Rattle.std.proofs.Common.{arith, ◌<◌, length, sym, ◌∙◌}
use Rattle.conley_lists.specs.Lists.{items_of}
use Rattle.conley_lists.proofs.ListLemmas.{length-items_of, row_of, row_in_range, read_mark}
use Rattle.std.proofs.lemmas.Bool.{eqb-false, false≢true}
use Rattle.conley_faces.specs.Closures.{IsMade}
use Rattle.conley_faces.proofs.closures.is_below_itself.Goals as goal

pub reached_from-requires-clause-nodes : goal.reached_from-requires-clause-nodes
reached_from-requires-clause-nodes c =
    rw c.deref.ensures.value (row_in_range c.args.direct.now c.args.x c.index-direct-x.result c.requires.digraph c.requires.cell c.index-direct-x.is)

pub returns : goal.returns
returns c =
    let row = row_of c.args.direct.now c.args.x c.index-direct-x.result c.requires.cell c.index-direct-x.is in
    let lt : c.args.x < length c.in_ok-marks.marks.items = omega (arith, c.requires.cell, c.in_ok-marks.ensures.width, c.in_ok-marks.marks.ok.0) in
    let mark = read_mark c.in_ok-marks.marks.items c.args.x c.index.result.now lt c.index.ensures in
    let reach = rw (c.deref.ensures.value, ← row) at (c.in_ok-marks.ensures.reach c.args.x) in
    ((λ t. let g = reach.0 (mark ∙ t) in (g.0, g.1.0, g.1.1)), (λ b. sym mark ∙ reach.1 (b.0, (b.1, b.2))))

pub returns-then-not-is_empty : goal.returns-then-not-is_empty
returns-then-not-is_empty c =
    let some = eqb-false _ 0 (sym c.is_empty.ensures ∙ c.if-not-is_empty.true) in
    let lt : c.args.x < length c.args.closures.now = omega (
      arith,
      c.requires.cell,
      length-items_of c.args.closures.now,
      c.requires.state.height,
      length-items_of c.args.direct.now,
    ) in
    let row = row_of c.args.closures.now c.args.x c.index-closures-x.result lt c.index-closures-x.is in
    let made : IsMade (items_of c.args.closures.now) c.args.x = rw row (omega (arith, some, c.index-closures-x.result.ok.0)) in
    ((λ t. absurd (false≢true t)), (λ b. absurd (c.requires.state.no_cycle c.args.x made b)))
