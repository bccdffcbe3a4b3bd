use Rattle.std.proofs.Common.{arith, get_or}
use Rattle.std.proofs.lemmas.List.Elements.{Contains-get_or}
use Rattle.conley_walk.proofs.SearchLemmas.{IsMarked-in_row}
use Rattle.conley_faces.proofs.MarkLemmas.{left-none}
use Rattle.conley_faces.proofs.lists.unmark.Goals as goal

pub bounds-seen-y : goal.bounds-seen-y
bounds-seen-y c =
    let list = c.args.list.now in
    let y = get_or list c.loop-y.y-index 0 in
    let within = IsMarked-in_row c.args.seen.now y ((c.requires.same y).1 (Contains-get_or list c.loop-y.y-index 0 c.loop-y-test.true)) in
    omega (arith, within)

pub returns : goal.returns
returns c = left-none c.args.list.now c.loop-y.y-index c.args.seen.now c.loop-y.seen c.loop-y-test.false c.requires c.loop-y.invariant
