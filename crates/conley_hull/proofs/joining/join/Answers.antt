-- the cells of the smaller part are moved
use Rattle.std.proofs.Common.{◌≡◌, get_or, sym, ◌∙◌}
use Rattle.std.proofs.lemmas.List.{get_or_default}
use Rattle.conley_lists.specs.Lists.{items_of}
use Rattle.conley_hull.proofs.WaitLemmas.{moved-absorb, work-absorb}
use Rattle.conley_hull.proofs.joining.join.Goals.{After-index-q}
use Rattle.conley_hull.proofs.joining.join.Goals as goal

label_u : (c : After-index-q) → get_or c.args.labels.now.items c.args.u 0 ≡ c.index-k.result.now
label_u c = sym (c.index-k.ensures ∙ get_or_default c.args.labels.now.items c.args.u c.index-k.result.now 0 c.requires.u)

label_v : (c : After-index-q) → get_or c.args.labels.now.items c.args.v 0 ≡ c.index-q.result.now
label_v c = sym (c.index-q.ensures ∙ get_or_default c.args.labels.now.items c.args.v c.index-q.result.now 0 c.requires.v)

pub returns-then-len-clause-waits : goal.returns-then-len-clause-waits
returns-then-len-clause-waits c =
    moved-absorb c.index-q.result.now c.index-k.result.now c.args.labels.now.items c.absorb.new.labels.items (items_of c.args.cells.now.items)
    c.args.waiting.now.items c.absorb.new.waiting.items c.requires.table
    c.in_ok-absorb.ensures.absorbs c.in_ok-absorb.ensures.waits

pub returns-then-len-clause-work : goal.returns-then-len-clause-work
returns-then-len-clause-work c =
    let d = (goal.at.returns-then-len-clause-work c).After-index-q in
    work-absorb c.index-q.result.now c.index-k.result.now c.args.v c.args.u c.args.labels.now.items (items_of c.args.cells.now.items)
    (items_of c.absorb.new.cells.items) c.args.waiting.now.items c.absorb.new.waiting.items
    c.requires.table c.if-k-q.false c.requires.v c.requires.u (label_v d) (label_u d) c.in_ok-absorb.ensures.lists c.in_ok-absorb.ensures.waits

pub returns-clause-waits : goal.returns-clause-waits
returns-clause-waits c =
    moved-absorb c.index-k.result.now c.index-q.result.now c.args.labels.now.items c.absorb-2.new.labels.items (items_of c.args.cells.now.items)
    c.args.waiting.now.items c.absorb-2.new.waiting.items c.requires.table
    c.in_ok-absorb-2.ensures.absorbs c.in_ok-absorb-2.ensures.waits

pub returns-clause-work : goal.returns-clause-work
returns-clause-work c =
    let d = (goal.at.returns-clause-work c).After-index-q in
    work-absorb c.index-k.result.now c.index-q.result.now c.args.u c.args.v c.args.labels.now.items (items_of c.args.cells.now.items)
    (items_of c.absorb-2.new.cells.items) c.args.waiting.now.items c.absorb-2.new.waiting.items
    c.requires.table (λ e. c.if-k-q.false (sym e)) c.requires.u c.requires.v (label_u d) (label_v d) c.in_ok-absorb-2.ensures.lists
    c.in_ok-absorb-2.ensures.waits
