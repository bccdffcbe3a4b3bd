-- one list more
use Rattle.std.proofs.Common.{arith, [], get_or, ◌∙◌, sym, subst}
use Rattle.conley_lists.specs.Lists.{items_of}
use Rattle.conley_lists.proofs.ListLemmas.{row_of}
use Rattle.conley_mvf.specs.Making.{PutsFirst}
use Rattle.conley_mvf.proofs.MarkLemmas.{all_below}
use Rattle.conley_mvf.proofs.FirstsLemmas.{tells-more}
use Rattle.conley_mvf.proofs.numbering.firsts_of.Goals as goal

pub put_first-requires : goal.put_first-requires
put_first-requires c =
    let row = row_of c.args.lists.now c.loop-list.list-index c.list-item.result c.loop-list-test.true c.list-item.is in
    rw (c.deref.ensures.value, ← row)
    (λ k d lt. omega (
      arith,
      all_below (get_or (items_of c.args.lists.now) c.loop-list.list-index []) c.args.cells (c.requires.cells c.loop-list.list-index) k
          d lt,
      c.loop-list.invariant.count,
    ))

pub loop-list-preserved : goal.loop-list-preserved
loop-list-preserved c =
    let row = row_of c.args.lists.now c.loop-list.list-index c.list-item.result c.loop-list-test.true c.list-item.is in
    tells-more (items_of c.args.lists.now) c.loop-list.list-index c.args.cells c.loop-list.least.items c.put_first.new.least.items c.loop-list.invariant
    (subst (λ l. PutsFirst c.loop-list.least.items c.put_first.new.least.items l) (c.deref.ensures.value ∙ sym row) c.put_first.ensures)
