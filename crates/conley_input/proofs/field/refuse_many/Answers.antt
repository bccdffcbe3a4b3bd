use Rattle.std.proofs.Common.{arith, ◌≡◌, take, length-append}
use Rattle.conley_lists.proofs.ListLemmas.{take_whole}
use Rattle.conley_lists.proofs.EntryLemmas.{entries_more}
use Rattle.conley_input.proofs.field.refuse_many.Goals as goal

pub loop-list-preserved : goal.loop-list-preserved
loop-list-preserved c =
    let more = entries_more c.args.lists.now c.loop-list.list-index c.list-item.result c.loop-list-test.true c.list-item.is in
    record {
      counted = rw more (simp length-append (omega (arith, c.loop-list.invariant.counted, c.len-entries.ensures, c.list-item.result.ok.0)));
      few = omega (arith, c.len-entries.ensures, c.list-item.result.ok.0);
    }

pub returns-clause-entries : goal.returns-clause-entries
returns-clause-entries c =
    let all : take c.loop-list.list-index c.args.lists.now ≡ c.args.lists.now = take_whole _ _ c.loop-list-test.false in
    let counted = rw all at c.loop-list.invariant.counted in
    omega (arith, counted, c.loop-list.invariant.few)
