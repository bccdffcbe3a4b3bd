use Rattle.std.proofs.Common.{◌<◌, arith}
use Rattle.std.proofs.lemmas.List.Elements.{All-more}
use Rattle.conley_lists.proofs.ListLemmas.{take_whole}
use Rattle.conley_lists.proofs.lists.place_out_of_range.Goals as goal

pub loop-k-preserved : goal.loop-k-preserved
loop-k-preserved c = All-more (λ y. y < c.args.n) c.args.list.now c.loop-k.k 0 c.loop-k-test.true c.loop-k.invariant (omega arith)

pub returns-clause-none : goal.returns-clause-none
returns-clause-none c = let whole = take_whole c.loop-k.k c.args.list.now c.loop-k-test.false in rw whole at c.loop-k.invariant
