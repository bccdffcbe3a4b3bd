use Rattle.conley_lists.proofs.MakingLemmas.{all-ascend}
use Rattle.conley_lists.proofs.making.all_numbers.Goals as goal

pub returns-clause-ascending : goal.returns-clause-ascending
returns-clause-ascending c = all-ascend c.loop-x.x c.loop-x.all.items c.loop-x.invariant.0 c.loop-x.invariant.1
