use Rattle.conley_chains.proofs.PlacingLemmas.{in_order-sorted, repeats_none, repeats_first}
use Rattle.conley_chains.proofs.placing.sort_by_place.Goals as goal

pub returns-clause-in_order : goal.returns-clause-in_order
returns-clause-in_order c = in_order-sorted c.sort_unstable.new.self.items c.sort_unstable.ensures.sorted

pub returns-clause-none : goal.returns-clause-none
returns-clause-none c =
    repeats_none c.args.placed.now.items c.sort_unstable.new.self.items c.sort_unstable.ensures.permutation c.requires.numbered
    (in_order-sorted c.sort_unstable.new.self.items c.sort_unstable.ensures.sorted) c.least_repeat.result
    (rw c.deref.ensures.value at c.least_repeat.ensures.none)

pub returns-clause-first : goal.returns-clause-first
returns-clause-first c =
    repeats_first c.args.placed.now.items c.sort_unstable.new.self.items c.sort_unstable.ensures.permutation c.requires.numbered
    (in_order-sorted c.sort_unstable.new.self.items c.sort_unstable.ensures.sorted) c.least_repeat.result
    (rw c.deref.ensures.value at c.least_repeat.ensures.found) (rw c.deref.ensures.value at c.least_repeat.ensures.least)
