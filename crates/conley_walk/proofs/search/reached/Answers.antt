-- a search from one start
use Rattle.conley_lists.specs.Lists.{items_of}
use Rattle.conley_walk.proofs.SearchLemmas.{reaches_from_one}
use Rattle.conley_walk.proofs.search.reached.Goals as goal

pub returns-clause-reach : goal.returns-clause-reach
returns-clause-reach c = λ y.
    let found = c.in_ok-row.ensures.reach y in
    let one = reaches_from_one (items_of c.args.steps.now) c.args.start y in
    ((λ m. one.0 (found.0 m)), (λ r. found.1 (one.1 r)))
