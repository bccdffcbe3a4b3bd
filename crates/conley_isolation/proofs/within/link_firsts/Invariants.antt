use Rattle.conley_lists.specs.Lists.{items_of}
use Rattle.conley_isolation.specs.Making.{LinksFirsts}
use Rattle.conley_isolation.proofs.within.link_firsts.Given as goal

abbrev pub invariant-loop-i : goal.invariant-loop-i
invariant-loop-i l = LinksFirsts l.firsts l.i (items_of l.fn.lists.items) (items_of l.lists.items)
