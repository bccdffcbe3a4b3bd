use Rattle.conley_lists.specs.Lists.{items_of}
use Rattle.conley_isolation.proofs.WithinLemmas.{links-more}
use Rattle.conley_isolation.proofs.within.link_firsts.Goals as goal

pub loop-i-preserved : goal.loop-i-preserved
loop-i-preserved c =
    links-more c.args.firsts.now c.loop-i.i (items_of c.args.lists.now.items) (items_of c.loop-i.lists.items) (items_of c.put_under.new.lists.items)
    (items_of c.put_under-in-loop-i.new.lists.items) c.loop-i.invariant
    c.in_ok-put_under.ensures.puts c.in_ok-put_under-2.ensures.puts
