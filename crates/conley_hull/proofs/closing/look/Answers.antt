-- below x, then above it
use Rattle.conley_lists.specs.Lists.{items_of, ListedStep}
use Rattle.conley_digraph.proofs.TurningLemmas.{turned_digraph}
use Rattle.conley_hull.specs.Making.{IsClosedOver, Closes, LetsMovedWait}
use Rattle.conley_hull.proofs.ClosingLemmas.{closes-on, closes-more, closed-turned}
use Rattle.conley_hull.proofs.WaitLemmas.{moved-on, look-settled}
use Rattle.conley_hull.proofs.closing.look.Goals.{In_ok-take_between-2}
use Rattle.conley_hull.proofs.closing.look.Goals as goal

pub take_between-requires-2-clause-digraph : goal.take_between-requires-2-clause-digraph
take_between-requires-2-clause-digraph c = turned_digraph (items_of c.args.below.now) (items_of c.args.above.now) c.requires.turned

-- what both steps do to labels, and to what waits
upward : (c : In_ok-take_between-2) → Closes (IsClosedOver (ListedStep (items_of c.args.below.now))) c.take_between.new.labels.items
    c.take_between-2.new.labels.items
upward c =
    let below = items_of c.args.below.now in
    let above = items_of c.args.above.now in
    closes-more (IsClosedOver (ListedStep above)) (IsClosedOver (ListedStep below)) c.take_between.new.labels.items c.take_between-2.new.labels.items
    (closed-turned below above c.requires.turned) c.in_ok-take_between-2.ensures.closes

closes : (c : In_ok-take_between-2) → Closes (IsClosedOver (ListedStep (items_of c.args.below.now))) c.args.labels.now.items c.take_between-2.new.labels.items
closes c = closes-on (IsClosedOver (ListedStep (items_of c.args.below.now))) c.args.labels.now.items c.take_between.new.labels.items
    c.take_between-2.new.labels.items c.in_ok-take_between.ensures.closes (upward c)

waits : (c : In_ok-take_between-2) → LetsMovedWait c.args.labels.now.items c.take_between-2.new.labels.items c.args.waiting.now.items
    c.take_between-2.new.waiting.items
waits c =
    moved-on c.args.labels.now.items c.take_between.new.labels.items c.take_between-2.new.labels.items c.args.waiting.now.items
    c.take_between.new.waiting.items c.take_between-2.new.waiting.items c.in_ok-take_between.ensures.closes.count
    c.in_ok-take_between.ensures.waits c.in_ok-take_between-2.ensures.waits

pub returns-clause-closes : goal.returns-clause-closes
returns-clause-closes c = closes c

pub returns-clause-cells : goal.returns-clause-cells
returns-clause-cells c = (waits c).cells

pub returns-clause-settled : goal.returns-clause-settled
returns-clause-settled c =
    look-settled (items_of c.args.below.now) (items_of c.args.above.now) c.args.x c.args.labels.now.items c.take_between.new.labels.items
    c.take_between-2.new.labels.items c.args.waiting.now.items c.take_between.new.waiting.items
    c.take_between-2.new.waiting.items c.requires.turned (closes c).coarser c.in_ok-take_between-2.ensures.closes.coarser (waits c)
    c.in_ok-take_between-2.ensures.waits c.requires.settled c.in_ok-take_between.ensures.settled
    c.in_ok-take_between-2.ensures.settled
