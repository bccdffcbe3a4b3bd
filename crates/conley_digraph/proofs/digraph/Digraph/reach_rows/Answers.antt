-- rows of all classes
use Rattle.std.proofs.Common.{arith, length, subst}
use Rattle.std.proofs.lemmas.List.{get_or_default}
use Rattle.conley_lists.specs.Lists.{items_of}
use Rattle.conley_digraph.specs.Classes.{AreClasses}
use Rattle.conley_digraph.specs.Closing.{AreClosing}
use Rattle.conley_digraph.specs.Numbering.{IsRenumbered}
use Rattle.conley_digraph.specs.Rows.{AreRowsOf}
use Rattle.conley_digraph.proofs.NumberingLemmas.{closing_classes}
use Rattle.conley_digraph.proofs.RowLemmas.{closing_order, class_rows, class_reach}
use Rattle.conley_digraph.proofs.digraph.Digraph.reach_rows.Goals.{After-deref-5, In_ok-rows}
use Rattle.conley_digraph.proofs.digraph.Digraph.reach_rows.Goals as goal

pub closing_of-requires-clause-digraph : goal.closing_of-requires-clause-digraph
closing_of-requires-clause-digraph c = rw c.deref.ensures.value c.self.invariant.digraph

pub renumbered-requires-clause-below : goal.renumbered-requires-clause-below
renumbered-requires-clause-below c =
    let closing = rw c.deref.ensures.value at c.in_ok-closing.ensures in
    let numbers = c.in_ok-closing.closing.numbers.items in
    rw c.deref-2.ensures.value (λ k d lt. omega (
      arith,
      get_or_default numbers k d 0 lt,
      closing.below k (omega (arith, lt, closing.count)),
      c.len.ensures,
      c.in_ok-closing.closing.roots.ok.0,
    ))

-- what was found so far, without places in memory
are_closing : (c : After-deref-5) → AreClosing (items_of c.self.inside.heads.items) c.in_ok-closing.closing.numbers.items c.in_ok-closing.closing.roots.items
are_closing c = rw c.deref.ensures.value at c.in_ok-closing.ensures

renumbered : (c : After-deref-5) → IsRenumbered c.in_ok-closing.closing.numbers.items c.in_ok-class_of.class_of.items
    (length c.in_ok-closing.closing.numbers.items)
renumbered c = rw c.deref-2.ensures.value at c.in_ok-class_of.ensures

are_classes : (c : After-deref-5) → AreClasses (items_of c.self.inside.heads.items) c.in_ok-class_of.class_of.items
are_classes c = closing_classes _ c.in_ok-closing.closing.numbers.items c.in_ok-closing.closing.roots.items _ (are_closing c) (renumbered c)

are_rows : (c : In_ok-rows) → AreRowsOf (items_of c.self.inside.heads.items) c.in_ok-class_of.class_of.items (items_of c.in_ok-rows.rows.items)
are_rows c = rw (c.deref-3.ensures.value, c.deref-4.ensures.value) at c.in_ok-rows.ensures

pub class_rows-requires-clause-digraph : goal.class_rows-requires-clause-digraph
class_rows-requires-clause-digraph c = rw c.deref-3.ensures.value c.self.invariant.digraph

pub class_rows-requires-clause-classes : goal.class_rows-requires-clause-classes
class_rows-requires-clause-classes c = rw (c.deref-3.ensures.value, c.deref-4.ensures.value)
    (are_classes (goal.at.class_rows-requires-clause-classes c).After-deref-5)

pub class_rows-requires-clause-order : goal.class_rows-requires-clause-order
class_rows-requires-clause-order c =
    let d = (goal.at.class_rows-requires-clause-order c).After-deref-5 in
    rw (c.deref-3.ensures.value, c.deref-4.ensures.value, c.deref-5.ensures.value)
    (closing_order (items_of c.self.inside.heads.items) c.in_ok-closing.closing.numbers.items c.in_ok-closing.closing.roots.items
    c.in_ok-class_of.class_of.items c.self.invariant.digraph (are_closing d) (renumbered d))

pub from_rows-requires : goal.from_rows-requires
from_rows-requires c =
    let r = (goal.at.from_rows-requires c).In_ok-rows in
    let d = (goal.at.from_rows-requires c).After-deref-5 in
    class_rows (items_of c.self.inside.heads.items) c.in_ok-class_of.class_of.items (items_of c.in_ok-rows.rows.items) (are_classes d) (are_rows r)

pub returns-clause-classes : goal.returns-clause-classes
returns-clause-classes c =
    let d = (goal.at.returns-clause-classes c).After-deref-5 in
    rw c.from_rows.ensures (subst (λ l. AreClasses l c.in_ok-class_of.class_of.items) c.self.view_is (are_classes d))

pub returns-clause-reach : goal.returns-clause-reach
returns-clause-reach c =
    let r = (goal.at.returns-clause-reach c).In_ok-rows in
    let d = (goal.at.returns-clause-reach c).After-deref-5 in
    let classes = subst (λ l. AreClasses l c.in_ok-class_of.class_of.items) c.self.view_is (are_classes d) in
    let rows = subst (λ l. AreRowsOf l c.in_ok-class_of.class_of.items (items_of c.in_ok-rows.rows.items)) c.self.view_is (are_rows r) in
    rw c.from_rows.ensures (class_reach c.args.self.now c.in_ok-class_of.class_of.items (items_of c.in_ok-rows.rows.items) classes rows)
