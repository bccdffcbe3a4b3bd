use Rattle.std.proofs.Common.{arith, List, ℕ, false}
use Rattle.conley_lists.specs.Lists.{items_of}
use Rattle.conley_transitions.specs.Flow.{flow_by, IsFlow}
use Rattle.conley_transitions.proofs.ClassLemmas.{gathered_classes}
use Rattle.conley_transitions.proofs.classes.recurrence_classes.Goals as goal

pub gathered-requires-clause-few : goal.gathered-requires-clause-few
gathered-requires-clause-few c = rw c.deref.ensures.value (omega (arith, c.in_ok-class_of.ensures.classes.count, c.count-heads.ensures.heads.few))

pub gathered-requires-clause-in_order : goal.gathered-requires-clause-in_order
gathered-requires-clause-in_order c =
    rw c.deref.ensures.value (λ x k lx lk. let classes = c.in_ok-class_of.ensures.classes in classes.in_order x k (omega (arith, lx, classes.count)) lk)

-- the classes don't depend on which parts are called regular
pub returns : goal.returns
returns c =
    let faces = c.args.faces.now in
    let flow = flow_by faces c.args.partition.now (λ p. false) in
    let ok : IsFlow flow = record { digraph = c.count-order.ensures.order.digraph; parts = c.requires.count } in
    let steps = c.in_ok-digraph.ensures.steps in
    let reach = c.in_ok-digraph.ensures.reach in
    gathered_classes flow ok c.in_ok-digraph.digraph (omega (arith, steps.count, c.requires.count)) reach c.in_ok-class_of.class_of.items
    (items_of c.in_ok-classes.classes.items) c.in_ok-class_of.ensures.classes (rw c.deref.ensures.value at c.in_ok-classes.ensures)
