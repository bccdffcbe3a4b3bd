use Rattle.std.proofs.Common.{arith, refl}
use Rattle.std.proofs.lemmas.Bool.{false≢true}
use Rattle.conley_lists.specs.Lists.{items_of}
use Rattle.conley_lists.proofs.ListLemmas.{row_of, row_in_range, length-items_of, step_begins}
use Rattle.conley_isolation.specs.Making.{Crosses}
use Rattle.conley_isolation.proofs.StartLemmas.{crosses_by_class, taken-more, taken-other}
use Rattle.conley_isolation.proofs.starts.crossing.Goals.{then-crosses+in_ok-push, else-crosses}
use Rattle.conley_isolation.proofs.starts.crossing.Goals as goal

pub crosses-requires-clause-heads : goal.crosses-requires-clause-heads
crosses-requires-clause-heads c =
    let all = row_in_range c.args.steps.now c.loop-i.i c.index-steps-i.result c.requires.digraph (omega arith) c.index-steps-i.is in
    rw (c.deref.ensures.value, ← c.requires.places) all

pub returns : goal.returns
returns c = λ i.
    let w = c.loop-i.invariant i in
    ((λ h. (w.0 h).1), (λ k. w.1 (omega (arith, step_begins (items_of c.args.steps.now) i k.0 k.1, length-items_of c.args.steps.now, c.loop-i-test.false), k)))

pub loop-i-preserved : goal.loop-i-preserved
loop-i-preserved c =
    let steps = items_of c.args.steps.now in
    let i = c.loop-i.i in
    let row = row_of c.args.steps.now i c.index-steps-i.result (omega arith) c.index-steps-i.is in
    let by = crosses_by_class steps c.args.parts.now c.in_ok-class_of.class_of.items c.requires.digraph c.in_ok-class_of.ensures.classes i in
    elim c.if-crosses.branch [
      | then-crosses+in_ok-push w ↦
          let k = rw (c.deref.ensures.value, c.deref-in-loop-i.ensures.value, ← row) at (w.if-crosses.ensures.0 refl) in
          rw (w.starts-is, w.in_ok-push.ensures.items) (taken-more (Crosses steps c.args.parts.now) i c.loop-i.starts.items c.loop-i.invariant (by.0 k))
      | else-crosses w ↦
          rw w.starts-is
          (taken-other (Crosses steps c.args.parts.now) i c.loop-i.starts.items c.loop-i.invariant
          (λ k. false≢true (w.if-crosses.ensures.1 (rw (c.deref.ensures.value, c.deref-in-loop-i.ensures.value, ← row) (by.1 k)))))
    ]
