use Rattle.std.proofs.Common.{refl}
use Rattle.std.specs.Prelude.{Contains}
use Rattle.std.proofs.lemmas.Bool.{false≢true}
use Rattle.conley_lists.proofs.ListLemmas.{take_whole}
use Rattle.conley_faces.proofs.PartLemmas.{part-more, part-other}
use Rattle.conley_faces.proofs.lists.left_out.Goals.{then-not-stands_in+in_ok-push, else-not-stands_in}
use Rattle.conley_faces.proofs.lists.left_out.Goals as goal

pub loop-y-preserved : goal.loop-y-preserved
loop-y-preserved c = elim c.if-not-stands_in.branch [
  | then-not-stands_in+in_ok-push w ↦
      rw (w.part-is, w.in_ok-push.ensures.items)
      (part-more (λ y. Contains c.args.without.now y → ⊥) c.args.list.now c.loop-y.part.items c.loop-y.y-index c.loop-y-test.true c.requires.list
      c.loop-y.invariant
      (λ d. false≢true (w.if-not-stands_in.ensures.1 d)))
  | else-not-stands_in w ↦
      rw w.part-is
      (part-other (λ y. Contains c.args.without.now y → ⊥) c.args.list.now c.loop-y.part.items c.loop-y.y-index c.loop-y-test.true c.requires.list
      c.loop-y.invariant
      (λ none. none (w.if-not-stands_in.ensures.0 refl)))
]

pub returns : goal.returns
returns c = rw (take_whole c.loop-y.y-index c.args.list.now c.loop-y-test.false) at c.loop-y.invariant
