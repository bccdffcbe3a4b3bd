use Rattle.std.proofs.Common.{◌≡◌, ◌<◌, ℕ, length, get_or, refl, sym, ◌∙◌, subst}
use Rattle.std.proofs.lemmas.Bool.{false≢true}
use Rattle.conley_lists.specs.Lists.{IsMarked}
use Rattle.conley_lists.proofs.ListLemmas.{take_whole}
use Rattle.conley_faces.proofs.PartLemmas.{part-more, part-other}
use Rattle.conley_isolation.proofs.PlaceLemmas.{one_place}
use Rattle.conley_isolation.proofs.set_report.marked.Goals.{then-row-i+then-other-i+in_ok-push, else-row-i, else-row-i-via-then-row-i+else-other-i, else-row-i-via-else-row-i}
use Rattle.conley_isolation.proofs.set_report.marked.Goals as goal

pub loop-i-preserved : goal.loop-i-preserved
loop-i-preserved c =
    let set = c.args.set.now in
    let n = c.loop-i.i in
    let both = λ (x : ℕ). (i : ℕ) × (i < length set) × (get_or set i 0 ≡ x) × IsMarked c.args.row.now i × IsMarked c.args.other.now i in
    elim c.if-row-i.branch [
      | then-row-i+then-other-i+in_ok-push w ↦
          rw (w.part-is, w.in_ok-push.ensures.items)
          (part-more both set c.loop-i.part.items n c.loop-i-test.true c.requires.set c.loop-i.invariant
          (n, c.loop-i-test.true, refl, w.if-row-i.true, w.if-other-i.true))
      | else-row-i w ↦
          rw w.part-is
          (part-other both set c.loop-i.part.items n c.loop-i-test.true c.requires.set c.loop-i.invariant (λ k.
          let same : k.0 ≡ n = one_place set c.requires.set k.0 n k.1 c.loop-i-test.true k.2 in
          elim w.else-row-i.branch [
            | else-row-i-via-then-row-i+else-other-i v ↦ false≢true (sym v.if-other-i.false ∙ subst (IsMarked c.args.other.now) same k.4)
            | else-row-i-via-else-row-i v ↦ false≢true (sym v.if-row-i.false ∙ subst (IsMarked c.args.row.now) same k.3)
          ]))
    ]

pub returns : goal.returns
returns c = rw (take_whole c.loop-i.i c.args.set.now c.loop-i-test.false) at c.loop-i.invariant
