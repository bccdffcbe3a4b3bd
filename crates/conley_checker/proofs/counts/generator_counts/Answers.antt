use Rattle.std.proofs.Common.{◌≡◌, ◌<◌, ◌+◌, ◌==◌, ◌&&◌, ℕ, suc, arith, ◌∙◌, ap, subst, get_or}
use Rattle.std.proofs.lemmas.Grind.{common_steps}
use Rattle.std.proofs.lemmas.List.{get_or_default}
use Rattle.conley_lists.specs.Lists.{items_of}
use Rattle.conley_lists.proofs.ListLemmas.{length-items_of}
use Rattle.conley_certificate_file.specs.CertificateMeaning.{meaning_of}
use Rattle.conley_certificate.specs.Certificate.{generator_count, set_count, set_of, dim_of}
use Rattle.conley_certificate.proofs.TestLemmas.{count_below-most}
use Rattle.conley_checker.specs.Rows.{AreCounts}
use Rattle.conley_checker.proofs.CountLemmas.{counted_more, counted_same}
use Rattle.conley_checker.proofs.counts.generator_counts.Goals.{then-e-sets+then-e-levels, else-e-sets, else-e-sets-via-then-e-sets+else-e-levels, else-e-sets-via-else-e-sets}
use Rattle.conley_checker.proofs.counts.generator_counts.Goals as goal

pub count_one-requires-clause-room : goal.count_one-requires-clause-room
count_one-requires-clause-room c =
    let C = meaning_of c.args.certificate.now in
    let e = c.index-e.result.now in
    let below : c.loop-g.g < generator_count C = grind (arith, common_steps, c.len-g-end.ensures, c.loop-g-test.true) in
    let set_below : e.0 < set_count C = omega (arith, c.if-e-sets.true, c.len-sets.ensures, length-items_of c.args.certificate.now.morse.items) in
    let number = c.loop-g.invariant.numbers e.0 e.1 set_below c.if-e-levels.true in
    omega (arith, number, count_below-most c.loop-g.g (λ h. (set_of C h == e.0) && (dim_of C h == e.1)), below, c.requires.few)

pub loop-g-preserved : goal.loop-g-preserved
loop-g-preserved c =
    let C = meaning_of c.args.certificate.now in
    let g = c.loop-g.g in
    let e = c.index-e.result.now in
    let below : g < generator_count C = grind (arith, common_steps, c.len-g-end.ensures, c.loop-g-test.true) in
    let read : e ≡ get_or C.generators g (0, 0) = c.index-e.ensures ∙ get_or_default C.generators g e (0, 0) below in
    let set_is : e.0 ≡ set_of C g = ap (λ (x : ℕ × ℕ). x.0) read in
    let dim_is : e.1 ≡ dim_of C g = ap (λ (x : ℕ × ℕ). x.1) read in
    let sets : c.len-sets.result ≡ set_count C = omega (arith, c.len-sets.ensures, length-items_of c.args.certificate.now.morse.items) in
    let next : suc g ≡ g + 1 = omega arith in
    elim c.if-e-sets.branch [
      | then-e-sets+then-e-levels w ↦
          rw w.counts-is (subst (λ (m : ℕ). AreCounts C c.args.levels m (items_of w.count_one.new.counts.items)) next
          (counted_more C c.args.levels g (items_of c.loop-g.counts.items) c.loop-g.invariant (items_of w.count_one.new.counts.items)
          (omega (arith, w.if-e-sets.true, set_is, sets)) (omega (arith, w.if-e-levels.true, dim_is))
          (rw (set_is, dim_is) at w.count_one.ensures)))
      | else-e-sets w ↦
          rw w.counts-is (subst (λ (m : ℕ). AreCounts C c.args.levels m (items_of c.loop-g.counts.items)) next
          (counted_same C c.args.levels g (items_of c.loop-g.counts.items) c.loop-g.invariant (λ h. elim w.else-e-sets.branch [
            | else-e-sets-via-then-e-sets+else-e-levels v ↦ omega (arith, v.if-e-levels.false, dim_is, h.1)
            | else-e-sets-via-else-e-sets v ↦ omega (arith, v.if-e-sets.false, set_is, sets, h.0)
          ])))
    ]
