-- one cell more
use Rattle.std.proofs.Common.{arith, ◌≡◌, ◌≢◌, ◌⊎◌, ◌+◌, ◌<◌, ℕ, List, Vec, Global, inl, inr, length, get_or, set, refl, sym, ap, ◌∙◌, get_or-set_other, get_or-set_same}
use Rattle.std.proofs.Math.ListN.{length-set}
use Rattle.std.proofs.lemmas.List.{get_or_default}
use Rattle.conley_mvf.specs.Making.{FirstsSoFar}
use Rattle.conley_mvf.proofs.LabelLemmas.{firsts-more}
use Rattle.conley_mvf.proofs.numbering.firsts_by_label.Goals.{then-index-none, else-index-none}
use Rattle.conley_mvf.proofs.numbering.firsts_by_label.Goals as goal

pub loop-x-preserved : goal.loop-x-preserved
loop-x-preserved c =
    let labels = c.args.labels.now in
    let x = c.loop-x.x in
    let first = c.loop-x.first.items in
    let within : (y : ℕ) → y < length labels → get_or labels y 0 < length labels = λ y lt. c.requires.labels y 0 lt in
    let lt : x < length labels = omega arith in
    let p : ℕ = get_or labels x 0 in
    let in_first : p < length first = omega (arith, within x lt, c.loop-x.invariant.width) in
    let was : c.index.result.now ≡ get_or first p 0 = c.index.ensures ∙ get_or_default first p c.index.result.now 0 in_first in
    let more = λ (first' : List ℕ) (width : length first' ≡ length first) (is : c.if-index-none.first.items ≡ first')
    (here : ((get_or first p 0 ≡ length labels) × (get_or first' p 0 ≡ x)) ⊎ ((get_or first p 0 ≢ length labels) × (get_or first' p 0 ≡ get_or first p 0)))
    (others : (q : ℕ) → q ≢ p → get_or first' q 0 ≡ get_or first q 0).
    let within' : p < length first' = omega (arith, in_first, width) in
    let pushed : c.index-in-loop-x.result.now ≡ get_or first' p 0 =
    c.index-in-loop-x.ensures ∙ ap (λ (f : List ℕ). get_or f p c.index-in-loop-x.result.now) is
    ∙ get_or_default first' p c.index-in-loop-x.result.now 0 within' in
    let result : FirstsSoFar labels (x + 1) c.if-index-none.first.items c.push.new.self.items =
    rw (is, c.in_ok-push.ensures.items) (firsts-more labels x first first' c.loop-x.least.items lt within c.loop-x.invariant width here others
    c.index-in-loop-x.result.now pushed) in
    result in
    elim c.if-index-none.branch [
      | then-index-none w ↦
          more (set first p x) (length-set first p x) (ap (λ (v : Vec ℕ Global). v.items) w.first-is)
          (inl (sym was ∙ w.if-index-none.true, get_or-set_same first p x 0 in_first))
          (λ q ne. get_or-set_other first p q x 0 ne)
      | else-index-none w ↦
          more first refl (ap (λ (v : Vec ℕ Global). v.items) w.first-is) (inr ((λ e. w.if-index-none.false (was ∙ e)), refl)) (λ q ne. refl)
    ]
