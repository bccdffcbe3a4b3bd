-- one place more
use Rattle.std.proofs.Common.{arith, ◌≡◌, ◌≢◌, ◌⊎◌, ◌+◌, ◌<◌, ℕ, List, Vec, Global, inl, inr, length, get_or, set, refl, sym, ap, ◌∙◌, get_or-set_other, get_or-set_same}
use Rattle.std.proofs.Math.ListN.{length-set}
use Rattle.std.proofs.lemmas.List.{get_or_default}
use Rattle.conley_isolation.specs.Making.{HasFirstsSoFar}
use Rattle.conley_isolation.proofs.PlaceLemmas.{firsts-more}
use Rattle.conley_isolation.proofs.places.firsts_of.Goals.{then-index-none, else-index-none}
use Rattle.conley_isolation.proofs.places.firsts_of.Goals as goal

pub loop-i-preserved : goal.loop-i-preserved
loop-i-preserved c =
    let parts = c.args.parts.now in
    let i = c.loop-i.i in
    let first = c.loop-i.first.items in
    let lt : i < length parts = omega arith in
    let p : ℕ = get_or parts i 0 in
    let in_row : p < length first = omega (arith, c.requires.parts i 0 lt, c.loop-i.invariant.1) in
    let was : c.index.result.now ≡ get_or first p 0 = c.index.ensures ∙ get_or_default first p c.index.result.now 0 in_row in
    let more = λ (first' : List ℕ) (width : length first' ≡ length first) (is : c.if-index-none.first.items ≡ first')
    (here : ((get_or first p 0 ≡ length parts) × (get_or first' p 0 ≡ i)) ⊎ ((get_or first p 0 ≢ length parts) × (get_or first' p 0 ≡ get_or first p 0)))
    (others : (q : ℕ) → q ≢ p → get_or first' q 0 ≡ get_or first q 0).
    let within : p < length first' = omega (arith, in_row, width) in
    let pushed : c.index-in-loop-i.result.now ≡ get_or first' p 0 =
    c.index-in-loop-i.ensures ∙ ap (λ (f : List ℕ). get_or f p c.index-in-loop-i.result.now) is
    ∙ get_or_default first' p c.index-in-loop-i.result.now 0 within in
    let result : HasFirstsSoFar parts (i + 1) c.if-index-none.first.items c.push.new.self.items × (length c.if-index-none.first.items ≡ c.args.count) =
    rw (is, c.in_ok-push.ensures.items) (
      firsts-more parts i first first' c.loop-i.firsts.items lt c.loop-i.invariant.0 width in_row here others
          c.index-in-loop-i.result.now pushed,
      width ∙ c.loop-i.invariant.1,
    ) in
    result in
    elim c.if-index-none.branch [
      | then-index-none w ↦
          more (set first p i) (length-set first p i) (ap (λ (v : Vec ℕ Global). v.items) w.first-is)
          (inl (sym was ∙ w.if-index-none.true, get_or-set_same first p i 0 in_row))
          (λ q ne. get_or-set_other first p q i 0 ne)
      | else-index-none w ↦
          more first refl (ap (λ (v : Vec ℕ Global). v.items) w.first-is) (inr ((λ e. w.if-index-none.false (was ∙ e)), refl)) (λ q ne. refl)
    ]
