-- A chain added to another in place: appended where it lies beyond, one entry after another, or after what is cut off.
use Rattle.std.proofs.Common.{◌≡◌, inl, inr, ℕ, zero, suc, ◌+◌, ◌<◌, ◌≤◌, ◌^◌, cond, List, [], ◌∷◌, length, length-take, length-drop, get_or, take, drop, ap, sym, ◌∙◌, arith, refl, subst, All}
use Rattle.std.proofs.lemmas.Bool.{cases_eq, cases_lt, eq-eqb, ne_eqb}
use Rattle.std.proofs.lemmas.List.{get_or_default, get_or-take, get_or-drop, take_all}
use Rattle.std.proofs.lemmas.List.Elements.{All-weaker}
use Rattle.conley_field.specs.Arithmetic.{Arithmetic, IsField}
use Rattle.conley_algebra.proofs.SumLemmas as sums
use Rattle.conley_chains.specs.Chain.{coefficient, IsChain, HasCodes, first_place}
use Rattle.conley_chains.proofs.ChainLemmas.{coefficient-at, coefficient-beyond, coefficient-below, coefficient-lower, coefficient-halves, coefficient-take_more}
use Rattle.conley_chains.proofs.PlusLemmas.{Puts, all_further}

-- no place stands before the first
pub first_place-least : (es : List (ℕ × ℕ)) (i : ℕ) (d : ℕ × ℕ) → IsChain es → i < length es → first_place es ≤ (get_or es i d).0
first_place-least [] i d chain within = absurd (omega arith)
first_place-least (x ∷ es) zero d chain within = omega arith
first_place-least (x ∷ es) (suc i) d chain within = (let h : x.0 < (get_or es i d).0 = chain.ascending 0 (suc i) d (omega arith) within in omega arith)

-- before the last place, all is
pub last_place-most : (es : List (ℕ × ℕ)) (e : ℕ × ℕ) (n : ℕ) → IsChain es → (k : ℕ) → k + 1 ≡ length es → e ≡ get_or es k e → e.0 < n → All (λ x. x.0 < n) es
last_place-most es e n chain k last read below i d within = elim (cases_eq i k) [
  | inl same ↦ omega (arith, ap (λ (j : ℕ). (get_or es j d).0) same, ap (λ (x : ℕ × ℕ). x.0) (read ∙ get_or_default es k e d (omega arith)))
  | inr other ↦ omega (arith, chain.ascending i k d (omega arith) (omega arith), ap (λ (x : ℕ × ℕ). x.0) (read ∙ get_or_default es k e d (omega arith)))
]

-- new is a plus `by` times the first j entries of b, and lies before the others
pub record IsAppendedSoFar (F : Arithmetic) (a : List (ℕ × ℕ)) (by : ℕ) (b : List (ℕ × ℕ)) (j : ℕ) (new : List (ℕ × ℕ)) : Type 0 where
  pub codes : HasCodes F new
  pub same : (place : ℕ) → coefficient new place ≡ F.add (coefficient a place) (F.mul by (coefficient (take j b) place))
  pub before : (i : ℕ) → j ≤ i → i < length b → All (λ e. e.0 < (get_or b i (0, 0)).0) new

module _ {F : Arithmetic} (laws : IsField F) (a : List (ℕ × ℕ)) (by : ℕ) (b : List (ℕ × ℕ)) (chain : IsChain b)
    (beyond : All (λ e. e.0 < first_place b) a) where
  pub appended_start : HasCodes F a → IsAppendedSoFar F a by b 0 a
  appended_start codes = record {
    codes = codes;
    same = λ place. sym (ap (F.add (coefficient a place)) (sums.mul-zero laws by) ∙ laws.add_zero (coefficient a place) (coefficient-below laws a place codes));
    before = λ i from within. all_further a (first_place b) (get_or b i (0, 0)).0 (first_place-least b i (0, 0) chain within) beyond;
  }

  module _ (j : ℕ) (old : List (ℕ × ℕ)) (e : ℕ × ℕ) (so_far : IsAppendedSoFar F a by b j old) (below : j < length b) (read : e ≡ get_or b j e) where
    here : get_or b j (0, 0) ≡ e
    here = get_or_default b j (0, 0) e below ∙ sym read

    pub appended_before : All (λ x. x.0 < e.0) old
    appended_before = subst (λ (x : ℕ × ℕ). All (λ y. y.0 < x.0) old) here (so_far.before j (omega arith) below)

    none_here : coefficient a e.0 ≡ 0
    none_here = coefficient-beyond a (first_place b) e.0 beyond (subst (λ (x : ℕ × ℕ). first_place b ≤ x.0) here (first_place-least b j (0, 0) chain below))

    pub appended_more : (new : List (ℕ × ℕ)) → Puts F old e.0 (F.mul by e.1) new → IsAppendedSoFar F a by b (j + 1) new
    appended_more new puts = record {
      codes = puts.codes;
      same = λ q. puts.at q ∙ elim (cases_eq q e.0) [
        | inl same ↦
            ap (λ c. cond c (F.mul by e.1) (coefficient old q)) (eq-eqb q e.0 same)
            ∙ sym (laws.add_comm 0 (F.mul by e.1) ∙ laws.add_zero (F.mul by e.1) (laws.mul_below by e.1))
            ∙ sym (ap (λ (t : ℕ). F.add t (F.mul by e.1)) (ap (coefficient a) same ∙ none_here))
            ∙ ap (λ (t : ℕ). F.add (coefficient a q) (F.mul by t))
            (sym (coefficient-take_more b j q e chain below read ∙ ap (λ c. cond c e.1 (coefficient (take j b) q)) (eq-eqb q e.0 same)))
        | inr other ↦
            ap (λ c. cond c (F.mul by e.1) (coefficient old q)) (ne_eqb q e.0 other) ∙ so_far.same q
            ∙ ap (λ (t : ℕ). F.add (coefficient a q) (F.mul by t))
            (sym (coefficient-take_more b j q e chain below read ∙ ap (λ c. cond c e.1 (coefficient (take j b) q)) (ne_eqb q e.0 other)))
      ];
      before = λ i from within.
          let later : e.0 < (get_or b i (0, 0)).0 = subst (λ (x : ℕ × ℕ). x.0 < (get_or b i (0, 0)).0) here (chain.ascending j i (0, 0) (omega arith) within) in
          All-weaker (λ (x : ℕ × ℕ). x.0 ≤ e.0) (λ (x : ℕ × ℕ). x.0 < (get_or b i (0, 0)).0) (λ x h. omega arith) new puts.places;
    }

  pub appended_end : (j : ℕ) (new : List (ℕ × ℕ)) → IsAppendedSoFar F a by b j new → length b ≤ j → (place : ℕ)
      → coefficient new place ≡ F.add (coefficient a place) (F.mul by (coefficient b place))
  appended_end j new so_far all place = so_far.same place ∙ ap (λ (es : List (ℕ × ℕ)). F.add (coefficient a place) (F.mul by (coefficient es place)))
      (take_all j b all)

-- where nothing stands before a place, the first place is not before it
pub first_place-from : (es : List (ℕ × ℕ)) (p : ℕ) → IsChain es → p ≤ 2 ^ 32 → ((q : ℕ) → q < p → coefficient es q ≡ 0) → p ≤ first_place es
first_place-from [] p chain fits none = fits
first_place-from (x ∷ es) p chain fits none = elim (cases_lt x.0 p) [
  | inl less ↦ absurd (chain.not_zero 0 x (omega arith) (sym (coefficient-at (x ∷ es) 0 x chain (omega arith) refl) ∙ none x.0 less))
  | inr from ↦ from
]

-- a is cut at an index where the places of b begin, and sum is what was cut off plus `by` times b
module _ {F : Arithmetic} (laws : IsField F) (a : List (ℕ × ℕ)) (by : ℕ) (b : List (ℕ × ℕ)) (index p : ℕ) (a_chain : IsChain a) (b_chain : IsChain b)
    (sum : List (ℕ × ℕ)) (is : (q : ℕ) → coefficient sum q ≡ F.add (coefficient (drop index a) q) (F.mul by (coefficient b q))) where
  pub cut-beyond : p ≤ 2 ^ 32 → first_place b ≡ p → IsChain sum → ((k : ℕ) (d : ℕ × ℕ) → k < index → (get_or a k d).0 < p)
      → ((k : ℕ) (d : ℕ × ℕ) → index ≤ k → k < length a → p ≤ (get_or a k d).0) → All (λ e. e.0 < first_place sum) (take index a)
  cut-beyond fits begins sum_chain before after =
      all_further (take index a) p (first_place sum) (first_place-from sum p sum_chain fits nothing) (λ k d within.
      let k_below : k < index = omega (arith, length-take {A = ℕ × ℕ}) in
      rw (get_or-take index a k d k_below) (before k d k_below))
    where
      nothing : (q : ℕ) → q < p → coefficient sum q ≡ 0
      nothing q less =
          is q
          ∙ ap (λ (t : ℕ). F.add t (F.mul by (coefficient b q))) (coefficient-lower (drop index a) q (λ k d within.
          let h = after (index + k) d (omega arith) (omega (arith, length-drop {A = ℕ × ℕ})) in
          rw (get_or-drop index a k d) (omega arith)))
          ∙ ap (λ (t : ℕ). F.add 0 (F.mul by t)) (coefficient-lower b q (λ k d within. (let h = first_place-least b k d b_chain within in omega arith)))
          ∙ ap (F.add 0) (sums.mul-zero laws by) ∙ sums.add_zero_zero laws

  pub cut-sum : HasCodes F a → HasCodes F sum → (new : List (ℕ × ℕ)) → ((q : ℕ) → coefficient new q ≡ F.add (coefficient (take index a) q)
      (F.mul 1 (coefficient sum q)))
      → (q : ℕ) → coefficient new q ≡ F.add (coefficient a q) (F.mul by (coefficient b q))
  cut-sum a_codes sum_codes new made q =
      made q
      ∙ ap (F.add (coefficient (take index a) q)) (laws.mul_comm 1 (coefficient sum q) ∙ laws.mul_one (coefficient sum q)
      (coefficient-below laws sum q sum_codes) ∙ is q)
      ∙ sym (laws.add_assoc (coefficient (take index a) q) (coefficient (drop index a) q) (F.mul by (coefficient b q)))
      ∙ ap (λ (t : ℕ). F.add t (F.mul by (coefficient b q))) (sym (coefficient-halves laws index a q a_chain a_codes))
