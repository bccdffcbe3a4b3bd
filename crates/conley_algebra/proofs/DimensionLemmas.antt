-- Where no dimension has homology, every relative cycle is a relative boundary.
use Rattle.std.proofs.Common.{◌≡◌, ◌≢◌, ℕ, ◌<◌, ◌+◌, ◌==◌, cond, ap, sym, ◌∙◌, refl, inl, inr, subst}
use mathlib.Core.Path.{fun_ext}
use Rattle.std.proofs.lemmas.Bool.{cases_eq, eq-eqb, ne_eqb}
use Rattle.conley_field.specs.Arithmetic.{Arithmetic, IsField}
use Rattle.conley_algebra.specs.Entries.{Vector, Entries, image_of, OnlyWhere}
use Rattle.conley_algebra.specs.Homology.{combination, IsRelativeCycle, IsRelativeBoundary, IsHomologyBasis}
use Rattle.conley_algebra.proofs.SumLemmas as sums
use Rattle.conley_algebra.proofs.BasisLemmas.{combination_in}
use Rattle.conley_algebra.proofs.HomologyLemmas.{boundaries}

module _ {F : Arithmetic} (laws : IsField F) (n : ℕ) (boundary : Entries) (dim : ℕ → ℕ) (closure mouth : ℕ → Type 0) (levels : ℕ)
    (one_down : OnlyWhere (λ y x. dim x ≡ dim y + 1) boundary) (within : (x : ℕ) → closure x → dim x < levels) where
  -- the part in dimension k
  part : ℕ → Vector → Vector
  part k v x = cond (dim x == k) (v x) 0

  part-at : (k : ℕ) (v : Vector) (x : ℕ) → dim x ≡ k → part k v x ≡ v x
  unfolding part
  part-at k v x h = ap (λ b. cond b (v x) 0) (eq-eqb (dim x) k h)

  part-other : (k : ℕ) (v : Vector) (x : ℕ) → dim x ≢ k → part k v x ≡ 0
  unfolding part
  part-other k v x h = ap (λ b. cond b (v x) 0) (ne_eqb (dim x) k h)

  part-some : (k : ℕ) (v : Vector) (x : ℕ) → part k v x ≢ 0 → (dim x ≡ k) × (v x ≢ 0)
  part-some k v x some = elim (cases_eq (dim x) k) [
    | inl same ↦ (same, λ none. some (part-at k v x same ∙ none))
    | inr other ↦ absurd (some (part-other k v x other))
  ]

  part-codes : (k : ℕ) (v : Vector) → ((x : ℕ) → v x < F.order) → (x : ℕ) → part k v x < F.order
  part-codes k v codes x = elim (cases_eq (dim x) k) [
    | inl same ↦ subst (λ (t : ℕ). t < F.order) (sym (part-at k v x same)) (codes x)
    | inr other ↦ subst (λ (t : ℕ). t < F.order) (sym (part-other k v x other)) (sums.zero_below laws)
  ]

  -- a row one dimension below reads of a vector its part in that dimension alone
  image-part : (k : ℕ) (v : Vector) (y : ℕ) → dim y + 1 ≡ k → image_of F n boundary (part k v) y ≡ image_of F n boundary v y
  image-part k v y under = sums.sum_below-congr laws n _ _ (λ x x_below. elim (cases_eq (dim x) k) [
    | inl same ↦ ap (F.mul (boundary y x)) (part-at k v x same)
    | inr other ↦
        let none : boundary y x ≡ 0 = elim (cases_eq (boundary y x) 0) [ inl zero ↦ zero | inr some ↦ absurd (other (one_down y x some ∙ under)) ] in
        ap (λ t. F.mul t (part k v x)) none ∙ sums.zero-mul laws (part k v x) ∙ sym (ap (λ t. F.mul t (v x)) none ∙ sums.zero-mul laws (v x))
  ])

  part-cycle : (k : ℕ) (v : Vector) → IsRelativeCycle F n boundary closure mouth v → IsRelativeCycle F n boundary closure mouth (part k v)
  part-cycle k v c = record {
    chain = record { codes = part-codes k v c.chain.codes; only = λ x some. c.chain.only x (part-some k v x some).1 };
    on_mouth = record {
      codes = λ y. sums.sum_below-below laws n _;
      only = λ y some.
          let found = sums.sum_below-not_zero laws n (λ x. F.mul (boundary y x) (part k v x)) some in
          let x = found.0 in
          let in_dim = (part-some k v x (sums.mul-not_zero_right laws (boundary y x) (part k v x) found.1.1)).0 in
          let down = one_down y x (sums.mul-not_zero_left laws (boundary y x) (part k v x) found.1.1) in
          c.on_mouth.only y (λ none. some (image-part k v y (sym down ∙ in_dim) ∙ none));
    };
  }

  -- the parts add up to the whole
  whole : (v : Vector) → IsRelativeCycle F n boundary closure mouth v → (x : ℕ) → combination F levels (λ k. part k v) (λ k. 1) x ≡ v x
  whole v c x = elim (cases_eq (v x) 0) [
    | inl none ↦ sums.sum_below-zero laws levels _ (λ k below. ap (F.mul 1) (nothing k none) ∙ sums.mul-zero laws 1) ∙ sym none
    | inr some ↦
        sums.sum_below-single laws levels (λ k. F.mul 1 (part k v x)) (dim x) (within x (c.chain.only x some)) (laws.mul_below _ _)
        (λ k below differs. ap (F.mul 1) (part-other k v x (λ e. differs (sym e))) ∙ sums.mul-zero laws 1)
        ∙ ap (F.mul 1) (part-at (dim x) v x refl) ∙ laws.mul_comm 1 (v x) ∙ laws.mul_one (v x) (c.chain.codes x)
  ] where
    nothing : (k : ℕ) → v x ≡ 0 → part k v x ≡ 0
    nothing k none = elim (cases_eq (dim x) k) [ inl same ↦ part-at k v x same ∙ none | inr other ↦ part-other k v x other ]

  pub all_boundaries : (z : ℕ → ℕ → Vector) → ((k : ℕ) → k < levels → IsHomologyBasis F n boundary dim closure mouth k 0 (z k)) →
      (v : Vector) → IsRelativeCycle F n boundary closure mouth v → IsRelativeBoundary F n boundary closure mouth v
  all_boundaries z none v c =
      let sum : IsRelativeBoundary F n boundary closure mouth (combination F levels (λ k. part k v) (λ k. 1)) =
      combination_in laws (IsRelativeBoundary F n boundary closure mouth) (boundaries laws n boundary dim closure mouth 0) levels (λ k. part k v) (λ k. 1)
      (λ k. laws.one_below) (λ k below.
      let e = (none k below).spans (part k v) (part-cycle k v c, λ x some. (part-some k v x some).0) in
      let rest_is : e.1.rest ≡ part k v = fun_ext (λ x. rest_same (part k v x) (e.1.rest x)
      (subst (λ (t : ℕ). t < F.order) (sym (e.1.in_B.is x)) (laws.add_below _ _)) (e.1.is x)) in
      subst (IsRelativeBoundary F n boundary closure mouth) rest_is e.1.in_B) in
      subst (IsRelativeBoundary F n boundary closure mouth) (fun_ext (whole v c)) sum
    where
      rest_same : (u r : ℕ) → r < F.order → u ≡ F.add 0 r → r ≡ u
      rest_same u r code is = sym (laws.add_zero r code) ∙ laws.add_comm r 0 ∙ sym is
