-- Any two bases modulo one space have one length.
use Rattle.std.proofs.Common.{◌≡◌, ℕ, zero, suc, ◌<◌, ap, sym, ◌∙◌, arith, inl, inr, subst}
use mathlib.Core.Path.{fun_ext}
use Rattle.std.proofs.lemmas.Bool.{cases_lt}
use Rattle.conley_field.specs.Arithmetic.{Arithmetic, IsField}
use Rattle.conley_algebra.specs.Entries.{Vector, image_of}
use Rattle.conley_algebra.specs.Homology.{combination, IsBasisModulo}
use Rattle.conley_algebra.specs.Subspace.{IsSubspace}
use Rattle.conley_algebra.proofs.SumLemmas as sums
use Rattle.conley_algebra.proofs.KernelLemmas.{kernel}

module _ {F : Arithmetic} (laws : IsField F) where
  pub combination_in : (Z : Vector → Type 0) → IsSubspace F Z → (r : ℕ) (z : ℕ → Vector) (a : Vector) → ((i : ℕ) → a i < F.order) → ((i : ℕ) → i < r → Z (z i))
      → Z (combination F r z a)
  combination_in Z space zero z a codes members = space.zero_in
  combination_in Z space (suc r) z a codes members =
      space.add_in (combination F r z a) (λ x. F.mul (a r) (z r x)) (combination_in Z space r z a codes (λ i below. members i (omega arith)))
      (space.mul_in (a r) (z r) (codes r) (members r (omega arith)))

  -- vectors that are combinations of others: the combination of them with a kernel's scalars is that of the rests
  combination-kernel : (r s : ℕ) (z w b : ℕ → Vector) (a : ℕ → Vector) (c : Vector)
      → ((j : ℕ) → j < s → (x : ℕ) → w j x ≡ F.add (combination F r z (a j) x) (b j x))
      → ((i : ℕ) → i < r → image_of F s (λ i j. a j i) c i ≡ 0)
      → (x : ℕ) → combination F s w c x ≡ combination F s b c x
  combination-kernel r s z w b a c expressed none x =
      sums.sum_below-congr laws s _ _ (λ j below. ap (F.mul (c j)) (expressed j below x) ∙ laws.mul_add (c j) (combination F r z (a j) x) (b j x))
      ∙ sums.sum_below-add laws s (λ j. F.mul (c j) (combination F r z (a j) x)) (λ j. F.mul (c j) (b j x))
      ∙ ap (λ t. F.add t (combination F s b c x))
      (sums.sum_below-congr laws s _ _ (λ j below. sums.mul-sum_below laws r (c j) (λ i. F.mul (a j i) (z i x)))
      ∙ sums.sum_below-exchange laws s r (λ j i. F.mul (c j) (F.mul (a j i) (z i x)))
      ∙ sums.sum_below-zero laws r _ (λ i below.
      sums.sum_below-congr laws s _ _ (λ j j_below. sym (laws.mul_assoc (c j) (a j i) (z i x)) ∙ ap (λ t. F.mul t (z i x)) (laws.mul_comm (c j) (a j i)))
      ∙ sym (sums.sum_below-mul laws s (λ j. F.mul (a j i) (c j)) (z i x)) ∙ ap (λ t. F.mul t (z i x)) (none i below) ∙ sums.zero-mul laws (z i x)))
      ∙ laws.add_comm 0 (combination F s b c x) ∙ laws.add_zero (combination F s b c x) (sums.sum_below-below laws s _)

  module _ (Z B : Vector → Type 0) (Z_space : IsSubspace F Z) (B_space : IsSubspace F B) where
    -- the j-th vector of w by z; any scalars beyond the last
    record By (r s : ℕ) (z w : ℕ → Vector) (j : ℕ) : Type 0 where
      pub scalars : Vector
      pub rest : Vector
      pub codes : (i : ℕ) → scalars i < F.order
      pub in_B : j < s → B rest
      pub is : j < s → (x : ℕ) → w j x ≡ F.add (combination F r z scalars x) (rest x)

    by_basis : (r s : ℕ) (z w : ℕ → Vector) → IsBasisModulo F Z B r z → IsBasisModulo F Z B s w → (j : ℕ) → By r s z w j
    by_basis r s z w z_basis w_basis j = elim (cases_lt j s) [
      | inl below ↦
          let e = z_basis.spans (w j) (w_basis.members j below) in
          record { scalars = e.0; rest = e.1.rest; codes = e.1.codes; in_B = λ h. e.1.in_B; is = λ h. e.1.is }
      | inr beyond ↦ record { scalars = λ i. 0; rest = λ x. 0; codes = λ i. sums.zero_below laws; in_B = λ h. B_space.zero_in; is = λ h. absurd (omega arith) }
    ]

    -- scalars that are not all zero give a vector of Z, but none of B
    alone : (s : ℕ) (w : ℕ → Vector) → IsBasisModulo F Z B s w → (c : Vector) → ((j : ℕ) → c j < F.order) → B (combination F s w c) → (j : ℕ) → j < s → c j ≡ 0
    alone s w basis c codes inside =
        basis.once (combination F s w c) c (λ j. 0) (combination_in Z Z_space s w c codes basis.members)
        (record {
          codes = codes;
          rest = λ x. 0;
          in_B = B_space.zero_in;
          is = λ x. sym (laws.add_zero (combination F s w c x)
              (sums.sum_below-below laws s (λ j. F.mul (c j) (w j x))));
        })
        (record {
          codes = λ j. sums.zero_below laws;
          rest = combination F s w c;
          in_B = inside;
          is = λ x. sym (
              ap (λ t. F.add t (combination F s w c x)) (sums.sum_below-zero laws s _ (λ j below. sums.zero-mul laws (w j x)))
              ∙ laws.add_comm 0 (combination F s w c x) ∙ laws.add_zero (combination F s w c x) (sums.sum_below-below laws s (λ j. F.mul (c j) (w j x))));
        })

    not_longer : (r s : ℕ) (z w : ℕ → Vector) → IsBasisModulo F Z B r z → IsBasisModulo F Z B s w → r < s → ⊥
    not_longer r s z w z_basis w_basis longer =
        let by = by_basis r s z w z_basis w_basis in
        let c = kernel laws r s (λ i j. (by j).scalars i) (λ i j. (by j).codes i) longer in
        let same : combination F s w c.0 ≡ combination F s (λ j. (by j).rest) c.0 =
        fun_ext (combination-kernel r s z w (λ j. (by j).rest) (λ j. (by j).scalars) c.0 (λ j below. (by j).is below) c.1.zero_rows) in
        let inside : B (combination F s w c.0) = subst B (sym same) (combination_in B B_space s (λ j. (by j).rest) c.0 c.1.codes
        (λ j below. (by j).in_B below)) in
        c.1.some.1.1 (alone s w w_basis c.0 c.1.codes inside c.1.some.0 c.1.some.1.0)

    pub same_length : (r s : ℕ) (z w : ℕ → Vector) → IsBasisModulo F Z B r z → IsBasisModulo F Z B s w → r ≡ s
    same_length r s z w z_basis w_basis = elim (cases_lt r s) [
      | inl less ↦ absurd (not_longer r s z w z_basis w_basis less)
      | inr more ↦ elim (cases_lt s r) [ inl less ↦ absurd (not_longer s r w z w_basis z_basis less) | inr same ↦ omega arith ]
    ]
