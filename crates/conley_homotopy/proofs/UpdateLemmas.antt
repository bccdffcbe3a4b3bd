-- Columns that have no entry inside a grade stay so, and what one pair more does to maps: column by column, row by row.
use Rattle.std.proofs.Common.{◌≡◌, ◌≢◌, ◌⊎◌, ℕ, ◌+◌, ◌<◌, ◌==◌, ◌&&◌, cond, ap, ◌∙◌, arith, refl, inl, inr, subst}
use Rattle.std.proofs.lemmas.Bool.{cases_eq, cases_lt, eq-eqb, ne_eqb}
use Rattle.conley_field.specs.Arithmetic.{Arithmetic, IsField}
use Rattle.conley_algebra.specs.Sum.{sum_below}
use Rattle.conley_algebra.specs.Entries.{Entries, product_of, plus_of, identity_of, IsMatrix}
use Rattle.conley_homotopy.specs.Graded.{Generators, IsPreorder, IsGradedComplex}
use Rattle.conley_homotopy.specs.Equivalence.{Maps}
use Rattle.conley_algebra.specs.Others.{other}
use Rattle.conley_homotopy.specs.Pair.{rest_entry, phi_entry, psi_entry, gamma_entry, ArePairFormulas}
use Rattle.conley_algebra.proofs.SumLemmas as sums
use Rattle.conley_algebra.proofs.MatrixLemmas as matrices
use Rattle.conley_algebra.proofs.OtherLemmas.{others}
use Rattle.conley_homotopy.proofs.PairStepLemmas.{row_within, column_within, step-IsGradedComplex}
use Rattle.conley_homotopy.proofs.ProjectorLemmas as projectors
use Rattle.conley_homotopy.proofs.PairMapLemmas as pair_maps_of

-- the numbers of those before K
pub other-under : (K Q : ℕ) → K ≢ Q → (j : ℕ) → j < K → (Q < K → j + 1 < K) → other K Q j < K
other-under K Q differ j below next = elim (cases_lt j Q) [
  | inl before ↦ (let e = (others K Q differ).before j below before in omega arith)
  | inr after ↦ (let more : j + 1 < K = next (omega arith) in let e = (others K Q differ).between j (inr after) (inl more) in omega arith)
]

module _ {F : Arithmetic} (laws : IsField F) where
  -- where what is left has an entry
  pub rest-some : (d : Entries) (K Q y x : ℕ) → rest_entry F d K Q y x ≢ 0 → (d y x ≢ 0) ⊎ ((d Q x ≢ 0) × (d y K ≢ 0))
  rest-some d K Q y x some = elim (cases_eq (d y x) 0) [
    | inr direct ↦ inl direct
    | inl none ↦ elim (cases_eq (d Q x) 0) [
      | inl empty ↦ absurd (some (ap (λ t. F.add t (F.neg (F.mul (F.mul (d Q x) (F.inv (d Q K))) (d y K)))) none
          ∙ ap (λ t. F.add 0 (F.neg (F.mul (F.mul t (F.inv (d Q K))) (d y K)))) empty ∙ ap (λ t. F.add 0 (F.neg (F.mul t (d y K))))
          (sums.zero-mul laws (F.inv (d Q K)))
          ∙ ap (λ t. F.add 0 (F.neg t)) (sums.zero-mul laws (d y K)) ∙ laws.add_neg 0))
      | inr first ↦ elim (cases_eq (d y K) 0) [
        | inl empty ↦ absurd (some (ap (λ t. F.add t (F.neg (F.mul (F.mul (d Q x) (F.inv (d Q K))) (d y K)))) none
            ∙ ap (λ t. F.add 0 (F.neg (F.mul (F.mul (d Q x) (F.inv (d Q K))) t))) empty ∙ ap (λ t. F.add 0 (F.neg t))
            (sums.mul-zero laws (F.mul (d Q x) (F.inv (d Q K)))) ∙ laws.add_neg 0))
        | inr second ↦ inr (first, second)
      ]
    ]
  ]

  module _ {below : ℕ → ℕ → Type 0} (order : IsPreorder below) (L : Generators) (complex : IsGradedComplex F below L)
      (K Q : ℕ) (K_below : K < L.count) (Q_below : Q < L.count) (unit : L.boundary Q K ≢ 0) (K_under : below (L.base K) (L.base Q))
      (S : Generators) (m : Maps) (step : ArePairFormulas F L K Q S m) where
    -- a column before K that is strict stays strict
    pub column-stays_strict : (j i : ℕ) → ((y : ℕ) → L.boundary y (other K Q j) ≢ 0 → ¬ below (L.base (other K Q j)) (L.base y)) → S.boundary i j ≢ 0
        → ¬ below (S.base j) (S.base i)
    column-stays_strict j i clear some up =
        let x = other K Q j in
        let y = other K Q i in
        let rest = step-IsGradedComplex laws order L complex K Q K_below Q_below unit K_under S m step in
        let base_j = step.base j (column_within rest.matrix i j some) in
        let base_i = step.base i (row_within rest.matrix i j some) in
        let up' : below (L.base x) (L.base y) = subst (λ (b : ℕ). below b (L.base y)) base_j (subst (λ (b : ℕ). below (S.base j) b) base_i up) in
        elim (rest-some L.boundary K Q y x (λ none. some (step.boundary i j ∙ none))) [
          | inl direct ↦ clear y direct up'
          | inr both ↦ clear Q both.0 (order.transitive _ _ _ (order.transitive _ _ _ up' (complex.down y K both.1)) K_under)
        ]

  -- the maps of a reduction with one pair more, where they lead to s generators with the boundary d
  module _ (s : ℕ) (d : Entries) (k q : ℕ) (differ : k ≢ q) (k_below : k < s) (q_below : q < s) where
    -- column x of phi loses what cancels the entry of x in row q, times column k
    pub composed-phi : (r : ℕ) (phi : Entries) → IsMatrix F r s phi → (row j : ℕ)
        → product_of F s phi (λ y j. phi_entry F s d k q y (other k q j)) row j
        ≡ F.add (phi row (other k q j)) (F.neg (F.mul (phi row k) (F.mul (d q (other k q j)) (F.inv (d q k)))))
    composed-phi r phi fits row j =
        let x = other k q j in
        let t = F.mul (d q x) (F.inv (d q k)) in
        ap (λ (e : Entries). e row j) (matrices.product-plus laws s phi (λ y j. identity_of s y (other k q j))
        (λ y j. F.neg (cond (y == k) (F.mul (d q (other k q j)) (F.inv (d q k))) 0)))
        ∙ ap (λ (u : ℕ). F.add u (sum_below F s (λ z. F.mul (phi row z) (F.neg (cond (z == k) t 0)))))
        (ap (λ (e : Entries). e row x) (matrices.product-identity laws r s phi fits))
        ∙ ap (F.add (phi row x)) (sums.sum_below-single laws s (λ z. F.mul (phi row z) (F.neg (cond (z == k) t 0))) k k_below (laws.mul_below _ _)
        (λ z z_below apart. ap (λ b. F.mul (phi row z) (F.neg (cond b t 0))) (ne_eqb z k apart) ∙ ap (F.mul (phi row z)) (projectors.neg-zero laws s)
        ∙ sums.mul-zero laws (phi row z))
        ∙ ap (λ b. F.mul (phi row k) (F.neg (cond b t 0))) (eq-eqb k k refl) ∙ sums.mul-neg laws (phi row k) t)

    -- row x of psi loses what the boundary of k has at x, times row q
    pub composed-psi : (c : ℕ) (psi : Entries) → IsMatrix F s c psi → (i column : ℕ)
        → product_of F s (λ i y. psi_entry F s d k q (other k q i) y) psi i column
        ≡ F.add (psi (other k q i) column) (F.neg (F.mul (F.mul (F.inv (d q k)) (d (other k q i) k)) (psi q column)))
    composed-psi c psi fits i column =
        let x = other k q i in
        let t = F.mul (F.inv (d q k)) (d x k) in
        ap (λ (e : Entries). e i column) (matrices.plus-product laws s (λ i y. identity_of s (other k q i) y)
        (λ i y. F.neg (cond (y == q) (F.mul (F.inv (d q k)) (d (other k q i) k)) 0)) psi)
        ∙ ap (λ (u : ℕ). F.add u (sum_below F s (λ z. F.mul (F.neg (cond (z == q) t 0)) (psi z column))))
        (ap (λ (e : Entries). e x column) (matrices.identity-product laws s c psi fits))
        ∙ ap (F.add (psi x column)) (sums.sum_below-single laws s (λ z. F.mul (F.neg (cond (z == q) t 0)) (psi z column)) q q_below (laws.mul_below _ _)
        (λ z z_below apart. ap (λ b. F.mul (F.neg (cond b t 0)) (psi z column)) (ne_eqb z q apart)
        ∙ ap (λ u. F.mul u (psi z column)) (projectors.neg-zero laws s) ∙ sums.zero-mul laws (psi z column))
        ∙ ap (λ b. F.mul (F.neg (cond b t 0)) (psi q column)) (eq-eqb q q refl) ∙ sums.neg-mul laws t (psi q column))

    -- gamma gains column k of phi times row q of psi
    pub composed-gamma : (gamma phi psi : Entries) (row column : ℕ)
        → plus_of F gamma (product_of F s (product_of F s phi (gamma_entry F d k q)) psi) row column
        ≡ F.add (gamma row column) (F.mul (F.mul (phi row k) (F.inv (d q k))) (psi q column))
    composed-gamma gamma phi psi row column =
        ap (F.add (gamma row column)) (sums.sum_below-single laws s (λ z. F.mul (product_of F s phi (gamma_entry F d k q) row z) (psi z column)) q q_below
        (laws.mul_below _ _)
        (λ z z_below apart. ap (λ u. F.mul u (psi z column)) (sums.sum_below-zero laws s (λ l. F.mul (phi row l) (gamma_entry F d k q l z))
        (λ l l_below. ap (F.mul (phi row l)) (ap (λ b. cond ((l == k) && b) (F.inv (d q k)) 0) (ne_eqb z q apart)
        ∙ ap (λ b. cond b (F.inv (d q k)) 0) (pair_maps_of.and_false (l == k))) ∙ sums.mul-zero laws (phi row l)))
        ∙ sums.zero-mul laws (psi z column))
        ∙ ap (λ u. F.mul u (psi q column)) (sums.sum_below-single laws s (λ l. F.mul (phi row l) (gamma_entry F d k q l q)) k k_below (laws.mul_below _ _)
        (λ l l_below apart. ap (λ b. F.mul (phi row l) (cond (b && (q == q)) (F.inv (d q k)) 0)) (ne_eqb l k apart) ∙ sums.mul-zero laws (phi row l))
        ∙ ap (λ b. F.mul (phi row k) (cond (b && (q == q)) (F.inv (d q k)) 0)) (eq-eqb k k refl)
        ∙ ap (λ b. F.mul (phi row k) (cond b (F.inv (d q k)) 0)) (eq-eqb q q refl)))
