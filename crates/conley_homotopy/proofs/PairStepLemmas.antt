-- A pair step is a strong graded equivalence.
use Rattle.std.proofs.Common.{◌≡◌, ◌≢◌, ℕ, ◌+◌, ◌<◌, ◌≤◌, cond, ap, sym, ◌∙◌, arith, inl, inr, subst}
use Rattle.std.proofs.lemmas.Bool.{cases_eq, cases_lt, ne_eqb}
use Rattle.conley_field.specs.Arithmetic.{Arithmetic, IsField}
use Rattle.conley_algebra.specs.Entries.{Entries, product_of, plus_of, minus_of, identity_of, zero_entries, IsMatrix, SameEntries}
use Rattle.conley_homotopy.specs.Graded.{Generators, IsPreorder, IsGradedComplex}
use Rattle.conley_homotopy.specs.Equivalence.{Maps, IsGradedEquivalence}
use Rattle.conley_algebra.specs.Others.{other}
use Rattle.conley_homotopy.specs.Pair.{ArePairFormulas}
use Rattle.conley_homotopy.specs.Reduction.{IsPairStep}
use Rattle.conley_algebra.proofs.MatrixLemmas.{entries_path, identity-same, identity-other, identity-end}
use Rattle.conley_homotopy.proofs.ComposeLemmas as compose
use Rattle.conley_algebra.proofs.OtherLemmas.{others, others-listing, others-beyond}
use Rattle.conley_homotopy.proofs.ProjectorLemmas as projectors
use Rattle.conley_homotopy.proofs.PairLemmas as pairs
use Rattle.conley_algebra.specs.Listing.{IsListing}

-- the same generators: what they are beyond the count doesn't matter
pub record AreSameGenerators (S T : Generators) : Type 0 where
  pub count : S.count ≡ T.count
  pub base : (i : ℕ) → i < S.count → S.base i ≡ T.base i
  pub dim : (i : ℕ) → i < S.count → S.dim i ≡ T.dim i
  pub boundary : S.boundary ≡ T.boundary

pub row_within : {F : Arithmetic} {m n : ℕ} {a : Entries} → IsMatrix F m n a → (row column : ℕ) → a row column ≢ 0 → row < m
row_within {F} {m} {n} {a} is row column some = elim (cases_lt row m) [ inl within ↦ within | inr end ↦ absurd (some (is.rows_end row column end)) ]

pub column_within : {F : Arithmetic} {m n : ℕ} {a : Entries} → IsMatrix F m n a → (row column : ℕ) → a row column ≢ 0 → column < n
column_within {F} {m} {n} {a} is row column some = elim (cases_lt column n) [ inl within ↦ within | inr end ↦ absurd (some (is.columns_end row column end)) ]

module _ {F : Arithmetic} {below : ℕ → ℕ → Type 0} where
  pub complex-same : (S T : Generators) → AreSameGenerators S T → IsGradedComplex F below S → IsGradedComplex F below T
  complex-same S T same complex = record {
    matrix = matrix;
    squares = subst (λ (d : Entries). SameEntries (product_of F T.count d d) zero_entries) same.boundary
        (subst (λ (n : ℕ). SameEntries (product_of F n S.boundary S.boundary) zero_entries) same.count complex.squares);
    one_down = λ h g some.
        let some' : S.boundary h g ≢ 0 = subst (λ (d : Entries). d h g ≢ 0) (sym same.boundary) some in
        sym (same.dim g (column_within complex.matrix h g some')) ∙ complex.one_down h g some'
        ∙ ap (λ (t : ℕ). t + 1) (same.dim h (row_within complex.matrix h g some'));
    down = λ h g some.
        let some' : S.boundary h g ≢ 0 = subst (λ (d : Entries). d h g ≢ 0) (sym same.boundary) some in
        subst (λ (x : ℕ). below x (T.base g)) (same.base h (row_within complex.matrix h g some'))
        (subst (λ (x : ℕ). below (S.base h) x) (same.base g (column_within complex.matrix h g some')) (complex.down h g some'));
  } where
    matrix : IsMatrix F T.count T.count T.boundary
    matrix = subst (λ (d : Entries). IsMatrix F T.count T.count d) same.boundary (subst (λ (n : ℕ). IsMatrix F n n S.boundary) same.count complex.matrix)

  pub equivalence-same : (L S T : Generators) (m : Maps) → AreSameGenerators S T → IsGradedEquivalence F below L S m → IsGradedEquivalence F below L T m
  equivalence-same L S T m same eq = record {
    phi_matrix = subst (λ (n : ℕ). IsMatrix F L.count n m.phi) same.count eq.phi_matrix;
    psi_matrix = subst (λ (n : ℕ). IsMatrix F n L.count m.psi) same.count eq.psi_matrix;
    gamma_matrix = eq.gamma_matrix;
    gamma2_matrix = subst (λ (n : ℕ). IsMatrix F n n m.gamma2) same.count eq.gamma2_matrix;
    phi_down = λ x g some.
        let g_within = column_within eq.phi_matrix x g some in
        let at = eq.phi_down x g some in
        (at.0 ∙ same.dim g g_within, subst (λ (b : ℕ). below (L.base x) b) (same.base g g_within) at.1);
    psi_down = λ g x some.
        let g_within = row_within eq.psi_matrix g x some in
        let at = eq.psi_down g x some in
        (sym (same.dim g g_within) ∙ at.0, subst (λ (b : ℕ). below b (L.base x)) (same.base g g_within) at.1);
    gamma_down = eq.gamma_down;
    gamma2_down = λ h g some.
        let h_within = row_within eq.gamma2_matrix h g some in
        let g_within = column_within eq.gamma2_matrix h g some in
        let at = eq.gamma2_down h g some in (
          sym (same.dim h h_within) ∙ at.0 ∙ ap (λ (t : ℕ). t + 1) (same.dim g g_within),
          subst (λ (b : ℕ). below b (T.base g)) (same.base h h_within) (subst (λ (b : ℕ). below (S.base h) b) (same.base g g_within) at.1),
        );
    phi_commutes = subst (λ (d : Entries). SameEntries (product_of F L.count L.boundary m.phi) (product_of F T.count m.phi d)) same.boundary
        (subst (λ (n : ℕ). SameEntries (product_of F L.count L.boundary m.phi) (product_of F n m.phi S.boundary)) same.count eq.phi_commutes);
    psi_commutes = subst (λ (d : Entries). SameEntries (product_of F T.count d m.psi) (product_of F L.count m.psi L.boundary)) same.boundary
        (subst (λ (n : ℕ). SameEntries (product_of F n S.boundary m.psi) (product_of F L.count m.psi L.boundary)) same.count eq.psi_commutes);
    phi_psi = subst (λ (n : ℕ). SameEntries (minus_of F (identity_of L.count) (product_of F n m.phi m.psi))
        (plus_of F (product_of F L.count L.boundary m.gamma) (product_of F L.count m.gamma L.boundary))) same.count eq.phi_psi;
    psi_phi = subst (λ (d : Entries). SameEntries (minus_of F (product_of F L.count m.psi m.phi) (identity_of T.count))
        (plus_of F (product_of F T.count d m.gamma2) (product_of F T.count m.gamma2 d))) same.boundary
        (subst (λ (n : ℕ). SameEntries (minus_of F (product_of F L.count m.psi m.phi) (identity_of n))
        (plus_of F (product_of F n S.boundary m.gamma2) (product_of F n m.gamma2 S.boundary))) same.count eq.psi_phi);
  }

-- maps are one where their entries are
pub maps_path : (m m' : Maps) → m.phi ≡ m'.phi → m.psi ≡ m'.psi → m.gamma ≡ m'.gamma → m.gamma2 ≡ m'.gamma2 → m ≡ m'
maps_path m m' a b c d =
    ap (λ (x : Entries). record { phi = x; psi = m.psi; gamma = m.gamma; gamma2 = m.gamma2 }) a
    ∙ ap (λ (x : Entries). record { phi = m'.phi; psi = x; gamma = m.gamma; gamma2 = m.gamma2 }) b
    ∙ ap (λ (x : Entries). record { phi = m'.phi; psi = m'.psi; gamma = x; gamma2 = m.gamma2 }) c
    ∙ ap (λ (x : Entries). record { phi = m'.phi; psi = m'.psi; gamma = m'.gamma; gamma2 = x }) d

module _ {F : Arithmetic} (laws : IsField F) {below : ℕ → ℕ → Type 0} (order : IsPreorder below) (L : Generators) (complex : IsGradedComplex F below L)
    (K Q : ℕ) (K_below : K < L.count) (Q_below : Q < L.count) (unit : L.boundary Q K ≢ 0) (K_under : below (L.base K) (L.base Q))
    (S : Generators) (m : Maps) (step : ArePairFormulas F L K Q S m) where
  differ : K ≢ Q
  differ same = (let dims = complex.one_down Q K unit in let e : L.dim K ≡ L.dim Q = ap L.dim same in omega arith)

  listing : IsListing L.count (λ x. (x ≢ K) × (x ≢ Q)) S.count (other K Q)
  listing = others-listing K Q L.count S.count differ K_below Q_below step.count

  beyond : (i : ℕ) → S.count ≤ i → L.count ≤ other K Q i
  beyond = others-beyond K Q L.count S.count differ K_below Q_below step.count

  T : Generators
  T = pairs.without_pair laws order L complex K Q K_below Q_below differ unit K_under S.count (other K Q) listing beyond

  maps : Maps
  maps = pairs.pair_maps laws order L complex K Q K_below Q_below differ unit K_under S.count (other K Q) listing beyond

  same : AreSameGenerators T S
  unfolding T
  same = record {
    count = pairs.without_pair-count laws order L complex K Q K_below Q_below differ unit K_under S.count (other K Q) listing beyond;
    base = λ i within. pairs.without_pair-base laws order L complex K Q K_below Q_below differ unit K_under S.count (other K Q) listing beyond i
        ∙ sym (step.base i (subst (λ (n : ℕ). i < n) (pairs.without_pair-count laws order L complex K Q K_below Q_below differ unit K_under S.count (other K Q)
        listing beyond) within));
    dim = λ i within. pairs.without_pair-dim laws order L complex K Q K_below Q_below differ unit K_under S.count (other K Q) listing beyond i
        ∙ sym (step.dim i (subst (λ (n : ℕ). i < n) (pairs.without_pair-count laws order L complex K Q K_below Q_below differ unit K_under S.count (other K Q)
        listing beyond) within));
    boundary = entries_path T.boundary S.boundary (λ i j.
        pairs.without_pair-boundary laws order L complex K Q K_below Q_below differ unit K_under S.count (other K Q) listing beyond i j
        ∙ sym (step.boundary i j));
  }

  are : maps ≡ m
  unfolding maps
  are = maps_path maps m
      (entries_path maps.phi m.phi (λ y j. pairs.pair_maps-phi laws order L complex K Q K_below Q_below differ unit K_under S.count (other K Q) listing beyond
      y j ∙ sym (step.phi y j)))
      (entries_path maps.psi m.psi (λ i y. pairs.pair_maps-psi laws order L complex K Q K_below Q_below differ unit K_under S.count (other K Q) listing beyond
      i y ∙ sym (step.psi i y)))
      (entries_path maps.gamma m.gamma (λ y x. pairs.pair_maps-gamma laws order L complex K Q K_below Q_below differ unit K_under S.count (other K Q) listing
      beyond y x ∙ sym (step.gamma y x)))
      (entries_path maps.gamma2 m.gamma2 (λ y x. pairs.pair_maps-gamma2 laws order L complex K Q K_below Q_below differ unit K_under S.count (other K Q)
      listing beyond y x ∙ sym (step.gamma2 y x)))

  pub step-IsGradedComplex : IsGradedComplex F below S
  unfolding T
  step-IsGradedComplex = complex-same T S same (pairs.without_pair-IsGradedComplex laws order L complex K Q K_below Q_below differ unit K_under S.count
      (other K Q) listing beyond)

  pub step-IsGradedEquivalence : IsGradedEquivalence F below L S m
  unfolding T maps
  step-IsGradedEquivalence =
      equivalence-same L T S m same (subst (IsGradedEquivalence F below L T) are
      (pairs.pair-IsGradedEquivalence laws order L complex K Q K_below Q_below differ unit K_under S.count (other K Q) listing beyond))

  strong : SameEntries (product_of F L.count m.psi m.phi) (identity_of S.count)
  unfolding maps
  strong = subst (λ (n : Maps). SameEntries (product_of F L.count n.psi n.phi) (identity_of S.count)) are
      (pairs.pair_maps-psi_phi laws order L complex K Q K_below Q_below differ unit K_under S.count (other K Q) listing beyond)

  -- the identity, over the numbers of the large complex and over those of the small one
  identity-other_same : (i j : ℕ) → i < S.count → identity_of L.count (other K Q i) (other K Q j) ≡ identity_of S.count i j
  identity-other_same i j within = elim (cases_eq i j) [
    | inl e ↦
        ap (λ (k : ℕ). identity_of L.count (other K Q i) (other K Q k)) (sym e) ∙ identity-same L.count (other K Q i) (listing.within i within)
        ∙ sym (ap (identity_of S.count i) (sym e) ∙ identity-same S.count i within)
    | inr apart ↦ identity-other L.count (other K Q i) (other K Q j) (other_apart i j apart) ∙ sym (identity-other S.count i j apart)
  ] where
    other_apart : (i j : ℕ) → i ≢ j → other K Q i ≢ other K Q j
    other_apart i j apart e = elim (cases_lt i j) [
      | inl less ↦ (let r = (others K Q differ).rising i j less in omega arith)
      | inr more ↦ (let r = (others K Q differ).rising j i (omega arith) in omega arith)
    ]

  no_term : (x : ℕ) → x < F.order → F.add x (F.neg 0) ≡ x
  no_term x code = ap (F.add x) (projectors.neg-zero laws L.count) ∙ laws.add_zero x code

  pub step-IsPairStep : IsPairStep F below L K Q S (other K Q) m
  step-IsPairStep = record {
    complex = step-IsGradedComplex;
    reduction = record {
      equivalence = step-IsGradedEquivalence;
      strong = strong;
      no_gamma2 = step.gamma2;
      are_kept = record { ascending = λ i j less within. (others K Q differ).rising i j less; within = listing.within; base = step.base; dim = step.dim };
      phi_row = λ i within j.
          step.phi (other K Q i) j
          ∙ ap (λ b. F.add (identity_of L.count (other K Q i) (other K Q j)) (F.neg (cond b (F.mul (L.boundary Q (other K Q j)) (F.inv (L.boundary Q K))) 0)))
          (ne_eqb (other K Q i) K ((others K Q differ).not_K i))
          ∙ no_term _ (compose.identity-codes laws L.count _ _) ∙ identity-other_same i j within;
      psi_column = λ i j within.
          step.psi i (other K Q j)
          ∙ ap (λ b. F.add (identity_of L.count (other K Q i) (other K Q j)) (F.neg (cond b (F.mul (F.inv (L.boundary Q K)) (L.boundary (other K Q i) K)) 0)))
          (ne_eqb (other K Q j) Q ((others K Q differ).not_Q j))
          ∙ no_term _ (compose.identity-codes laws L.count _ _) ∙ turn i j within;
    };
    others = listing.holds;
    all = λ y within not_K not_Q. listing.all y within (not_K, not_Q);
    entry = λ i j i_within j_within.
        step.boundary i j
        ∙ ap (λ t. F.add (L.boundary (other K Q i) (other K Q j)) (F.neg t))
        (laws.mul_comm (F.mul (L.boundary Q (other K Q j)) (F.inv (L.boundary Q K))) (L.boundary (other K Q i) K)
        ∙ ap (F.mul (L.boundary (other K Q i) K)) (laws.mul_comm (L.boundary Q (other K Q j)) (F.inv (L.boundary Q K))));
    psi_upper = λ i.
        step.psi i K
        ∙ ap (λ b. F.add (identity_of L.count (other K Q i) K) (F.neg (cond b (F.mul (F.inv (L.boundary Q K)) (L.boundary (other K Q i) K)) 0)))
        (ne_eqb K Q differ)
        ∙ ap (λ t. F.add t (F.neg 0)) (identity-other L.count (other K Q i) K ((others K Q differ).not_K i)) ∙ laws.add_neg 0;
  } where
    turn : (i j : ℕ) → j < S.count → identity_of L.count (other K Q i) (other K Q j) ≡ identity_of S.count i j
    turn i j within = elim (cases_eq i j) [
      | inl e ↦ identity-other_same i j (omega arith)
      | inr apart ↦ elim (cases_lt i S.count) [
        | inl i_within ↦ identity-other_same i j i_within
        | inr end ↦ identity-end L.count (other K Q i) (other K Q j) (beyond i end) ∙ sym (identity-end S.count i j end)
      ]
    ]
