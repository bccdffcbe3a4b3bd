-- Reductions: the identity, a pair, and one after another.
use Rattle.std.proofs.Common.{◌≡◌, ◌≢◌, ℕ, ◌<◌, ◌≤◌, ap, sym, ◌∙◌, refl, inl, inr, subst}
use Rattle.std.proofs.lemmas.Bool.{cases_eq}
use Rattle.conley_field.specs.Arithmetic.{Arithmetic, IsField}
use Rattle.conley_algebra.specs.Entries.{Entries, product_of, plus_of, identity_of, zero_entries, IsMatrix}
use Rattle.conley_homotopy.specs.Graded.{Generators, IsPreorder, IsGradedComplex}
use Rattle.conley_homotopy.specs.Equivalence.{Maps, IsGradedEquivalence, composed, identity_maps}
use Rattle.conley_algebra.proofs.SumLemmas as sums
use Rattle.conley_algebra.proofs.MatrixLemmas as matrices
use Rattle.conley_algebra.proofs.MatrixLemmas.{entries_path, identity-same, identity-other, identity-end}
use Rattle.conley_homotopy.proofs.ComposeLemmas as compose
use Rattle.conley_algebra.specs.Listing.{IsListing}
use Rattle.conley_homotopy.proofs.ProjectorLemmas as projectors
use Rattle.conley_homotopy.proofs.PairMapLemmas as pair_maps_of
use Rattle.conley_homotopy.proofs.PairLemmas as pair
use Rattle.conley_homotopy.specs.Reduction.{AreKept, IsReduction, IsPairStep}

-- kept ones of kept ones
pub AreKept-composed : (A B C : Generators) (first second : ℕ → ℕ) → AreKept A B first → AreKept B C second → AreKept A C (λ i. first (second i))
AreKept-composed A B C first second f s = record {
  ascending = λ i j before within. f.ascending (second i) (second j) (s.ascending i j before within) (s.within j within);
  within = λ i within. f.within (second i) (s.within i within);
  base = λ i within. s.base i within ∙ f.base (second i) (s.within i within);
  dim = λ i within. s.dim i within ∙ f.dim (second i) (s.within i within);
}

module _ {F : Arithmetic} (laws : IsField F) {below : ℕ → ℕ → Type 0} (order : IsPreorder below) where
  pub composed-IsReduction : (A B C : Generators) (first second : ℕ → ℕ) (m l : Maps) → IsReduction F below A B first m → IsReduction F below B C second l
      → IsReduction F below A C (λ i. first (second i)) (composed F B.count m l)
  composed-IsReduction A B C first second m l f s = record {
    equivalence = compose.composed-IsGradedEquivalence laws order A B C m l f.equivalence s.equivalence;
    strong = λ i j. ap (λ (e : Entries). e i j) back;
    no_gamma2 = λ i j.
        ap (λ t. F.add t (product_of F B.count (product_of F B.count l.psi m.gamma2) l.phi i j)) (s.no_gamma2 i j)
        ∙ ap (λ (e : Entries). F.add 0 (product_of F B.count (product_of F B.count l.psi e) l.phi i j)) (entries_path m.gamma2 zero_entries f.no_gamma2)
        ∙ ap (λ (e : Entries). F.add 0 (product_of F B.count e l.phi i j)) (matrices.product-zero laws B.count l.psi)
        ∙ ap (λ (e : Entries). F.add 0 (e i j)) (matrices.zero-product laws B.count l.phi) ∙ sums.add_zero_zero laws;
    are_kept = AreKept-composed A B C first second f.are_kept s.are_kept;
    phi_row = λ i within j.
        sums.sum_below-congr laws B.count _ _ (λ k below. ap (λ t. F.mul t (l.phi k j)) (f.phi_row (second i) (s.are_kept.within i within) k))
        ∙ ap (λ (e : Entries). e (second i) j) (matrices.identity-product laws B.count C.count l.phi s.equivalence.phi_matrix) ∙ s.phi_row i within j;
    psi_column = λ i j within.
        sums.sum_below-congr laws B.count _ _ (λ k below. ap (F.mul (l.psi i k)) (f.psi_column k (second j) (s.are_kept.within j within)))
        ∙ ap (λ (e : Entries). e i (second j)) (matrices.product-identity laws C.count B.count l.psi s.equivalence.psi_matrix) ∙ s.psi_column i j within;
  } where
    back : product_of F A.count (product_of F B.count l.psi m.psi) (product_of F B.count m.phi l.phi) ≡ identity_of C.count
    back =
        matrices.product-assoc laws B.count A.count l.psi m.psi (product_of F B.count m.phi l.phi)
        ∙ ap (product_of F B.count l.psi) (sym (matrices.product-assoc laws A.count B.count m.psi m.phi l.phi)
        ∙ ap (λ (e : Entries). product_of F B.count e l.phi) (entries_path (product_of F A.count m.psi m.phi) (identity_of B.count) f.strong)
        ∙ matrices.identity-product laws B.count C.count l.phi s.equivalence.phi_matrix)
        ∙ entries_path (product_of F B.count l.psi l.phi) (identity_of C.count) s.strong

  -- the identity
  zero-is_matrix : (m n : ℕ) → IsMatrix F m n zero_entries
  zero-is_matrix m n = record { codes = λ row column. sums.zero_below laws; rows_end = λ row column end. refl; columns_end = λ row column end. refl }

  identity-entry : (n row column : ℕ) → identity_of n row column ≢ 0 → row ≡ column
  identity-entry n row column some = elim (cases_eq row column) [ inl same ↦ same | inr other ↦ absurd (some (identity-other n row column other)) ]

  pub identity-IsGradedEquivalence : (C : Generators) → IsGradedComplex F below C → IsGradedEquivalence F below C C (identity_maps C.count)
  identity-IsGradedEquivalence C complex = record {
    phi_matrix = projectors.identity-is_matrix laws C.count;
    psi_matrix = projectors.identity-is_matrix laws C.count;
    gamma_matrix = zero-is_matrix C.count C.count;
    gamma2_matrix = zero-is_matrix C.count C.count;
    phi_down = level;
    psi_down = level;
    gamma_down = λ row column some. absurd (some refl);
    gamma2_down = λ row column some. absurd (some refl);
    phi_commutes = λ i j. ap (λ (e : Entries). e i j) (matrices.product-identity laws n n d complex.matrix
        ∙ sym (matrices.identity-product laws n n d complex.matrix));
    psi_commutes = λ i j. ap (λ (e : Entries). e i j) (matrices.product-identity laws n n d complex.matrix
        ∙ sym (matrices.identity-product laws n n d complex.matrix));
    phi_psi = λ i j. ap (λ (e : Entries). F.add (identity_of n i j) (F.neg (e i j))) square ∙ laws.add_neg (identity_of n i j) ∙ sym (nothing i j);
    psi_phi = λ i j. ap (λ (e : Entries). F.add (e i j) (F.neg (identity_of n i j))) square ∙ laws.add_neg (identity_of n i j) ∙ sym (nothing i j);
  } where
    n : ℕ
    n = C.count

    d : Entries
    d = C.boundary

    level : (row column : ℕ) → identity_of C.count row column ≢ 0 → (C.dim row ≡ C.dim column) × below (C.base row) (C.base column)
    level row column some = (
      ap C.dim (identity-entry C.count row column some),
      subst (λ (k : ℕ). below (C.base row) (C.base k)) (identity-entry C.count row column some) (order.reflexive (C.base row)),
    )

    square : product_of F C.count (identity_of C.count) (identity_of C.count) ≡ identity_of C.count
    square = matrices.identity-product laws C.count C.count (identity_of C.count) (projectors.identity-is_matrix laws C.count)

    nothing : (i j : ℕ) → plus_of F (product_of F C.count C.boundary zero_entries) (product_of F C.count zero_entries C.boundary) i j ≡ 0
    nothing i j =
        ap (λ (e : Entries). F.add (e i j) (product_of F C.count zero_entries C.boundary i j)) (matrices.product-zero laws C.count C.boundary)
        ∙ ap (λ (e : Entries). F.add 0 (e i j)) (matrices.zero-product laws C.count C.boundary) ∙ sums.add_zero_zero laws

  pub identity-IsReduction : (C : Generators) → IsGradedComplex F below C → IsReduction F below C C (λ i. i) (identity_maps C.count)
  identity-IsReduction C complex = record {
    equivalence = identity-IsGradedEquivalence C complex;
    strong = λ i j. ap (λ (e : Entries). e i j) (matrices.identity-product laws C.count C.count (identity_of C.count)
        (projectors.identity-is_matrix laws C.count));
    no_gamma2 = λ i j. refl;
    are_kept = record { ascending = λ i j before within. before; within = λ i within. within; base = λ i within. refl; dim = λ i within. refl };
    phi_row = λ i within j. refl;
    psi_column = λ i j within. refl;
  }

  module _ (L : Generators) (complex : IsGradedComplex F below L)
      (K Q : ℕ) (K_below : K < L.count) (Q_below : Q < L.count) (differ : K ≢ Q) (unit : L.boundary Q K ≢ 0) (K_under : below (L.base K) (L.base Q))
      (s : ℕ) (list : ℕ → ℕ) (listing : IsListing L.count (λ x. (x ≢ K) × (x ≢ Q)) s list) (beyond : (i : ℕ) → s ≤ i → L.count ≤ list i) where
    abbrev pub small : Generators
    small = pair.without_pair laws order L complex K Q K_below Q_below differ unit K_under s list listing beyond

    abbrev pub maps : Maps
    maps = pair.pair_maps laws order L complex K Q K_below Q_below differ unit K_under s list listing beyond

    pub pair-IsPairStep : ((i j : ℕ) → i < j → j < s → list i < list j) → IsPairStep F below L K Q small list maps
    pair-IsPairStep ascending = record {
      complex = pair.without_pair-IsGradedComplex laws order L complex K Q K_below Q_below differ unit K_under s list listing beyond;
      reduction = record {
        equivalence = pair.pair-IsGradedEquivalence laws order L complex K Q K_below Q_below differ unit K_under s list listing beyond;
        strong = pair_maps_of.pair-psi_phi laws L.count L.boundary complex.matrix squares K Q K_below Q_below differ unit s list listing beyond;
        no_gamma2 = λ i j. refl;
        are_kept = record {
          ascending = ascending;
          within = listing.within;
          base = λ i within. refl;
          dim = λ i within. refl;
        };
        phi_row = λ i within j. pair_maps_of.pair_phi-row laws L.count L.boundary complex.matrix squares K Q K_below Q_below differ unit s list listing beyond
            i j;
        psi_column = λ i j within. pair_maps_of.pair_psi-column laws L.count L.boundary complex.matrix squares K Q K_below Q_below differ unit s list listing
            beyond i j;
      };
      others = listing.holds;
      all = λ y within not_K not_Q. listing.all y within (not_K, not_Q);
      entry = λ i j i_below j_below. pair_maps_of.small_boundary-entry laws L.count L.boundary complex.matrix squares K Q K_below Q_below differ unit s list
          listing beyond i j;
      psi_upper = pair_maps_of.pair_psi-K laws L.count L.boundary complex.matrix squares K Q K_below Q_below differ unit s list listing beyond;
    } where
      squares : product_of F L.count L.boundary L.boundary ≡ zero_entries
      squares = pair.dd laws order L complex K Q K_below Q_below differ unit K_under s list listing beyond

    -- the maps of a reduction after one more pair: columns of phi, rows of psi and one product change
    module _ (A : Generators) (kept : ℕ → ℕ) (m : Maps) (before : IsReduction F below A L kept m) where
      squares : product_of F L.count L.boundary L.boundary ≡ zero_entries
      squares = pair.dd laws order L complex K Q K_below Q_below differ unit K_under s list listing beyond

      pub phi_after : (y j : ℕ) → (composed F L.count m maps).phi y j ≡ F.add (m.phi y (list j))
          (F.neg (F.mul (m.phi y K) (F.mul (F.inv (L.boundary Q K)) (L.boundary Q (list j)))))
      unfolding squares
      phi_after y j = pair_maps_of.through_phi laws L.count L.boundary complex.matrix squares K Q K_below Q_below differ unit s list listing beyond A.count
          m.phi before.equivalence.phi_matrix y j

      pub psi_after : (i x : ℕ) → (composed F L.count m maps).psi i x ≡ F.add (m.psi (list i) x)
          (F.neg (F.mul (F.mul (L.boundary (list i) K) (F.inv (L.boundary Q K))) (m.psi Q x)))
      unfolding squares
      psi_after i x = pair_maps_of.through_psi laws L.count L.boundary complex.matrix squares K Q K_below Q_below differ unit s list listing beyond A.count
          m.psi before.equivalence.psi_matrix i x

      pub gamma_after : (y x : ℕ) → (composed F L.count m maps).gamma y x ≡ F.add (m.gamma y x) (F.mul (F.mul (m.phi y K) (F.inv (L.boundary Q K))) (m.psi Q x))
      unfolding squares
      gamma_after y x = ap (F.add (m.gamma y x)) (pair_maps_of.through_g laws L.count L.boundary complex.matrix squares K Q K_below Q_below differ unit m.phi
          m.psi y x)
