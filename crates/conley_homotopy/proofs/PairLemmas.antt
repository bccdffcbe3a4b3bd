-- One pair of generators taken out of a complex.
use Rattle.std.proofs.Common.{◌≡◌, ◌≢◌, ℕ, ◌+◌, ◌<◌, ◌≤◌, ap, sym, ◌∙◌, arith, refl, inl, inr, subst}
use Rattle.conley_field.specs.Arithmetic.{Arithmetic, IsField}
use Rattle.conley_algebra.specs.Entries.{Entries, product_of, identity_of, zero_entries, SameEntries}
use Rattle.conley_algebra.proofs.SumLemmas as sums
use Rattle.conley_algebra.proofs.MatrixLemmas as matrices
use Rattle.conley_algebra.proofs.MatrixLemmas.{entries_path, identity-same, identity-other, identity-end}
use Rattle.conley_algebra.specs.Listing.{IsListing}
use Rattle.conley_homotopy.specs.Pair.{rest_entry, phi_entry, psi_entry, gamma_entry}
use Rattle.conley_homotopy.specs.Graded.{Generators, IsPreorder, IsGradedComplex}
use Rattle.conley_homotopy.specs.Equivalence.{Maps, IsGradedEquivalence}
use Rattle.conley_homotopy.proofs.PairMapLemmas.{pair_homotopy, g, g_matrix, small_boundary, pair_phi, pair_psi, pair-phi_commutes, pair-psi_commutes, pair-phi_psi, pair-psi_phi, pair_phi-matrix, pair_psi-matrix, small_boundary-rest, pair_phi-formula, pair_psi-formula, small_boundary-matrix, small_boundary-squares, pair_phi-entry, small_boundary-where, pair_psi-entry, g-entry}

module _ {F : Arithmetic} (laws : IsField F) {below : ℕ → ℕ → Type 0} (order : IsPreorder below) (L : Generators) (complex : IsGradedComplex F below L)
    (K Q : ℕ) (K_below : K < L.count) (Q_below : Q < L.count) (differ : K ≢ Q) (unit : L.boundary Q K ≢ 0) (K_under : below (L.base K) (L.base Q))
    (s : ℕ) (list : ℕ → ℕ) (listing : IsListing L.count (λ x. (x ≢ K) × (x ≢ Q)) s list) (beyond : (i : ℕ) → s ≤ i → L.count ≤ list i) where
  pub dd : product_of F L.count L.boundary L.boundary ≡ zero_entries
  dd = entries_path (product_of F L.count L.boundary L.boundary) zero_entries complex.squares

  -- the other generators, and the maps of the pair
  abbrev pub without_pair : Generators
  without_pair = record {
    count = s;
    base = λ i. L.base (list i);
    dim = λ i. L.dim (list i);
    boundary = small_boundary laws L.count L.boundary complex.matrix dd K Q K_below Q_below differ unit s list listing beyond;
  }

  abbrev pub pair_maps : Maps
  pair_maps = record {
    phi = pair_phi laws L.count L.boundary complex.matrix dd K Q K_below Q_below differ unit s list listing beyond;
    psi = pair_psi laws L.count L.boundary complex.matrix dd K Q K_below Q_below differ unit s list listing beyond;
    gamma = g laws L.count L.boundary complex.matrix dd K Q K_below Q_below differ unit;
    gamma2 = zero_entries;
  }

  pub pair-IsGradedEquivalence : IsGradedEquivalence F below L without_pair pair_maps
  pair-IsGradedEquivalence = record {
    phi_matrix = pair_phi-matrix laws L.count L.boundary complex.matrix dd K Q K_below Q_below differ unit s list listing beyond;
    psi_matrix = pair_psi-matrix laws L.count L.boundary complex.matrix dd K Q K_below Q_below differ unit s list listing beyond;
    gamma_matrix = g_matrix laws L.count L.boundary complex.matrix dd K Q K_below Q_below differ unit;
    gamma2_matrix = record { codes = λ row column. sums.zero_below laws; rows_end = λ row column end. refl; columns_end = λ row column end. refl };
    phi_down = λ y j some. elim (pair_phi-entry laws L.count L.boundary complex.matrix dd K Q K_below Q_below differ unit s list listing beyond y j some) [
      | inl same ↦ (ap L.dim same, subst (λ (x : ℕ). below (L.base y) (L.base x)) same (order.reflexive (L.base y)))
      | inr pair ↦ (
        ap L.dim pair.0 ∙ complex.one_down Q K unit ∙ sym (complex.one_down Q (list j) pair.1),
        subst (λ (x : ℕ). below (L.base x) (L.base (list j))) (sym pair.0) (order.transitive _ _ _ K_under (complex.down Q (list j) pair.1)),
      )
    ];
    psi_down = λ i z some. elim (pair_psi-entry laws L.count L.boundary complex.matrix dd K Q K_below Q_below differ unit s list listing beyond i z some) [
      | inl same ↦ (ap L.dim same, subst (λ (x : ℕ). below (L.base (list i)) (L.base x)) same (order.reflexive (L.base (list i))))
      | inr pair ↦ (
        level (L.dim (list i)) (L.dim Q) (L.dim K) (complex.one_down (list i) K pair.1) (complex.one_down Q K unit) ∙ sym (ap L.dim pair.0),
        subst (λ (x : ℕ). below (L.base (list i)) (L.base x)) (sym pair.0) (order.transitive _ _ _ (complex.down (list i) K pair.1) K_under),
      )
    ];
    gamma_down = λ y x some.
        let pair = g-entry laws L.count L.boundary complex.matrix dd K Q K_below Q_below differ unit y x some in (
          ap L.dim pair.0 ∙ complex.one_down Q K unit ∙ ap (λ (q : ℕ). L.dim q + 1) (sym pair.1),
          subst (λ (t : ℕ). below (L.base t) (L.base x)) (sym pair.0) (subst (λ (t : ℕ). below (L.base K) (L.base t)) (sym pair.1) K_under),
        );
    gamma2_down = λ row column some. absurd (some refl);
    phi_commutes = pair-phi_commutes laws L.count L.boundary complex.matrix dd K Q K_below Q_below differ unit s list listing beyond;
    psi_commutes = pair-psi_commutes laws L.count L.boundary complex.matrix dd K Q K_below Q_below differ unit s list listing beyond;
    phi_psi = pair-phi_psi laws L.count L.boundary complex.matrix dd K Q K_below Q_below differ unit s list listing beyond;
    psi_phi = λ i j.
        ap (λ t. F.add t (F.neg (identity_of s i j))) (pair-psi_phi laws L.count L.boundary complex.matrix dd K Q K_below Q_below differ unit s list listing
        beyond i j) ∙ laws.add_neg (identity_of s i j)
        ∙ sym (ap (λ t. F.add t (product_of F s zero_entries W i j)) (ap (λ (e : Entries). e i j) (matrices.product-zero laws s W))
        ∙ ap (λ (e : Entries). F.add 0 (e i j)) (matrices.zero-product laws s W) ∙ sums.add_zero_zero laws);
  } where
    W : Entries
    W = small_boundary laws L.count L.boundary complex.matrix dd K Q K_below Q_below differ unit s list listing beyond

    level : (x y z : ℕ) → z ≡ x + 1 → z ≡ y + 1 → x ≡ y
    level x y z first second = omega arith

  pub without_pair-IsGradedComplex : IsGradedComplex F below without_pair
  without_pair-IsGradedComplex = record {
    matrix = small_boundary-matrix laws L.count L.boundary complex.matrix dd K Q K_below Q_below differ unit s list listing beyond;
    squares = small_boundary-squares laws L.count L.boundary complex.matrix dd K Q K_below Q_below differ unit s list listing beyond;
    one_down = λ h e some. elim (small_boundary-where laws L.count L.boundary complex.matrix dd K Q K_below Q_below differ unit s list listing beyond
        h e some) [
          | inl direct ↦ complex.one_down (list h) (list e) direct
          | inr pair ↦ complex.one_down Q (list e) pair.1 ∙ sym (complex.one_down Q K unit) ∙ complex.one_down (list h) K pair.0
        ];
    down = λ h e some. elim (small_boundary-where laws L.count L.boundary complex.matrix dd K Q K_below Q_below differ unit s list listing beyond h e some) [
      | inl direct ↦ complex.down (list h) (list e) direct
      | inr pair ↦ order.transitive _ _ _ (complex.down (list h) K pair.0) (order.transitive _ _ _ K_under (complex.down Q (list e) pair.1))
    ];
  }

  pub without_pair-boundary : (i j : ℕ) → without_pair.boundary i j ≡ rest_entry F L.boundary K Q (list i) (list j)
  without_pair-boundary = small_boundary-rest laws L.count L.boundary complex.matrix dd K Q K_below Q_below differ unit s list listing beyond

  pub pair_maps-phi : (y j : ℕ) → pair_maps.phi y j ≡ phi_entry F L.count L.boundary K Q y (list j)
  pair_maps-phi = pair_phi-formula laws L.count L.boundary complex.matrix dd K Q K_below Q_below differ unit s list listing beyond

  pub pair_maps-psi : (i y : ℕ) → pair_maps.psi i y ≡ psi_entry F L.count L.boundary K Q (list i) y
  pair_maps-psi = pair_psi-formula laws L.count L.boundary complex.matrix dd K Q K_below Q_below differ unit s list listing beyond

  pub pair_maps-gamma : (y x : ℕ) → pair_maps.gamma y x ≡ gamma_entry F L.boundary K Q y x
  unfolding g pair_homotopy
  pair_maps-gamma y x = refl

  pub pair_maps-gamma2 : (y x : ℕ) → pair_maps.gamma2 y x ≡ 0
  pair_maps-gamma2 y x = refl

  pub pair_maps-psi_phi : SameEntries (product_of F L.count pair_maps.psi pair_maps.phi) (identity_of s)
  pair_maps-psi_phi = pair-psi_phi laws L.count L.boundary complex.matrix dd K Q K_below Q_below differ unit s list listing beyond

  pub without_pair-count : without_pair.count ≡ s
  without_pair-count = refl

  pub without_pair-base : (i : ℕ) → without_pair.base i ≡ L.base (list i)
  without_pair-base i = refl

  pub without_pair-dim : (i : ℕ) → without_pair.dim i ≡ L.dim (list i)
  without_pair-dim i = refl
