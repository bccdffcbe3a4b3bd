-- An equivalence stays one where a generator's base is exchanged for a cell of the same grade.
use Rattle.std.proofs.Common.{ℕ, ◌<◌}
use Rattle.conley_field.specs.Arithmetic.{Arithmetic}
use Rattle.conley_homotopy.specs.Graded.{Generators, IsPreorder, IsGradedComplex, IsStrict}
use Rattle.conley_homotopy.specs.Equivalence.{Maps, IsGradedEquivalence}
use Rattle.conley_homotopy.proofs.PairStepLemmas.{row_within, column_within}

-- the same generators but for their bases, which have the same grades
unfoldable pub regraded : Generators → (ℕ → ℕ) → Generators
regraded S base = record { count = S.count; base = base; dim = S.dim; boundary = S.boundary }

module _ {F : Arithmetic} {below : ℕ → ℕ → Type 0} (order : IsPreorder below) (S : Generators) (base : ℕ → ℕ)
    (same : (i : ℕ) → i < S.count → below (S.base i) (base i) × below (base i) (S.base i)) where
  pub regraded-IsGradedComplex : IsGradedComplex F below S → IsGradedComplex F below (regraded S base)
  unfolding regraded
  regraded-IsGradedComplex complex = record {
    matrix = complex.matrix;
    squares = complex.squares;
    one_down = complex.one_down;
    down = λ h g some.
        let h_within = row_within complex.matrix h g some in
        let g_within = column_within complex.matrix h g some in
        order.transitive _ _ _ (same h h_within).1 (order.transitive _ _ _ (complex.down h g some) (same g g_within).0);
  }

  pub regraded-IsStrict : IsGradedComplex F below S → IsStrict below S → IsStrict below (regraded S base)
  unfolding regraded
  regraded-IsStrict complex strict h g some up =
      let h_within = row_within complex.matrix h g some in
      let g_within = column_within complex.matrix h g some in
      strict h g some (order.transitive _ _ _ (same g g_within).0 (order.transitive _ _ _ up (same h h_within).1))

  pub regraded-IsGradedEquivalence : (L : Generators) (m : Maps) → IsGradedEquivalence F below L S m → IsGradedEquivalence F below L (regraded S base) m
  unfolding regraded
  regraded-IsGradedEquivalence L m eq = record {
    phi_matrix = eq.phi_matrix;
    psi_matrix = eq.psi_matrix;
    gamma_matrix = eq.gamma_matrix;
    gamma2_matrix = eq.gamma2_matrix;
    phi_down = λ x g some. (let at = eq.phi_down x g some in (at.0, order.transitive _ _ _ at.1 (same g (column_within eq.phi_matrix x g some)).0));
    psi_down = λ g x some. (let at = eq.psi_down g x some in (at.0, order.transitive _ _ _ (same g (row_within eq.psi_matrix g x some)).1 at.1));
    gamma_down = eq.gamma_down;
    gamma2_down = λ h g some.
        let at = eq.gamma2_down h g some in (
          at.0,
          order.transitive _ _ _ (same h (row_within eq.gamma2_matrix h g some)).1 (order.transitive _ _ _ at.1
              (same g (column_within eq.gamma2_matrix h g some)).0),
        );
    phi_commutes = eq.phi_commutes;
    psi_commutes = eq.psi_commutes;
    phi_psi = eq.phi_psi;
    psi_phi = eq.psi_phi;
  }

-- the same over another relation that holds wherever the first one does
module _ {F : Arithmetic} {below below' : ℕ → ℕ → Type 0} (wider : (a b : ℕ) → below a b → below' a b) where
  pub wider-IsGradedComplex : (S : Generators) → IsGradedComplex F below S → IsGradedComplex F below' S
  wider-IsGradedComplex S complex = record {
    matrix = complex.matrix;
    squares = complex.squares;
    one_down = complex.one_down;
    down = λ h g some. wider (S.base h) (S.base g) (complex.down h g some);
  }

  pub wider-IsGradedEquivalence : (L S : Generators) (m : Maps) → IsGradedEquivalence F below L S m → IsGradedEquivalence F below' L S m
  wider-IsGradedEquivalence L S m eq = record {
    phi_matrix = eq.phi_matrix;
    psi_matrix = eq.psi_matrix;
    gamma_matrix = eq.gamma_matrix;
    gamma2_matrix = eq.gamma2_matrix;
    phi_down = λ x g some. (let at = eq.phi_down x g some in (at.0, wider (L.base x) (S.base g) at.1));
    psi_down = λ g x some. (let at = eq.psi_down g x some in (at.0, wider (S.base g) (L.base x) at.1));
    gamma_down = λ y x some. (let at = eq.gamma_down y x some in (at.0, wider (L.base y) (L.base x) at.1));
    gamma2_down = λ h g some. (let at = eq.gamma2_down h g some in (at.0, wider (S.base h) (S.base g) at.1));
    phi_commutes = eq.phi_commutes;
    psi_commutes = eq.psi_commutes;
    phi_psi = eq.phi_psi;
    psi_phi = eq.psi_phi;
  }

  -- strict, where the two agree on the bases
  pub wider-IsStrict : (S : Generators) → IsGradedComplex F below S → ((i j : ℕ) → i < S.count → j < S.count → below' (S.base i) (S.base j)
      → below (S.base i) (S.base j))
      → IsStrict below S → IsStrict below' S
  wider-IsStrict S complex agree strict h g some up = strict h g some (agree g h (column_within complex.matrix h g some) (row_within complex.matrix h g some)
      up)
