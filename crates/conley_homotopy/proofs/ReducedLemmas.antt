-- Reductions: the start, one pair more, the same over the numbers of the large complex, and the same of other generators, bases and relations.
use Rattle.std.proofs.Common.{◌≡◌, ◌≢◌, ℕ, ◌+◌, ◌<◌, ap, sym, ◌∙◌, refl, subst, arith}
use Rattle.conley_field.specs.Arithmetic.{Arithmetic, IsField}
use Rattle.conley_algebra.specs.Entries.{Entries, product_of, zero_entries, identity_of}
use Rattle.conley_homotopy.specs.Graded.{Generators, IsPreorder, IsGradedComplex}
use Rattle.conley_homotopy.specs.Equivalence.{Maps, composed, identity_maps}
use Rattle.conley_algebra.specs.Others.{other}
use Rattle.conley_homotopy.specs.Pair.{rest_entry, phi_entry, psi_entry, gamma_entry, ArePairFormulas}
use Rattle.conley_homotopy.specs.Reduction.{IsReduction, IsPairStep, IsReducedTo, selected, selected_maps}
use Rattle.conley_algebra.proofs.SumLemmas as sums
use Rattle.conley_algebra.proofs.MatrixLemmas as matrices
use Rattle.conley_algebra.proofs.MatrixLemmas.{entries_path}
use Rattle.conley_homotopy.proofs.PairStepLemmas.{AreSameGenerators, row_within, column_within, complex-same, equivalence-same, maps_path, step-IsPairStep}
use Rattle.conley_homotopy.proofs.RegradingLemmas.{wider-IsGradedComplex, wider-IsGradedEquivalence}
use Rattle.conley_homotopy.proofs.ReductionLemmas.{identity-IsReduction, composed-IsReduction}
use Rattle.conley_homotopy.proofs.UpdateLemmas.{composed-phi, composed-psi, composed-gamma}

module _ {F : Arithmetic} (laws : IsField F) {below : ℕ → ℕ → Type 0} (order : IsPreorder below) where
  pub reduction-start : (C : Generators) (m : Maps) → IsGradedComplex F below C → m ≡ identity_maps C.count → IsReducedTo F below C C m
  reduction-start C m complex is = record {
    complex = complex;
    kept = λ i. i;
    reduction = subst (IsReduction F below C C (λ i. i)) (sym is) (identity-IsReduction laws order C complex);
  }

  -- one reduction after another
  pub reduction-composed : (L S T : Generators) (first second m : Maps) → IsReducedTo F below L S first → IsReducedTo F below S T second
      → m ≡ composed F S.count first second
      → IsReducedTo F below L T m
  reduction-composed L S T first second m one two is = record {
    complex = two.complex;
    kept = λ i. one.kept (two.kept i);
    reduction = subst (IsReduction F below L T (λ i. one.kept (two.kept i))) (sym is) (composed-IsReduction laws order L S T one.kept two.kept first second
        one.reduction two.reduction);
  }

  -- a pair step is one
  pub reduction-step : (L S : Generators) (K Q : ℕ) (kept : ℕ → ℕ) (m : Maps) → IsPairStep F below L K Q S kept m → IsReducedTo F below L S m
  reduction-step L S K Q kept m step = record { complex = step.complex; kept = kept; reduction = step.reduction }

  pub reduction-pair : (L : Generators) → IsGradedComplex F below L → (K Q : ℕ) → L.boundary Q K ≢ 0 → below (L.base K) (L.base Q)
      → (S : Generators) (m : Maps) → ArePairFormulas F L K Q S m
      → IsReducedTo F below L S m
  reduction-pair L complex K Q unit under S m step = reduction-step L S K Q (other K Q) m
      (step-IsPairStep laws order L complex K Q (column_within complex.matrix Q K unit) (row_within complex.matrix Q K unit) unit under S m step)

module _ {F : Arithmetic} (laws : IsField F) {below : ℕ → ℕ → Type 0} (order : IsPreorder below) (L : Generators)
    (s t : ℕ) (count : t + 2 ≡ s) (kept : ℕ → ℕ) (w phi psi gamma : Entries) (reduction : IsReducedTo F below L (selected L s kept w)
    (selected_maps kept phi psi gamma))
    (k q : ℕ) (k_below : k < s) (q_below : q < s) (differ : k ≢ q) (unit : w (kept q) (kept k) ≢ 0) (under : below (L.base (kept k)) (L.base (kept q)))
    (w' phi' psi' gamma' : Entries)
    -- the updates, asked at the places that are left
    (w_is : (i j : ℕ) → w' (kept (other k q i)) (kept (other k q j)) ≡ rest_entry F w (kept k) (kept q) (kept (other k q i)) (kept (other k q j)))
    (phi_is : (y j : ℕ) → phi' y (kept (other k q j)) ≡ F.add (phi y (kept (other k q j)))
    (F.neg (F.mul (phi y (kept k)) (F.mul (w (kept q) (kept (other k q j))) (F.inv (w (kept q) (kept k)))))))
    (psi_is : (i y : ℕ) → psi' (kept (other k q i)) y ≡ F.add (psi (kept (other k q i)) y)
    (F.neg (F.mul (F.mul (F.inv (w (kept q) (kept k))) (w (kept (other k q i)) (kept k))) (psi (kept q) y))))
    (gamma_is : (y x : ℕ) → gamma' y x ≡ F.add (gamma y x) (F.mul (F.mul (phi y (kept k)) (F.inv (w (kept q) (kept k)))) (psi (kept q) x))) where
  S : Generators
  S = selected L s kept w

  T : Generators
  T = selected L t (λ i. kept (other k q i)) w'

  steps : Maps
  steps = record {
    phi = λ y j. phi_entry F s (λ i j. w (kept i) (kept j)) k q y (other k q j);
    psi = λ i y. psi_entry F s (λ i j. w (kept i) (kept j)) k q (other k q i) y;
    gamma = gamma_entry F (λ i j. w (kept i) (kept j)) k q;
    gamma2 = zero_entries;
  }

  is_step : ArePairFormulas F S k q T steps
  unfolding S T steps
  is_step = record {
    count = count;
    base = λ i within. refl;
    dim = λ i within. refl;
    boundary = w_is;
    phi = λ y j. refl;
    psi = λ i y. refl;
    gamma = λ y x. refl;
    gamma2 = λ i j. refl;
  }

  are_composed : selected_maps (λ i. kept (other k q i)) phi' psi' gamma' ≡ composed F s (selected_maps kept phi psi gamma) steps
  unfolding S T steps
  are_composed = maps_path _ _
      (entries_path _ _ (λ y j. phi_is y j ∙ sym (composed-phi laws s (λ i j. w (kept i) (kept j)) k q differ k_below q_below L.count (λ y j. phi y (kept j))
      reduction.reduction.equivalence.phi_matrix y j)))
      (entries_path _ _ (λ i y. psi_is i y ∙ sym (composed-psi laws s (λ i j. w (kept i) (kept j)) k q differ k_below q_below L.count (λ i y. psi (kept i) y)
      reduction.reduction.equivalence.psi_matrix i y)))
      (entries_path _ _ (λ y x. gamma_is y x ∙ sym (composed-gamma laws s (λ i j. w (kept i) (kept j)) k q differ k_below q_below gamma (λ y j. phi y (kept j))
      (λ i y. psi (kept i) y) y x)))
      (entries_path _ _ (λ i j. sym (
      ap (λ (e : Entries). F.add 0 (product_of F s e steps.phi i j)) (matrices.product-zero laws s steps.psi)
      ∙ ap (λ (e : Entries). F.add 0 (e i j)) (matrices.zero-product laws s steps.phi) ∙ sums.add_zero_zero laws)))

  -- so a pair taken out in place is one pair more of the reduction
  pub reduction-in_place : IsReducedTo F below L (selected L t (λ i. kept (other k q i)) w') (selected_maps (λ i. kept (other k q i)) phi' psi' gamma')
  unfolding S T
  reduction-in_place =
      reduction-composed laws order L S T (selected_maps kept phi psi gamma) steps (selected_maps (λ i. kept (other k q i)) phi' psi' gamma') reduction
      (reduction-pair laws order S reduction.complex k q unit under T steps is_step) are_composed

-- a reduction to the same generators with the same maps
module _ {F : Arithmetic} {below : ℕ → ℕ → Type 0} where
  pub reduced-same : (L S T : Generators) (m l : Maps) → AreSameGenerators S T → m ≡ l → IsReducedTo F below L S m → IsReducedTo F below L T l
  reduced-same L S T m l same is reduced = subst (IsReducedTo F below L T) is (record {
    complex = complex-same S T same reduced.complex;
    kept = reduced.kept;
    reduction = record {
      equivalence = equivalence-same L S T m same reduced.reduction.equivalence;
      strong = λ row column. reduced.reduction.strong row column ∙ ap (λ n. identity_of n row column) same.count;
      no_gamma2 = reduced.reduction.no_gamma2;
      are_kept = record {
        ascending = λ i j less within. reduced.reduction.are_kept.ascending i j less (omega (arith, within, same.count));
        within = λ i within. reduced.reduction.are_kept.within i (omega (arith, within, same.count));
        base = λ i within. (let w : i < S.count = omega (arith, within, same.count) in sym (same.base i w) ∙ reduced.reduction.are_kept.base i w);
        dim = λ i within. (let w : i < S.count = omega (arith, within, same.count) in sym (same.dim i w) ∙ reduced.reduction.are_kept.dim i w);
      };
      phi_row = λ i within j. reduced.reduction.phi_row i (omega (arith, within, same.count)) j ∙ ap (λ n. identity_of n i j) same.count;
      psi_column = λ i j within. reduced.reduction.psi_column i j (omega (arith, within, same.count)) ∙ ap (λ n. identity_of n i j) same.count;
    };
  })

-- the same reduction where bases are told otherwise
pub reduced-bases : {F : Arithmetic} {below : ℕ → ℕ → Type 0} (L : Generators) (base : ℕ → ℕ) (S : Generators) (m : Maps)
    → ((x : ℕ) → x < L.count → L.base x ≡ base x)
    → IsReducedTo F below L S m → IsReducedTo F below (record { count = L.count; base = base; dim = L.dim; boundary = L.boundary }) S m
reduced-bases {F} {below} L base S m same reduced =
    let eq = reduced.reduction.equivalence in
    record {
      complex = reduced.complex;
      kept = reduced.kept;
      reduction = record {
        equivalence = record {
          phi_matrix = eq.phi_matrix;
          psi_matrix = eq.psi_matrix;
          gamma_matrix = eq.gamma_matrix;
          gamma2_matrix = eq.gamma2_matrix;
          phi_down = λ x g some. (let at = eq.phi_down x g some in (at.0, subst (λ b. below b (S.base g)) (same x (row_within eq.phi_matrix x g some)) at.1));
          psi_down = λ g x some. (let at = eq.psi_down g x some in (
            at.0,
            subst (λ b. below (S.base g) b) (same x (column_within eq.psi_matrix g x some))
                at.1,
          ));
          gamma_down = λ y x some.
              let at = eq.gamma_down y x some in (
                at.0,
                subst (λ b. below b (base x)) (same y (row_within eq.gamma_matrix y x some))
                    (subst (λ b. below (L.base y) b) (same x (column_within eq.gamma_matrix y x some)) at.1),
              );
          gamma2_down = eq.gamma2_down;
          phi_commutes = eq.phi_commutes;
          psi_commutes = eq.psi_commutes;
          phi_psi = eq.phi_psi;
          psi_phi = eq.psi_phi;
        };
        strong = reduced.reduction.strong;
        no_gamma2 = reduced.reduction.no_gamma2;
        are_kept = record {
          ascending = reduced.reduction.are_kept.ascending;
          within = reduced.reduction.are_kept.within;
          base = λ i within. reduced.reduction.are_kept.base i within ∙ same (reduced.kept i) (reduced.reduction.are_kept.within i within);
          dim = reduced.reduction.are_kept.dim;
        };
        phi_row = reduced.reduction.phi_row;
        psi_column = reduced.reduction.psi_column;
      };
    }

-- the same over a relation that holds wherever the first one does
pub wider-IsReducedTo : {F : Arithmetic} {below below' : ℕ → ℕ → Type 0} → ((a b : ℕ) → below a b → below' a b) → (L S : Generators) (m : Maps)
    → IsReducedTo F below L S m → IsReducedTo F below' L S m
wider-IsReducedTo wider L S m reduced = record {
  complex = wider-IsGradedComplex wider S reduced.complex;
  kept = reduced.kept;
  reduction = record {
    equivalence = wider-IsGradedEquivalence wider L S m reduced.reduction.equivalence;
    strong = reduced.reduction.strong;
    no_gamma2 = reduced.reduction.no_gamma2;
    are_kept = reduced.reduction.are_kept;
    phi_row = reduced.reduction.phi_row;
    psi_column = reduced.reduction.psi_column;
  };
}
