-- The maps of a pair of generators, and the boundary that is left without it.
use Rattle.std.proofs.Common.{◌≡◌, ◌≢◌, ℕ, ◌<◌, ◌≤◌, ◌==◌, ◌&&◌, Bool, true, false, cond, ap, sym, ◌∙◌, arith, refl, inl, inr, ◌⊎◌, subst}
use Rattle.std.proofs.lemmas.Bool.{cases_eq, cases_lt, eq-eqb, ne_eqb}
use Rattle.conley_field.specs.Arithmetic.{Arithmetic, IsField}
use Rattle.conley_algebra.specs.Sum.{sum_below}
use Rattle.conley_algebra.specs.Entries.{Entries, product_of, plus_of, minus_of, identity_of, zero_entries, IsMatrix, SameEntries}
use Rattle.conley_algebra.proofs.SumLemmas as sums
use Rattle.conley_algebra.proofs.MatrixLemmas as matrices
use Rattle.conley_algebra.proofs.MatrixLemmas.{entries_path, identity-same, identity-other, identity-end}
use Rattle.conley_homotopy.proofs.ComposeLemmas as compose
use Rattle.conley_algebra.specs.Listing.{IsListing}
use Rattle.conley_algebra.proofs.ImageLemmas.{sum_by_list}
use Rattle.conley_homotopy.specs.Pair.{rest_entry, phi_entry, psi_entry}
use Rattle.conley_homotopy.proofs.ProjectorLemmas.{neg-zero, A, B, by_A, by_B, right_A, A_matrix, B_matrix, A-dA, Bd-B, by_AB, by_BA, dA-Bd}

-- the generator K goes to the inverse of its entry at Q, all else to zero
unfoldable pub pair_homotopy : Arithmetic → Entries → ℕ → ℕ → Entries
pair_homotopy F d K Q y x = cond ((y == K) && (x == Q)) (F.inv (d Q K)) 0

pub and_false : (b : Bool) → (b && false) ≡ false
and_false true = refl
and_false false = refl

module _ {F : Arithmetic} (laws : IsField F) (n : ℕ) (d : Entries) (d_matrix : IsMatrix F n n d) (dd : product_of F n d d ≡ zero_entries)
    (K Q : ℕ) (K_below : K < n) (Q_below : Q < n) (differ : K ≢ Q) (unit : d Q K ≢ 0) where
  unfoldable pub g : Entries
  g = pair_homotopy F d K Q

  pub g-at : g K Q ≡ F.inv (d Q K)
  unfolding g pair_homotopy
  g-at = ap (λ b. cond (b && (Q == Q)) (F.inv (d Q K)) 0) (eq-eqb K K refl) ∙ ap (λ b. cond b (F.inv (d Q K)) 0) (eq-eqb Q Q refl)

  g-row : (y x : ℕ) → y ≢ K → g y x ≡ 0
  unfolding g pair_homotopy
  g-row y x other = ap (λ b. cond (b && (x == Q)) (F.inv (d Q K)) 0) (ne_eqb y K other)

  g-column : (y x : ℕ) → x ≢ Q → g y x ≡ 0
  unfolding g pair_homotopy
  g-column y x other = ap (λ b. cond ((y == K) && b) (F.inv (d Q K)) 0) (ne_eqb x Q other) ∙ ap (λ b. cond b (F.inv (d Q K)) 0) (and_false (y == K))

  g-codes : (y x : ℕ) → g y x < F.order
  g-codes y x = elim (cases_eq y K) [
    | inr other ↦ subst (λ (t : ℕ). t < F.order) (sym (g-row y x other)) (sums.zero_below laws)
    | inl row ↦ elim (cases_eq x Q) [
      | inr other ↦ subst (λ (t : ℕ). t < F.order) (sym (g-column y x other)) (sums.zero_below laws)
      | inl column ↦ subst (λ (t : ℕ). t < F.order) (sym (ap (λ (k : ℕ). g k x) row ∙ ap (g K) column ∙ g-at)) (laws.inv_below (d Q K))
    ]
  ]

  pub g_matrix : IsMatrix F n n g
  g_matrix = record {
    codes = g-codes;
    rows_end = λ row column end. g-row row column (omega arith);
    columns_end = λ row column end. g-column row column (omega arith);
  }

  gg : product_of F n g g ≡ zero_entries
  gg = entries_path (product_of F n g g) zero_entries (λ y x. sums.sum_below-zero laws n _ (λ k below. elim (cases_eq k Q) [
    | inl same ↦ ap (F.mul (g y k)) (g-row k x (λ e. differ (sym e ∙ same))) ∙ sums.mul-zero laws (g y k)
    | inr other ↦ ap (λ t. F.mul t (g k x)) (g-column y k other) ∙ sums.zero-mul laws (g k x)
  ]))

  pub gd-row : (z : ℕ) → product_of F n g d K z ≡ F.mul (F.inv (d Q K)) (d Q z)
  gd-row z =
      sums.sum_below-single laws n (λ k. F.mul (g K k) (d k z)) Q Q_below (laws.mul_below _ _)
      (λ k below other. ap (λ t. F.mul t (d k z)) (g-column K k other) ∙ sums.zero-mul laws (d k z))
      ∙ ap (λ t. F.mul t (d Q z)) g-at

  pub gd-other : (y z : ℕ) → y ≢ K → product_of F n g d y z ≡ 0
  gd-other y z other = sums.sum_below-zero laws n _ (λ k below. ap (λ t. F.mul t (d k z)) (g-row y k other) ∙ sums.zero-mul laws (d k z))

  pub dg-column : (y : ℕ) → product_of F n d g y Q ≡ F.mul (d y K) (F.inv (d Q K))
  dg-column y =
      sums.sum_below-single laws n (λ k. F.mul (d y k) (g k Q)) K K_below (laws.mul_below _ _)
      (λ k below other. ap (F.mul (d y k)) (g-row k Q other) ∙ sums.mul-zero laws (d y k))
      ∙ ap (F.mul (d y K)) g-at

  pub dg-other : (y z : ℕ) → z ≢ Q → product_of F n d g y z ≡ 0
  dg-other y z other = sums.sum_below-zero laws n _ (λ k below. ap (F.mul (d y k)) (g-column k z other) ∙ sums.mul-zero laws (d y k))

  one : F.mul (d Q K) (F.inv (d Q K)) ≡ 1
  one = laws.mul_inv (d Q K) (omega arith) (d_matrix.codes Q K)

  -- column K of id - g d, and row Q of id - d g, are zero
  A-K : (y : ℕ) → F.add (identity_of n y K) (F.neg (product_of F n g d y K)) ≡ 0
  A-K y = elim (cases_eq y K) [
    | inl same ↦
        ap (λ (k : ℕ). F.add (identity_of n k K) (F.neg (product_of F n g d k K))) same
        ∙ ap (λ t. F.add t (F.neg (product_of F n g d K K))) (identity-same n K K_below)
        ∙ ap (λ t. F.add 1 (F.neg t)) (gd-row K ∙ laws.mul_comm (F.inv (d Q K)) (d Q K) ∙ one) ∙ laws.add_neg 1
    | inr other ↦
        ap (λ t. F.add t (F.neg (product_of F n g d y K))) (identity-other n y K other) ∙ ap (λ t. F.add 0 (F.neg t)) (gd-other y K other) ∙ laws.add_neg 0
  ]

  B-Q : (z : ℕ) → F.add (identity_of n Q z) (F.neg (product_of F n d g Q z)) ≡ 0
  B-Q z = elim (cases_eq z Q) [
    | inl same ↦
        ap (λ (k : ℕ). F.add (identity_of n Q k) (F.neg (product_of F n d g Q k))) same
        ∙ ap (λ t. F.add t (F.neg (product_of F n d g Q Q))) (identity-same n Q Q_below)
        ∙ ap (λ t. F.add 1 (F.neg t)) (dg-column Q ∙ one) ∙ laws.add_neg 1
    | inr other ↦
        ap (λ t. F.add t (F.neg (product_of F n d g Q z))) (identity-other n Q z (λ e. other (sym e))) ∙ ap (λ t. F.add 0 (F.neg t)) (dg-other Q z other)
        ∙ laws.add_neg 0
  ]

  module _ (s : ℕ) (list : ℕ → ℕ) (listing : IsListing n (λ x. (x ≢ K) × (x ≢ Q)) s list) where
    -- over the other generators alone, where the left factor is zero at K and the right one at Q
    others : (a b : Entries) → ((y : ℕ) → a y K ≡ 0) → ((z : ℕ) → b Q z ≡ 0) → (y z : ℕ)
        → sum_below F s (λ i. F.mul (a y (list i)) (b (list i) z)) ≡ product_of F n a b y z
    others a b a_K b_Q y z = sym (sum_by_list laws n s list (λ x. F.mul (a y x) (b x z)) listing.within listing.distinct (λ x x_below some.
        listing.all x x_below (
          (λ e. some (ap (λ (k : ℕ). F.mul (a y k) (b x z)) e ∙ ap (λ t. F.mul t (b x z)) (a_K y) ∙ sums.zero-mul laws (b x z))),
          (λ e. some (ap (λ (k : ℕ). F.mul (a y x) (b k z)) e ∙ ap (F.mul (a y x)) (b_Q z) ∙ sums.mul-zero laws (a y x))),
        )))

    module _ (beyond : (i : ℕ) → s ≤ i → n ≤ list i) where
      -- id - g d and id - d g
      a : Entries
      a = A laws n d g d_matrix g_matrix dd gg

      b : Entries
      b = B laws n d g d_matrix g_matrix dd gg

      a-K : (y : ℕ) → a y K ≡ 0
      unfolding a A
      a-K = A-K

      b-Q : (z : ℕ) → b Q z ≡ 0
      unfolding b B
      b-Q = B-Q

      da : Entries
      da = product_of F n d a

      da-K : (y : ℕ) → da y K ≡ 0
      unfolding da
      da-K y = sums.sum_below-zero laws n _ (λ x below. ap (F.mul (d y x)) (a-K x) ∙ sums.mul-zero laws (d y x))

      da-bd : da ≡ product_of F n b d
      unfolding da a b
      da-bd = dA-Bd laws n d g d_matrix g_matrix dd gg

      da-Q : (z : ℕ) → da Q z ≡ 0
      da-Q z = ap (λ (e : Entries). e Q z) da-bd ∙ sums.sum_below-zero laws n _ (λ x below. ap (λ t. F.mul t (d x z)) (b-Q x) ∙ sums.zero-mul laws (d x z))

      a_matrix : IsMatrix F n n a
      unfolding a
      a_matrix = A_matrix laws n d g d_matrix g_matrix dd gg

      b_matrix : IsMatrix F n n b
      unfolding b
      b_matrix = B_matrix laws n d g d_matrix g_matrix dd gg

      bd_b : product_of F n (product_of F n b d) b ≡ product_of F n b d
      unfolding b
      bd_b = Bd-B laws n d g d_matrix g_matrix dd gg

      from_AB : identity_of n ≡ plus_of F (product_of F n g d) (plus_of F (product_of F n d g) (product_of F n a b))
      unfolding a b
      from_AB = by_AB laws n d g d_matrix g_matrix dd gg

      by_ba : identity_of n ≡ plus_of F (product_of F n d g) (plus_of F (product_of F n g d) (product_of F n b a))
      unfolding a b
      by_ba = by_BA laws n d g d_matrix g_matrix dd gg

      at_da : product_of F n d a ≡ product_of F n a da
      unfolding da a
      at_da = sym (A-dA laws n d g d_matrix g_matrix dd gg)

      da_b : product_of F n da b ≡ product_of F n b d
      da_b = ap (λ t. product_of F n t b) da-bd ∙ bd_b

      by_ab : identity_of n ≡ plus_of F (product_of F n a b) (plus_of F (product_of F n d g) (product_of F n g d))
      by_ab =
          from_AB ∙ sym (matrices.plus-assoc laws (product_of F n g d) (product_of F n d g) (product_of F n a b))
          ∙ ap (λ t. plus_of F t (product_of F n a b)) (matrices.plus-comm laws (product_of F n g d) (product_of F n d g))
          ∙ matrices.plus-comm laws (plus_of F (product_of F n d g) (product_of F n g d)) (product_of F n a b)

      -- the smaller boundary, and the maps
      pub small_boundary : Entries
      small_boundary i j = da (list i) (list j)

      pub pair_phi : Entries
      pair_phi y j = a y (list j)

      pub pair_psi : Entries
      pair_psi i y = b (list i) y

      pub pair-phi_commutes : SameEntries (product_of F n d pair_phi) (product_of F s pair_phi small_boundary)
      unfolding pair_phi small_boundary
      pair-phi_commutes y j = ap (λ (e : Entries). e y (list j)) at_da ∙ sym (others a da a-K da-Q y (list j))

      pub pair-psi_commutes : SameEntries (product_of F s small_boundary pair_psi) (product_of F n pair_psi d)
      unfolding pair_psi small_boundary
      pair-psi_commutes i y = others da b da-K b-Q (list i) y ∙ ap (λ (e : Entries). e (list i) y) da_b

      pub pair-phi_psi : SameEntries (minus_of F (identity_of n) (product_of F s pair_phi pair_psi)) (plus_of F (product_of F n d g) (product_of F n g d))
      unfolding pair_phi pair_psi
      pair-phi_psi y z =
          ap (λ t. F.add (identity_of n y z) (F.neg t)) (others a b a-K b-Q y z)
          ∙ compose.plus-minus laws (identity_of n) (product_of F n a b) (plus_of F (product_of F n d g) (product_of F n g d))
          (λ row column. laws.add_below _ _) by_ab y z

      list_differs : (i j : ℕ) → i < s → i ≢ j → list i ≢ list j
      list_differs i j below other = elim (cases_lt j s) [
        | inl j_below ↦ λ same. other (listing.distinct i j below j_below same)
        | inr end ↦ λ same. (let far : n ≤ list j = beyond j end in let near : list i < n = listing.within i below in absurd (omega arith))
      ]

      pub pair-psi_phi : SameEntries (product_of F n pair_psi pair_phi) (identity_of s)
      unfolding pair_psi pair_phi
      pair-psi_phi i j = elim (cases_lt i s) [
        | inr end ↦
            sums.sum_below-zero laws n _ (λ k below. ap (λ t. F.mul t (a k (list j))) (b_matrix.rows_end (list i) k
            (let far : n ≤ list i = beyond i end in omega arith)) ∙ sums.zero-mul laws (a k (list j)))
            ∙ sym (identity-end s i j end)
        | inl below ↦ elim (cases_lt j s) [
          | inr end ↦
              sums.sum_below-zero laws n _ (λ k k_below. ap (F.mul (b (list i) k)) (a_matrix.columns_end k (list j)
              (let far : n ≤ list j = beyond j end in omega arith)) ∙ sums.mul-zero laws (b (list i) k))
              ∙ sym (identity-other s i j (omega arith))
          | inl j_below ↦
              sym (ap (λ (e : Entries). e (list i) (list j)) by_ba
              ∙ ap (λ t. F.add t (F.add (product_of F n g d (list i) (list j)) (product_of F n b a (list i) (list j))))
              (dg-other (list i) (list j) (listing.holds j j_below).1)
              ∙ ap (λ t. F.add 0 (F.add t (product_of F n b a (list i) (list j)))) (gd-other (list i) (list j) (listing.holds i below).0)
              ∙ laws.add_comm 0 _ ∙ laws.add_zero _ (laws.add_below _ _) ∙ laws.add_comm 0 _ ∙ laws.add_zero _ (sums.sum_below-below laws n _))
              ∙ elim (cases_eq i j) [
                | inl same ↦ ap (λ (k : ℕ). identity_of n (list i) (list k)) (sym same) ∙ identity-same n (list i) (listing.within i below)
                    ∙ sym (ap (identity_of s i) (sym same) ∙ identity-same s i below)
                | inr other ↦ identity-other n (list i) (list j) (list_differs i j below other) ∙ sym (identity-other s i j other)
              ]
        ]
      ]

      list_other : (i : ℕ) → list i ≢ K
      list_other i same = elim (cases_lt i s) [
        | inl i_below ↦ (listing.holds i i_below).0 same
        | inr end ↦ (let far : n ≤ list i = beyond i end in absurd (omega arith))
      ]

      list_other_Q : (i : ℕ) → list i ≢ Q
      list_other_Q i same = elim (cases_lt i s) [
        | inl i_below ↦ (listing.holds i i_below).1 same
        | inr end ↦ (let far : n ≤ list i = beyond i end in absurd (omega arith))
      ]

      list_identity : (i j : ℕ) → identity_of n (list i) (list j) ≡ identity_of s i j
      list_identity i j = elim (cases_lt i s) [
        | inr end ↦ identity-end n (list i) (list j) (let far : n ≤ list i = beyond i end in omega arith) ∙ sym (identity-end s i j end)
        | inl below ↦ elim (cases_eq i j) [
          | inl same ↦ ap (λ (k : ℕ). identity_of n (list i) (list k)) (sym same) ∙ identity-same n (list i) (listing.within i below)
              ∙ sym (ap (identity_of s i) (sym same) ∙ identity-same s i below)
          | inr other ↦ identity-other n (list i) (list j) (list_differs i j below other) ∙ sym (identity-other s i j other)
        ]
      ]

      minus_none : (x y z : ℕ) → x < F.order → y ≡ 0 → x ≡ z → F.add x (F.neg y) ≡ z
      minus_none x y z x_below none same = ap (λ t. F.add x (F.neg t)) none ∙ ap (F.add x) (neg-zero laws n) ∙ laws.add_zero x x_below ∙ same

      -- each generator that is left stands for itself, and psi takes K to zero
      pub pair_phi-row : (i j : ℕ) → pair_phi (list i) j ≡ identity_of s i j
      unfolding pair_phi a A
      pair_phi-row i j = minus_none (identity_of n (list i) (list j)) (product_of F n g d (list i) (list j)) (identity_of s i j)
          (compose.identity-codes laws n (list i) (list j)) (gd-other (list i) (list j) (list_other i)) (list_identity i j)

      pub pair_psi-column : (i j : ℕ) → pair_psi i (list j) ≡ identity_of s i j
      unfolding pair_psi b B
      pair_psi-column i j = minus_none (identity_of n (list i) (list j)) (product_of F n d g (list i) (list j)) (identity_of s i j)
          (compose.identity-codes laws n (list i) (list j)) (dg-other (list i) (list j) (list_other_Q j)) (list_identity i j)

      pub pair_psi-K : (i : ℕ) → pair_psi i K ≡ 0
      unfolding pair_psi b B
      pair_psi-K i = minus_none (identity_of n (list i) K) (product_of F n d g (list i) K) 0
          (compose.identity-codes laws n (list i) K) (dg-other (list i) K differ) (identity-other n (list i) K (list_other i))

      -- what comes through phi, psi and g: one column, one row and one product change
      pub through_phi : (m : ℕ) (v : Entries) → IsMatrix F m n v → (y j : ℕ)
          → product_of F n v pair_phi y j ≡ F.add (v y (list j)) (F.neg (F.mul (v y K) (F.mul (F.inv (d Q K)) (d Q (list j)))))
      unfolding pair_phi a
      through_phi m v v_matrix y j =
          sym (compose.plus-minus laws v (product_of F n v (product_of F n g d)) (product_of F n v (A laws n d g d_matrix g_matrix dd gg))
          (λ row column. sums.sum_below-below laws n _) split y (list j))
          ∙ ap (λ t. F.add (v y (list j)) (F.neg t))
          (sums.sum_below-single laws n (λ x. F.mul (v y x) (product_of F n g d x (list j))) K K_below (laws.mul_below _ _)
          (λ x below other. ap (F.mul (v y x)) (gd-other x (list j) other) ∙ sums.mul-zero laws (v y x))
          ∙ ap (F.mul (v y K)) (gd-row (list j)))
        where
          split : v ≡ plus_of F (product_of F n v (product_of F n g d)) (product_of F n v (A laws n d g d_matrix g_matrix dd gg))
          split = sym (matrices.product-identity laws m n v v_matrix) ∙ ap (product_of F n v) (by_A laws n d g d_matrix g_matrix dd gg)
              ∙ matrices.product-plus laws n v (product_of F n g d) (A laws n d g d_matrix g_matrix dd gg)

      pub through_psi : (m : ℕ) (w : Entries) → IsMatrix F n m w → (i x : ℕ)
          → product_of F n pair_psi w i x ≡ F.add (w (list i) x) (F.neg (F.mul (F.mul (d (list i) K) (F.inv (d Q K))) (w Q x)))
      unfolding pair_psi b
      through_psi m w w_matrix i x =
          sym (compose.plus-minus laws w (product_of F n (product_of F n d g) w) (product_of F n (B laws n d g d_matrix g_matrix dd gg) w)
          (λ row column. sums.sum_below-below laws n _) split (list i) x)
          ∙ ap (λ t. F.add (w (list i) x) (F.neg t))
          (sums.sum_below-single laws n (λ z. F.mul (product_of F n d g (list i) z) (w z x)) Q Q_below (laws.mul_below _ _)
          (λ z below other. ap (λ t. F.mul t (w z x)) (dg-other (list i) z other) ∙ sums.zero-mul laws (w z x))
          ∙ ap (λ t. F.mul t (w Q x)) (dg-column (list i)))
        where
          split : w ≡ plus_of F (product_of F n (product_of F n d g) w) (product_of F n (B laws n d g d_matrix g_matrix dd gg) w)
          split = sym (matrices.identity-product laws n m w w_matrix) ∙ ap (λ t. product_of F n t w) (by_B laws n d g d_matrix g_matrix dd gg)
              ∙ matrices.plus-product laws n (product_of F n d g) (B laws n d g d_matrix g_matrix dd gg) w

      pub pair_phi-matrix : IsMatrix F n s pair_phi
      unfolding pair_phi
      pair_phi-matrix = record {
        codes = λ y j. a_matrix.codes y (list j);
        rows_end = λ y j end. a_matrix.rows_end y (list j) end;
        columns_end = λ y j end. a_matrix.columns_end y (list j) (let far : n ≤ list j = beyond j end in omega arith);
      }

      pub pair_psi-matrix : IsMatrix F s n pair_psi
      unfolding pair_psi
      pair_psi-matrix = record {
        codes = λ i y. b_matrix.codes (list i) y;
        rows_end = λ i y end. b_matrix.rows_end (list i) y (let far : n ≤ list i = beyond i end in omega arith);
        columns_end = λ i y end. b_matrix.columns_end (list i) y end;
      }

      -- the smaller boundary as a formula, and where it has entries
      pub small_boundary-entry : (i j : ℕ) → small_boundary i j ≡ F.add (d (list i) (list j))
          (F.neg (F.mul (d (list i) K) (F.mul (F.inv (d Q K)) (d Q (list j)))))
      unfolding small_boundary da a
      small_boundary-entry i j =
          sym (compose.plus-minus laws d (product_of F n d (product_of F n g d)) (product_of F n d (A laws n d g d_matrix g_matrix dd gg))
          (λ row column. sums.sum_below-below laws n _)
          (right_A laws n d g d_matrix g_matrix dd gg d d_matrix) (list i) (list j))
          ∙ ap (λ t. F.add (d (list i) (list j)) (F.neg t))
          (sums.sum_below-single laws n (λ x. F.mul (d (list i) x) (product_of F n g d x (list j))) K K_below (laws.mul_below _ _)
          (λ x below other. ap (F.mul (d (list i) x)) (gd-other x (list j) other) ∙ sums.mul-zero laws (d (list i) x))
          ∙ ap (F.mul (d (list i) K)) (gd-row (list j)))

      -- the same in the words of the formulas
      pub small_boundary-rest : (i j : ℕ) → small_boundary i j ≡ rest_entry F d K Q (list i) (list j)
      small_boundary-rest i j =
          small_boundary-entry i j
          ∙ ap (λ t. F.add (d (list i) (list j)) (F.neg t))
          (laws.mul_comm (d (list i) K) (F.mul (F.inv (d Q K)) (d Q (list j))) ∙ ap (λ t. F.mul t (d (list i) K))
          (laws.mul_comm (F.inv (d Q K)) (d Q (list j))))

      pub pair_phi-formula : (y j : ℕ) → pair_phi y j ≡ phi_entry F n d K Q y (list j)
      unfolding pair_phi a A
      pair_phi-formula y j = ap (λ t. F.add (identity_of n y (list j)) (F.neg t)) (elim (cases_eq y K) [
        | inl same ↦
            ap (λ (k : ℕ). product_of F n g d k (list j)) same ∙ gd-row (list j) ∙ laws.mul_comm (F.inv (d Q K)) (d Q (list j))
            ∙ sym (ap (λ b. cond b (F.mul (d Q (list j)) (F.inv (d Q K))) 0) (eq-eqb y K same))
        | inr apart ↦ gd-other y (list j) apart ∙ sym (ap (λ b. cond b (F.mul (d Q (list j)) (F.inv (d Q K))) 0) (ne_eqb y K apart))
      ])

      pub pair_psi-formula : (i y : ℕ) → pair_psi i y ≡ psi_entry F n d K Q (list i) y
      unfolding pair_psi b B
      pair_psi-formula i y = ap (λ t. F.add (identity_of n (list i) y) (F.neg t)) (elim (cases_eq y Q) [
        | inl same ↦
            ap (λ (k : ℕ). product_of F n d g (list i) k) same ∙ dg-column (list i) ∙ laws.mul_comm (d (list i) K) (F.inv (d Q K))
            ∙ sym (ap (λ b. cond b (F.mul (F.inv (d Q K)) (d (list i) K)) 0) (eq-eqb y Q same))
        | inr apart ↦ dg-other (list i) y apart ∙ sym (ap (λ b. cond b (F.mul (F.inv (d Q K)) (d (list i) K)) 0) (ne_eqb y Q apart))
      ])

      pub small_boundary-matrix : IsMatrix F s s small_boundary
      unfolding small_boundary da
      small_boundary-matrix = record {
        codes = λ i j. sums.sum_below-below laws n _;
        rows_end = λ i j end. (matrices.product-is_matrix laws n n n d a d_matrix a_matrix).rows_end (list i) (list j)
            (let far : n ≤ list i = beyond i end in omega arith);
        columns_end = λ i j end. (matrices.product-is_matrix laws n n n d a d_matrix a_matrix).columns_end (list i) (list j)
            (let far : n ≤ list j = beyond j end in omega arith);
      }

      da-da : product_of F n da da ≡ zero_entries
      unfolding da
      da-da =
          ap (λ t. product_of F n t (product_of F n d a)) da-bd ∙ matrices.product-assoc laws n n b d (product_of F n d a)
          ∙ ap (product_of F n b) (sym (matrices.product-assoc laws n n d d a) ∙ ap (λ t. product_of F n t a) dd ∙ matrices.zero-product laws n a)
          ∙ matrices.product-zero laws n b

      pub small_boundary-squares : SameEntries (product_of F s small_boundary small_boundary) zero_entries
      unfolding small_boundary
      small_boundary-squares i j = others da da da-K da-Q (list i) (list j) ∙ ap (λ (e : Entries). e (list i) (list j)) da-da

      -- where the maps have entries
      pub pair_phi-entry : (y j : ℕ) → pair_phi y j ≢ 0 → (y ≡ list j) ⊎ ((y ≡ K) × (d Q (list j) ≢ 0))
      unfolding pair_phi a A
      pair_phi-entry y j some = elim (cases_eq y (list j)) [
        | inl same ↦ inl same
        | inr other ↦ elim (cases_eq y K) [
          | inr not_K ↦ absurd (some (none y (list j) other (gd-other y (list j) not_K)))
          | inl is_K ↦ inr (
            is_K,
            λ no_entry. some (none y (list j) other
                (ap (λ (k : ℕ). product_of F n g d k (list j)) is_K ∙ gd-row (list j) ∙ ap (F.mul (F.inv (d Q K))) no_entry
                ∙ sums.mul-zero laws (F.inv (d Q K)))),
          )
        ]
      ] where
        none : (y z : ℕ) → y ≢ z → product_of F n g d y z ≡ 0 → F.add (identity_of n y z) (F.neg (product_of F n g d y z)) ≡ 0
        none y z other empty = ap (λ t. F.add t (F.neg (product_of F n g d y z))) (identity-other n y z other) ∙ ap (λ t. F.add 0 (F.neg t)) empty
            ∙ laws.add_neg 0

      pub small_boundary-where : (i j : ℕ) → small_boundary i j ≢ 0 → (d (list i) (list j) ≢ 0) ⊎ ((d (list i) K ≢ 0) × (d Q (list j) ≢ 0))
      unfolding small_boundary da pair_phi
      small_boundary-where i j some =
          let found : (x : ℕ) × ((x < n) × (F.mul (d (list i) x) (a x (list j)) ≢ 0)) = sums.sum_below-not_zero laws n
          (λ x. F.mul (d (list i) x) (a x (list j))) some in
          let left = sums.mul-not_zero_left laws (d (list i) found.0) (a found.0 (list j)) found.1.1 in
          elim (pair_phi-entry found.0 j (sums.mul-not_zero_right laws (d (list i) found.0) (a found.0 (list j)) found.1.1)) [
            | inl same ↦ inl (subst (λ (x : ℕ). d (list i) x ≢ 0) same left)
            | inr pair ↦ inr (subst (λ (x : ℕ). d (list i) x ≢ 0) pair.0 left, pair.1)
          ]

      pub pair_psi-entry : (i z : ℕ) → pair_psi i z ≢ 0 → (list i ≡ z) ⊎ ((z ≡ Q) × (d (list i) K ≢ 0))
      unfolding pair_psi b B
      pair_psi-entry i z some = elim (cases_eq (list i) z) [
        | inl same ↦ inl same
        | inr other ↦ elim (cases_eq z Q) [
          | inr not_Q ↦ absurd (some (none (list i) z other (dg-other (list i) z not_Q)))
          | inl is_Q ↦ inr (
            is_Q,
            λ no_entry. some (none (list i) z other
                (ap (product_of F n d g (list i)) is_Q ∙ dg-column (list i) ∙ ap (λ t. F.mul t (F.inv (d Q K))) no_entry ∙ sums.zero-mul laws (F.inv (d Q K)))),
          )
        ]
      ] where
        none : (y z : ℕ) → y ≢ z → product_of F n d g y z ≡ 0 → F.add (identity_of n y z) (F.neg (product_of F n d g y z)) ≡ 0
        none y z other empty = ap (λ t. F.add t (F.neg (product_of F n d g y z))) (identity-other n y z other) ∙ ap (λ t. F.add 0 (F.neg t)) empty
            ∙ laws.add_neg 0

  pub through_g : (v w : Entries) (y x : ℕ) → product_of F n (product_of F n v g) w y x ≡ F.mul (F.mul (v y K) (F.inv (d Q K))) (w Q x)
  through_g v w y x =
      sums.sum_below-single laws n (λ z. F.mul (product_of F n v g y z) (w z x)) Q Q_below (laws.mul_below _ _) (λ z below other.
      ap (λ t. F.mul t (w z x)) (sums.sum_below-zero laws n _ (λ k k_below. ap (F.mul (v y k)) (g-column k z other) ∙ sums.mul-zero laws (v y k)))
      ∙ sums.zero-mul laws (w z x))
      ∙ ap (λ t. F.mul t (w Q x))
      (sums.sum_below-single laws n (λ k. F.mul (v y k) (g k Q)) K K_below (laws.mul_below _ _)
      (λ k below other. ap (F.mul (v y k)) (g-row k Q other) ∙ sums.mul-zero laws (v y k))
      ∙ ap (F.mul (v y K)) g-at)

  pub g-entry : (y x : ℕ) → g y x ≢ 0 → (y ≡ K) × (x ≡ Q)
  g-entry y x some = elim (cases_eq y K) [
    | inr other ↦ absurd (some (g-row y x other))
    | inl row ↦ elim (cases_eq x Q) [ inr other ↦ absurd (some (g-column y x other)) | inl column ↦ (row, column) ]
  ]
