-- What is left of the identity without g d and without d g, for matrices d and g of square zero.
use Rattle.std.proofs.Common.{◌≡◌, ℕ, ◌<◌, ap, sym, ◌∙◌, arith, refl, inl, inr}
use Rattle.std.proofs.lemmas.Bool.{cases_eq}
use Rattle.conley_field.specs.Arithmetic.{Arithmetic, IsField}
use Rattle.conley_algebra.specs.Entries.{Entries, product_of, plus_of, minus_of, identity_of, zero_entries, IsMatrix}
use Rattle.conley_algebra.proofs.SumLemmas as sums
use Rattle.conley_algebra.proofs.MatrixLemmas as matrices
use Rattle.conley_algebra.proofs.MatrixLemmas.{entries_path, identity-same, identity-other, identity-end}
use Rattle.conley_homotopy.proofs.ComposeLemmas as compose

module _ {F : Arithmetic} (laws : IsField F) (n : ℕ) where
  P : Entries → Entries → Entries
  P = product_of F n

  I : Entries
  I = identity_of n

  zero-plus : (a : Entries) → ((row column : ℕ) → a row column < F.order) → plus_of F zero_entries a ≡ a
  zero-plus a codes = matrices.plus-comm laws zero_entries a ∙ matrices.plus-zero laws a codes

  pub neg-zero : F.neg 0 ≡ 0
  neg-zero = sym (sums.neg-unique laws 0 0 (sums.zero_below laws) (sums.add_zero_zero laws))

  minus-is_matrix : (a b : Entries) → IsMatrix F n n a → IsMatrix F n n b → IsMatrix F n n (minus_of F a b)
  minus-is_matrix a b left right = record {
    codes = λ row column. laws.add_below (a row column) (F.neg (b row column));
    rows_end = λ row column end. ap (λ t. F.add t (F.neg (b row column))) (left.rows_end row column end)
        ∙ ap (λ t. F.add 0 (F.neg t)) (right.rows_end row column end) ∙ laws.add_neg 0;
    columns_end = λ row column end. ap (λ t. F.add t (F.neg (b row column))) (left.columns_end row column end)
        ∙ ap (λ t. F.add 0 (F.neg t)) (right.columns_end row column end) ∙ laws.add_neg 0;
  }

  pub identity-is_matrix : IsMatrix F n n (identity_of n)
  identity-is_matrix = record {
    codes = compose.identity-codes laws n;
    rows_end = λ row column end. identity-end n row column end;
    columns_end = λ row column end. elim (cases_eq row column) [
      | inl same ↦ identity-end n row column (omega arith)
      | inr differs ↦ identity-other n row column differs
    ];
  }

  module _ (d g : Entries) (d_matrix : IsMatrix F n n d) (g_matrix : IsMatrix F n n g)
      (dd : product_of F n d d ≡ zero_entries) (gg : product_of F n g g ≡ zero_entries) where
    -- what is left of the identity without g d, and without d g
    unfoldable pub A : Entries
    A = minus_of F (identity_of n) (product_of F n g d)

    unfoldable pub B : Entries
    B = minus_of F (identity_of n) (product_of F n d g)

    pub A_matrix : IsMatrix F n n A
    unfolding A
    A_matrix = minus-is_matrix (identity_of n) (product_of F n g d) identity-is_matrix (matrices.product-is_matrix laws n n n g d g_matrix d_matrix)

    pub B_matrix : IsMatrix F n n B
    unfolding B
    B_matrix = minus-is_matrix (identity_of n) (product_of F n d g) identity-is_matrix (matrices.product-is_matrix laws n n n d g d_matrix g_matrix)

    pub by_A : identity_of n ≡ plus_of F (product_of F n g d) A
    unfolding A
    by_A = compose.minus-plus laws (identity_of n) (product_of F n g d) (minus_of F (identity_of n) (product_of F n g d)) (compose.identity-codes laws n)
        (λ row column. laws.add_below _ _) (λ row column. refl)

    pub by_B : identity_of n ≡ plus_of F (product_of F n d g) B
    unfolding B
    by_B = compose.minus-plus laws (identity_of n) (product_of F n d g) (minus_of F (identity_of n) (product_of F n d g)) (compose.identity-codes laws n)
        (λ row column. laws.add_below _ _) (λ row column. refl)

    -- a matrix as two parts, on either side
    left_A : (m : Entries) → IsMatrix F n n m → m ≡ plus_of F (product_of F n (product_of F n g d) m) (product_of F n A m)
    left_A m is = sym (matrices.identity-product laws n n m is) ∙ ap (λ t. product_of F n t m) by_A ∙ matrices.plus-product laws n (product_of F n g d) A m

    pub right_A : (m : Entries) → IsMatrix F n n m → m ≡ plus_of F (product_of F n m (product_of F n g d)) (product_of F n m A)
    right_A m is = sym (matrices.product-identity laws n n m is) ∙ ap (product_of F n m) by_A ∙ matrices.product-plus laws n m (product_of F n g d) A

    pub left_B : (m : Entries) → IsMatrix F n n m → m ≡ plus_of F (product_of F n (product_of F n d g) m) (product_of F n B m)
    left_B m is = sym (matrices.identity-product laws n n m is) ∙ ap (λ t. product_of F n t m) by_B ∙ matrices.plus-product laws n (product_of F n d g) B m

    right_B : (m : Entries) → IsMatrix F n n m → m ≡ plus_of F (product_of F n m (product_of F n d g)) (product_of F n m B)
    right_B m is = sym (matrices.product-identity laws n n m is) ∙ ap (product_of F n m) by_B ∙ matrices.product-plus laws n m (product_of F n d g) B

    codes_of : (a b : Entries) → (row column : ℕ) → product_of F n a b row column < F.order
    codes_of a b row column = sums.sum_below-below laws n _

    drop_zero : (m z a b : Entries) → m ≡ plus_of F z (product_of F n a b) → z ≡ zero_entries → m ≡ product_of F n a b
    drop_zero m z a b split none = split ∙ ap (λ t. plus_of F t (product_of F n a b)) none ∙ zero-plus (product_of F n a b) (codes_of a b)

    -- d A = A d A and so on
    gd-d : (m : Entries) → product_of F n (product_of F n g d) (product_of F n d m) ≡ zero_entries
    gd-d m =
        matrices.product-assoc laws n n g d (product_of F n d m) ∙ ap (product_of F n g) (sym (matrices.product-assoc laws n n d d m)
        ∙ ap (λ t. product_of F n t m) dd ∙ matrices.zero-product laws n m)
        ∙ matrices.product-zero laws n g

    d-dg : (m : Entries) → product_of F n (product_of F n m d) (product_of F n d g) ≡ zero_entries
    d-dg m =
        matrices.product-assoc laws n n m d (product_of F n d g) ∙ ap (product_of F n m) (sym (matrices.product-assoc laws n n d d g)
        ∙ ap (λ t. product_of F n t g) dd ∙ matrices.zero-product laws n g)
        ∙ matrices.product-zero laws n m

    pub A-dA : product_of F n A (product_of F n d A) ≡ product_of F n d A
    A-dA = sym (drop_zero (product_of F n d A) _ A (product_of F n d A) (left_A (product_of F n d A)
        (matrices.product-is_matrix laws n n n d A d_matrix A_matrix)) (gd-d A))

    pub A-dg : product_of F n A (product_of F n d g) ≡ product_of F n d g
    A-dg = sym (drop_zero (product_of F n d g) _ A (product_of F n d g) (left_A (product_of F n d g)
        (matrices.product-is_matrix laws n n n d g d_matrix g_matrix)) (gd-d g))

    pub Bd-B : product_of F n (product_of F n B d) B ≡ product_of F n B d
    Bd-B = sym (drop_zero (product_of F n B d) _ (product_of F n B d) B (right_B (product_of F n B d)
        (matrices.product-is_matrix laws n n n B d B_matrix d_matrix)) (d-dg B))

    pub B-g : product_of F n B g ≡ g
    B-g = sym (drop_zero g _ B g (left_B g g_matrix) (matrices.product-assoc laws n n d g g ∙ ap (product_of F n d) gg ∙ matrices.product-zero laws n d))

    -- the identity is A B, d g and g d together
    pub by_AB : identity_of n ≡ plus_of F (product_of F n g d) (plus_of F (product_of F n d g) (product_of F n A B))
    by_AB = by_A ∙ ap (plus_of F (product_of F n g d)) (right_B A A_matrix ∙ ap (λ t. plus_of F t (product_of F n A B)) A-dg)

    pub by_BA : identity_of n ≡ plus_of F (product_of F n d g) (plus_of F (product_of F n g d) (product_of F n B A))
    by_BA = by_B ∙ ap (plus_of F (product_of F n d g)) (right_A B B_matrix ∙ ap (λ t. plus_of F t (product_of F n B A))
        (sym (matrices.product-assoc laws n n B g d) ∙ ap (λ t. product_of F n t d) B-g))

    -- d A and B d are one
    pub dA-Bd : product_of F n d A ≡ product_of F n B d
    dA-Bd =
        let X = product_of F n d (product_of F n g d) in
        sym (entries_path (minus_of F d X) (product_of F n d A) (compose.plus-minus laws d X (product_of F n d A) (codes_of d A) (right_A d d_matrix)))
        ∙ entries_path (minus_of F d X) (product_of F n B d) (compose.plus-minus laws d X (product_of F n B d) (codes_of B d)
        (left_B d d_matrix ∙ ap (λ t. plus_of F t (product_of F n B d)) (matrices.product-assoc laws n n d g d)))
