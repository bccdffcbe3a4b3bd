-- Equivalences one after another.
use Rattle.std.proofs.Common.{◌≡◌, ◌≢◌, ℕ, ◌+◌, ◌<◌, ap, sym, ◌∙◌, arith, inl, inr}
use Rattle.std.proofs.lemmas.Bool.{cases_eq}
use Rattle.conley_field.specs.Arithmetic.{Arithmetic, IsField}
use Rattle.conley_algebra.specs.Entries.{Entries, product_of, plus_of, minus_of, identity_of, SameEntries, OnlyWhere}
use Rattle.conley_homotopy.specs.Graded.{Generators, IsPreorder}
use Rattle.conley_homotopy.specs.Equivalence.{Maps, IsGradedEquivalence, composed, IsLevel, IsRaised}
use Rattle.conley_algebra.proofs.SumLemmas as sums
use Rattle.conley_algebra.proofs.MatrixLemmas as matrices
use Rattle.conley_algebra.proofs.MatrixLemmas.{entries_path}

module _ {F : Arithmetic} (laws : IsField F) where
  -- a product's entry that isn't zero runs over some place between
  pub product-OnlyWhere : {R S T : ℕ → ℕ → Type 0} (n : ℕ) (a b : Entries) → ((row k column : ℕ) → R row k → S k column → T row column)
      → OnlyWhere R a → OnlyWhere S b → OnlyWhere T (product_of F n a b)
  product-OnlyWhere {R} {S} {T} n a b through left right row column not_zero =
      let some : (k : ℕ) × ((k < n) × (F.mul (a row k) (b k column) ≢ 0)) = sums.sum_below-not_zero laws n (λ k. F.mul (a row k) (b k column)) not_zero in
      through row some.0 column
      (left row some.0 (sums.mul-not_zero_left laws (a row some.0) (b some.0 column) some.1.1))
      (right some.0 column (sums.mul-not_zero_right laws (a row some.0) (b some.0 column) some.1.1))

  pub plus-OnlyWhere : {R : ℕ → ℕ → Type 0} (a b : Entries) → OnlyWhere R a → OnlyWhere R b → OnlyWhere R (plus_of F a b)
  plus-OnlyWhere a b left right row column not_zero = elim (cases_eq (a row column) 0) [
    | inl none ↦ right row column (λ e. not_zero (ap (λ x. F.add x (b row column)) none ∙ ap (F.add 0) e ∙ sums.add_zero_zero laws))
    | inr some ↦ left row column some
  ]

-- one matrix between two others, of n places each
abbrev between : Arithmetic → ℕ → Entries → Entries → Entries → Entries
between F n u v k = product_of F n (product_of F n u k) v

module _ {F : Arithmetic} (laws : IsField F) (n : ℕ) (u v : Entries) where
  between-plus : (k l : Entries) → between F n u v (plus_of F k l) ≡ plus_of F (between F n u v k) (between F n u v l)
  between-plus k l =
      ap (λ t. product_of F n t v) (matrices.product-plus laws n u k l) ∙ matrices.plus-product laws n (product_of F n u k) (product_of F n u l) v

  -- a boundary that u and v carry over passes from outside to inside
  between-left : (m : ℕ) (outer inner k : Entries) → product_of F m outer u ≡ product_of F n u inner
      → product_of F m outer (between F n u v k) ≡ between F n u v (product_of F n inner k)
  between-left m outer inner k carried =
      sym (matrices.product-assoc laws m n outer (product_of F n u k) v)
      ∙ ap (λ t. product_of F n t v)
      (sym (matrices.product-assoc laws m n outer u k) ∙ ap (λ t. product_of F n t k) carried ∙ matrices.product-assoc laws n n u inner k)

  between-right : (m : ℕ) (outer inner k : Entries) → product_of F n inner v ≡ product_of F m v outer
      → product_of F m (between F n u v k) outer ≡ between F n u v (product_of F n k inner)
  between-right m outer inner k carried =
      matrices.product-assoc laws n m (product_of F n u k) v outer ∙ ap (product_of F n (product_of F n u k)) (sym carried)
      ∙ sym (matrices.product-assoc laws n n (product_of F n u k) inner v)
      ∙ ap (λ t. product_of F n t v) (matrices.product-assoc laws n n u k inner)

  between-product : (m : ℕ) (k l : Entries) → between F n u v (product_of F m k l) ≡ product_of F m (product_of F n u k) (product_of F n l v)
  between-product m k l =
      ap (λ t. product_of F n t v) (sym (matrices.product-assoc laws n m u k l)) ∙ matrices.product-assoc laws m n (product_of F n u k) l v

  -- a homotopy between u and v
  between-homotopy : (m : ℕ) (outer inner g k : Entries) → product_of F m outer u ≡ product_of F n u inner → product_of F n inner v ≡ product_of F m v outer
      → plus_of F (product_of F m outer (plus_of F g (between F n u v k))) (product_of F m (plus_of F g (between F n u v k)) outer)
      ≡ plus_of F (plus_of F (product_of F m outer g) (product_of F m g outer)) (between F n u v (plus_of F (product_of F n inner k) (product_of F n k inner)))
  between-homotopy m outer inner g k left right =
      let G = between F n u v k in
      ap (λ t. plus_of F t (product_of F m (plus_of F g G) outer)) (matrices.product-plus laws m outer g G)
      ∙ ap (plus_of F (plus_of F (product_of F m outer g) (product_of F m outer G))) (matrices.plus-product laws m g G outer)
      ∙ matrices.plus-swap laws (product_of F m outer g) (product_of F m outer G) (product_of F m g outer) (product_of F m G outer)
      ∙ ap (plus_of F (plus_of F (product_of F m outer g) (product_of F m g outer)))
      (ap (λ t. plus_of F t (product_of F m G outer)) (between-left m outer inner k left)
      ∙ ap (plus_of F (between F n u v (product_of F n inner k))) (between-right m outer inner k right)
      ∙ sym (between-plus (product_of F n inner k) (product_of F n k inner)))

module _ {F : Arithmetic} (laws : IsField F) where
  pub identity-codes : (n row column : ℕ) → identity_of n row column < F.order
  identity-codes n row column = let above = laws.one_below in grind arith

  pub minus-plus : (a b c : Entries) → ((row column : ℕ) → a row column < F.order) → ((row column : ℕ) → c row column < F.order)
      → SameEntries (minus_of F a b) c → a ≡ plus_of F b c
  minus-plus a b c a_codes c_codes same = entries_path _ _ (λ row column.
      sums.minus-plus laws (a row column) (b row column) (c row column) (a_codes row column) (c_codes row column) (same row column))

  pub plus-minus : (a b c : Entries) → ((row column : ℕ) → c row column < F.order) → a ≡ plus_of F b c → SameEntries (minus_of F a b) c
  plus-minus a b c c_codes same row column =
      sums.plus-minus laws (a row column) (b row column) (c row column) (c_codes row column) (ap (λ (e : Entries). e row column) same)

module _ {F : Arithmetic} (laws : IsField F) {below : ℕ → ℕ → Type 0} (order : IsPreorder below) where
  level-through : (A B C : Generators) (x k g : ℕ) → IsLevel below A B x k → IsLevel below B C k g → IsLevel below A C x g
  level-through A B C x k g first second = (first.0 ∙ second.0, order.transitive _ _ _ first.1 second.1)

  raised-through : (A B : Generators) (x k y : ℕ) → IsLevel below A B x k → IsRaised below B k y → (A.dim x ≡ B.dim y + 1) × below (A.base x) (B.base y)
  raised-through A B x k y first second = (first.0 ∙ second.0, order.transitive _ _ _ first.1 second.1)

  raised-back : (A B : Generators) (x k y : ℕ) → (A.dim x ≡ B.dim k + 1) × below (A.base x) (B.base k) → IsLevel below B A k y → IsRaised below A x y
  raised-back A B x k y first second = (first.0 ∙ ap (λ (n : ℕ). n + 1) second.0, order.transitive _ _ _ first.1 second.1)

  -- a homotopy of B seen in A
  carried-down : (A B : Generators) (u k v : Entries) → OnlyWhere (IsLevel below A B) u → OnlyWhere (IsRaised below B) k → OnlyWhere (IsLevel below B A) v
      → OnlyWhere (IsRaised below A) (between F B.count u v k)
  carried-down A B u k v u_down k_down v_down =
      product-OnlyWhere laws {R = λ x y. (A.dim x ≡ B.dim y + 1) × below (A.base x) (B.base y)} {S = IsLevel below B A} {T = IsRaised below A} B.count
      (product_of F B.count u k) v (raised-back A B)
      (product-OnlyWhere laws {R = IsLevel below A B} {S = IsRaised below B} {T = λ x y. (A.dim x ≡ B.dim y + 1) × below (A.base x) (B.base y)} B.count u k
      (raised-through A B) u_down k_down) v_down

  -- two graded equivalences make one
  pub composed-IsGradedEquivalence : (A B C : Generators) (first second : Maps) → IsGradedEquivalence F below A B first → IsGradedEquivalence F below B C second
      → IsGradedEquivalence F below A C (composed F B.count first second)
  composed-IsGradedEquivalence A B C first second f s = record {
    phi_matrix = matrices.product-is_matrix laws A.count B.count C.count first.phi second.phi f.phi_matrix s.phi_matrix;
    psi_matrix = matrices.product-is_matrix laws C.count B.count A.count second.psi first.psi s.psi_matrix f.psi_matrix;
    gamma_matrix = matrices.plus-is_matrix laws A.count A.count _ _ f.gamma_matrix
        (matrices.product-is_matrix laws A.count B.count A.count _ _ (matrices.product-is_matrix laws A.count B.count B.count _ _ f.phi_matrix s.gamma_matrix)
        f.psi_matrix);
    gamma2_matrix = matrices.plus-is_matrix laws C.count C.count _ _ s.gamma2_matrix
        (matrices.product-is_matrix laws C.count B.count C.count _ _ (matrices.product-is_matrix laws C.count B.count B.count _ _ s.psi_matrix f.gamma2_matrix)
        s.phi_matrix);
    phi_down = product-OnlyWhere laws {R = IsLevel below A B} {S = IsLevel below B C} {T = IsLevel below A C} B.count first.phi second.phi
        (level-through A B C) f.phi_down s.phi_down;
    psi_down = product-OnlyWhere laws {R = IsLevel below C B} {S = IsLevel below B A} {T = IsLevel below C A} B.count second.psi first.psi
        (level-through C B A) s.psi_down f.psi_down;
    gamma_down = plus-OnlyWhere laws {R = IsRaised below A} first.gamma _ f.gamma_down (carried-down A B first.phi second.gamma first.psi f.phi_down
        s.gamma_down f.psi_down);
    gamma2_down = plus-OnlyWhere laws {R = IsRaised below C} second.gamma2 _ s.gamma2_down
        (carried-down C B second.psi first.gamma2 second.phi s.psi_down f.gamma2_down s.phi_down);
    phi_commutes = at_places (
        sym (matrices.product-assoc laws A.count B.count d first.phi second.phi) ∙ ap (λ t. P B.count t second.phi) phi_1
        ∙ matrices.product-assoc laws B.count B.count first.phi B.boundary second.phi ∙ ap (P B.count first.phi) phi_2
        ∙ sym (matrices.product-assoc laws B.count C.count first.phi second.phi C.boundary));
    psi_commutes = at_places (
        sym (matrices.product-assoc laws C.count B.count C.boundary second.psi first.psi) ∙ ap (λ t. P B.count t first.psi) psi_2
        ∙ matrices.product-assoc laws B.count B.count second.psi B.boundary first.psi ∙ ap (P B.count second.psi) psi_1
        ∙ sym (matrices.product-assoc laws B.count A.count second.psi first.psi d));
    phi_psi = plus-minus laws I_A _ _ (λ row column. laws.add_below _ _)
        (first_home ∙ ap (λ t. plus_of F t H_A) (into_phi_psi ∙ ap (S_A) second_home ∙ between-plus laws B.count first.phi first.psi
        (P C.count second.phi second.psi) K_B
        ∙ ap (λ t. plus_of F t (S_A K_B)) (between-product laws B.count first.phi first.psi C.count second.phi second.psi))
        ∙ matrices.plus-assoc laws (P C.count big_phi big_psi) (S_A K_B) H_A ∙ ap (plus_of F (P C.count big_phi big_psi)) (matrices.plus-comm laws (S_A K_B) H_A
        ∙ sym (between-homotopy laws B.count first.phi first.psi A.count A.boundary B.boundary first.gamma second.gamma phi_1 psi_1)));
    psi_phi = plus-minus laws (P A.count big_psi big_phi) I_C _ (λ row column. laws.add_below _ _)
        (sym (between-product laws B.count second.psi second.phi A.count first.psi first.phi) ∙ ap S_C first_back
        ∙ between-plus laws B.count second.psi second.phi I_B H_B
        ∙ ap (λ t. plus_of F t (S_C H_B)) (into_psi_phi ∙ second_back)
        ∙ matrices.plus-assoc laws I_C K_C (S_C H_B)
        ∙ ap (plus_of F I_C) (sym (between-homotopy laws B.count second.psi second.phi C.count C.boundary B.boundary second.gamma2 first.gamma2 psi_2 phi_2)));
  } where
    P : ℕ → Entries → Entries → Entries
    P = product_of F

    at_places : {a b : Entries} → a ≡ b → SameEntries a b
    at_places e row column = ap (λ (m : Entries). m row column) e

    d : Entries
    d = A.boundary

    phi_1 : product_of F A.count A.boundary first.phi ≡ product_of F B.count first.phi B.boundary
    phi_1 = entries_path _ _ f.phi_commutes

    phi_2 : product_of F B.count B.boundary second.phi ≡ product_of F C.count second.phi C.boundary
    phi_2 = entries_path _ _ s.phi_commutes

    psi_1 : product_of F B.count B.boundary first.psi ≡ product_of F A.count first.psi A.boundary
    psi_1 = entries_path _ _ f.psi_commutes

    psi_2 : product_of F C.count C.boundary second.psi ≡ product_of F B.count second.psi B.boundary
    psi_2 = entries_path _ _ s.psi_commutes

    I_A : Entries
    I_A = identity_of A.count

    I_B : Entries
    I_B = identity_of B.count

    I_C : Entries
    I_C = identity_of C.count

    H_A : Entries
    H_A = plus_of F (P A.count A.boundary first.gamma) (P A.count first.gamma A.boundary)

    H_B : Entries
    H_B = plus_of F (P B.count B.boundary first.gamma2) (P B.count first.gamma2 B.boundary)

    K_B : Entries
    K_B = plus_of F (P B.count B.boundary second.gamma) (P B.count second.gamma B.boundary)

    K_C : Entries
    K_C = plus_of F (P C.count C.boundary second.gamma2) (P C.count second.gamma2 C.boundary)

    big_phi : Entries
    big_phi = P B.count first.phi second.phi

    big_psi : Entries
    big_psi = P B.count second.psi first.psi

    S_A : Entries → Entries
    S_A = between F B.count first.phi first.psi

    S_C : Entries → Entries
    S_C = between F B.count second.psi second.phi

    first_home : I_A ≡ plus_of F (P B.count first.phi first.psi) H_A
    first_home = minus-plus laws I_A (P B.count first.phi first.psi) H_A (identity-codes laws A.count) (λ row column. laws.add_below _ _) f.phi_psi

    second_home : I_B ≡ plus_of F (P C.count second.phi second.psi) K_B
    second_home = minus-plus laws I_B (P C.count second.phi second.psi) K_B (identity-codes laws B.count) (λ row column. laws.add_below _ _) s.phi_psi

    first_back : P A.count first.psi first.phi ≡ plus_of F I_B H_B
    first_back = minus-plus laws (P A.count first.psi first.phi) I_B H_B (λ row column. sums.sum_below-below laws A.count _) (λ row column. laws.add_below _ _)
        f.psi_phi

    second_back : P B.count second.psi second.phi ≡ plus_of F I_C K_C
    second_back = minus-plus laws (P B.count second.psi second.phi) I_C K_C (λ row column. sums.sum_below-below laws B.count _)
        (λ row column. laws.add_below _ _) s.psi_phi

    into_phi_psi : P B.count first.phi first.psi ≡ S_A I_B
    into_phi_psi = sym (ap (λ t. P B.count t first.psi) (matrices.product-identity laws A.count B.count first.phi f.phi_matrix))

    into_psi_phi : S_C I_B ≡ P B.count second.psi second.phi
    into_psi_phi = ap (λ t. P B.count t second.phi) (matrices.product-identity laws C.count B.count second.psi s.psi_matrix)
