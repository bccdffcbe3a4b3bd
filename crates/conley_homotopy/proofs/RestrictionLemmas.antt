-- A graded equivalence, restricted to one grade, gives a basis of its homology.
use Rattle.std.proofs.Common.{◌≡◌, ◌≢◌, ℕ, ◌<◌, Bool, true, false, cond, ap, sym, ◌∙◌, arith, refl, inl, inr, ◌⊎◌, subst}
use mathlib.Core.Path.{fun_ext}
use Rattle.std.proofs.lemmas.Bool.{cases_Bool, cases_eq, true≢false}
use Rattle.conley_field.specs.Arithmetic.{Arithmetic, IsField}
use Rattle.conley_algebra.specs.Sum.{sum_below}
use Rattle.conley_algebra.specs.Entries.{Vector, Entries, image_of, product_of, plus_of, identity_of}
use Rattle.conley_homotopy.specs.Graded.{Generators, IsPreorder, IsGradedComplex, IsStrict}
use Rattle.conley_homotopy.specs.Equivalence.{Maps, IsGradedEquivalence}
use Rattle.conley_algebra.specs.Homology.{combination, IsExpressed, IsRelativeCycle, IsRelativeBoundary, IsHomologyBasis}
use Rattle.conley_algebra.proofs.SumLemmas as sums
use Rattle.conley_algebra.proofs.MatrixLemmas as matrices
use Rattle.conley_algebra.proofs.MatrixLemmas.{entries_path, identity-same, identity-other}
use Rattle.conley_algebra.specs.Listing.{IsListing}
use Rattle.conley_algebra.proofs.ImageLemmas.{term_zero, image-image, image-plus, image-congr, image-add, image-combination, image-not_zero, sum_by_list}
use Rattle.conley_homotopy.specs.Restriction.{IsClassAround}
use Rattle.conley_homotopy.proofs.ComposeLemmas as compose

module _ {F : Arithmetic} (laws : IsField F) {below : ℕ → ℕ → Type 0} (order : IsPreorder below) (L S : Generators) (m : Maps)
    (eq : IsGradedEquivalence F below L S m) (L_complex : IsGradedComplex F below L) (S_complex : IsGradedComplex F below S) (strict : IsStrict below S)
    (p : ℕ) (inside : ℕ → Bool) (closure mouth : ℕ → Type 0) (around : IsClassAround below L p inside closure mouth) where
  -- the part on the class
  kept : Vector → Vector
  kept v x = cond (inside x) (v x) 0

  kept-inside : (v : Vector) (x : ℕ) → inside x ≡ true → kept v x ≡ v x
  unfolding kept
  kept-inside v x h = ap (λ b. cond b (v x) 0) h

  kept-outside : (v : Vector) (x : ℕ) → inside x ≡ false → kept v x ≡ 0
  unfolding kept
  kept-outside v x h = ap (λ b. cond b (v x) 0) h

  in_or_out : (x : ℕ) → (inside x ≡ true) ⊎ (inside x ≡ false)
  in_or_out x = cases_Bool (inside x)

  kept-not_zero : (v : Vector) (x : ℕ) → kept v x ≢ 0 → (inside x ≡ true) × (v x ≢ 0)
  kept-not_zero v x some = elim (in_or_out x) [
    | inl h ↦ (h, λ none. some (kept-inside v x h ∙ none))
    | inr h ↦ absurd (some (kept-outside v x h))
  ]

  kept-below : (v : Vector) → ((x : ℕ) → v x < F.order) → (x : ℕ) → kept v x < F.order
  kept-below v codes x = elim (in_or_out x) [
    | inl h ↦ subst (λ (t : ℕ). t < F.order) (sym (kept-inside v x h)) (codes x)
    | inr h ↦ subst (λ (t : ℕ). t < F.order) (sym (kept-outside v x h)) (sums.zero_below laws)
  ]

  -- a row at or above the class reads of a vector below it the part on the class alone
  only_inside : (a : Entries) (row grade : ℕ) → below p grade → ((x : ℕ) → a row x ≢ 0 → below grade (L.base x)) → (v : Vector)
      → ((x : ℕ) → v x ≢ 0 → below (L.base x) p)
      → image_of F L.count a v row ≡ image_of F L.count a (kept v) row
  only_inside a row grade above down v low = sums.sum_below-congr laws L.count _ _ (λ x x_below. elim (in_or_out x) [
    | inl h ↦ ap (F.mul (a row x)) (sym (kept-inside v x h))
    | inr h ↦
        term_zero laws (a row x) (v x) (λ some other. true≢false (sym (around.grade_inside x (low x other) (order.transitive _ _ _ above (down x some))) ∙ h))
        ∙ sym (ap (F.mul (a row x)) (kept-outside v x h) ∙ sums.mul-zero laws (a row x))
  ])

  kept-kept : (v : Vector) (x : ℕ) → kept (kept v) x ≡ kept v x
  kept-kept v x = elim (in_or_out x) [
    | inl h ↦ kept-inside (kept v) x h
    | inr h ↦ kept-outside (kept v) x h ∙ sym (kept-outside v x h)
  ]

  -- a generator of the grade
  abbrev InGrade : ℕ → Type 0
  InGrade g = below (S.base g) p × below p (S.base g)

  -- its cycle: its column of phi, on the class
  pub cycle : ℕ → Vector
  cycle g = kept (λ x. m.phi x g)

  phi_low : (g : ℕ) → InGrade g → (x : ℕ) → m.phi x g ≢ 0 → below (L.base x) p
  phi_low g grade x some = order.transitive _ _ _ (eq.phi_down x g some).1 grade.0

  cycle-boundary_inside : (g : ℕ) → InGrade g → (y : ℕ) → inside y ≡ true → image_of F L.count L.boundary (cycle g) y ≡ 0
  unfolding cycle
  cycle-boundary_inside g grade y h =
      sym (only_inside L.boundary y (L.base y) (around.inside_grade y h).1 (λ x some. L_complex.down y x some) (λ x. m.phi x g) (phi_low g grade))
      ∙ eq.phi_commutes y g
      ∙ sums.sum_below-zero laws S.count _ (λ k below_k. term_zero laws (m.phi y k) (S.boundary k g) (λ some other.
      strict k g other (order.transitive _ _ _ grade.0 (order.transitive _ _ _ (around.inside_grade y h).1 (eq.phi_down y k some).1))))

  image-closure : (v : Vector) → ((x : ℕ) → v x ≢ 0 → closure x) → (y : ℕ) → image_of F L.count L.boundary v y ≢ 0 → closure y
  image-closure v on y some = (let x = image-not_zero laws L.count L.boundary v y some in around.closure_faces y x.0 x.1.0 (on x.0 x.1.1))

  cycle-closure : (g x : ℕ) → cycle g x ≢ 0 → closure x
  unfolding cycle
  cycle-closure g x some = around.inside_closure x (kept-not_zero (λ x. m.phi x g) x some).0

  cycle-codes : (g x : ℕ) → cycle g x < F.order
  unfolding cycle
  cycle-codes g x = kept-below (λ x. m.phi x g) (λ x. eq.phi_matrix.codes x g) x

  pub cycle-IsRelativeCycle : (g : ℕ) → InGrade g → IsRelativeCycle F L.count L.boundary closure mouth (cycle g)
  cycle-IsRelativeCycle g grade = record {
    chain = record { codes = cycle-codes g; only = cycle-closure g };
    on_mouth = record {
      codes = λ y. sums.sum_below-below laws L.count _;
      only = λ y some. elim (in_or_out y) [
        | inl h ↦ absurd (some (cycle-boundary_inside g grade y h))
        | inr h ↦ around.rest_mouth y (image-closure (cycle g) (cycle-closure g) y some) h
      ];
    };
  }

  cycle-dim : (g x : ℕ) → cycle g x ≢ 0 → L.dim x ≡ S.dim g
  unfolding cycle
  cycle-dim g x some = (eq.phi_down x g (kept-not_zero (λ x. m.phi x g) x some).1).0

  -- the scalar of a generator in a vector
  scalar : Vector → Vector
  scalar v g = image_of F L.count m.psi (kept v) g

  psi_inside : (g : ℕ) → InGrade g → (v : Vector) → ((x : ℕ) → v x ≢ 0 → below (L.base x) p) → image_of F L.count m.psi v g ≡ scalar v g
  unfolding scalar
  psi_inside g grade v low = only_inside m.psi g (S.base g) grade.1 (λ x some. (eq.psi_down g x some).1) v low

  scalar-cycle : (g h : ℕ) → InGrade g → InGrade h → scalar (cycle h) g ≡ identity_of S.count g h
  unfolding cycle scalar
  scalar-cycle g h g_grade h_grade =
      sums.sum_below-congr laws L.count _ _ (λ x x_below. ap (F.mul (m.psi g x)) (kept-kept (λ x. m.phi x h) x))
      ∙ sym (psi_inside g g_grade (λ x. m.phi x h) (phi_low h h_grade))
      ∙ sums.minus-plus laws (product_of F L.count m.psi m.phi g h) (identity_of S.count g h) _ (sums.sum_below-below laws L.count _) (laws.add_below _ _)
      (eq.psi_phi g h)
      ∙ ap (F.add (identity_of S.count g h))
      (ap (λ t. F.add t (product_of F S.count m.gamma2 S.boundary g h)) (sums.sum_below-zero laws S.count _
      (λ l l_below. term_zero laws (S.boundary g l) (m.gamma2 l h) (λ some other.
      strict g l some (order.transitive _ _ _ (eq.gamma2_down l h other).1 (order.transitive _ _ _ h_grade.0 g_grade.1)))))
      ∙ ap (F.add 0) (sums.sum_below-zero laws S.count _ (λ l l_below. term_zero laws (m.gamma2 g l) (S.boundary l h) (λ some other.
      strict l h other (order.transitive _ _ _ h_grade.0 (order.transitive _ _ _ g_grade.1 (eq.gamma2_down g l some).1)))))
      ∙ sums.add_zero_zero laws)
      ∙ laws.add_zero (identity_of S.count g h) (compose.identity-codes laws S.count g h)

  -- on the class a relative boundary is the boundary of a chain on the class
  kept-boundary : (b : Vector) (is : IsRelativeBoundary F L.count L.boundary closure mouth b) (x : ℕ)
      → kept b x ≡ kept (image_of F L.count L.boundary (kept is.of)) x
  kept-boundary b is x = elim (in_or_out x) [
    | inl h ↦
        kept-inside b x h ∙ is.is x ∙ ap (F.add (image_of F L.count L.boundary is.of x)) (no_part h)
        ∙ laws.add_zero _ (sums.sum_below-below laws L.count _)
        ∙ only_inside L.boundary x (L.base x) (around.inside_grade x h).1 (λ y some. L_complex.down x y some) is.of
        (λ y some. around.closure_below y (is.of_chain.only y some))
        ∙ sym (kept-inside (image_of F L.count L.boundary (kept is.of)) x h)
    | inr h ↦ kept-outside b x h ∙ sym (kept-outside (image_of F L.count L.boundary (kept is.of)) x h)
  ] where
    no_part : inside x ≡ true → is.part x ≡ 0
    no_part h = elim (cases_eq (is.part x) 0) [ inl none ↦ none | inr some ↦ absurd (true≢false (sym h ∙ around.mouth_outside x (is.part_chain.only x some))) ]

  -- a relative boundary has no scalars
  scalar-boundary : (b : Vector) (g : ℕ) → InGrade g → IsRelativeBoundary F L.count L.boundary closure mouth b → scalar b g ≡ 0
  unfolding scalar
  scalar-boundary b g grade is =
      let w = kept is.of in
      sums.sum_below-congr laws L.count _ _ (λ x x_below. ap (F.mul (m.psi g x)) (kept-boundary b is x))
      ∙ sym (psi_inside g grade (image_of F L.count L.boundary w) (λ x some.
      let k = image-not_zero laws L.count L.boundary w x some in
      order.transitive _ _ _ (L_complex.down x k.0 k.1.0) (around.inside_grade k.0 (kept-not_zero is.of k.0 k.1.1).0).0))
      ∙ image-image laws L.count L.count m.psi L.boundary w g
      ∙ image-congr laws L.count (product_of F L.count m.psi L.boundary) (product_of F S.count S.boundary m.psi) w g
      (λ row column. sym (eq.psi_commutes row column))
      ∙ sym (image-image laws S.count L.count S.boundary m.psi w g)
      ∙ sums.sum_below-zero laws S.count _ (λ h h_below. term_zero laws (S.boundary g h) (image_of F L.count m.psi w h) (λ some other.
      let k = image-not_zero laws L.count m.psi w h other in
      strict g h some (order.transitive _ _ _ (eq.psi_down h k.0 k.1.0).1 (order.transitive _ _ _ (around.inside_grade k.0 (kept-not_zero is.of k.0 k.1.1).0).0
      grade.1))))

  -- a generator's cycle is no relative boundary
  pub cycle-not_boundary : (g : ℕ) → g < S.count → InGrade g → IsRelativeBoundary F L.count L.boundary closure mouth (cycle g) → ⊥
  cycle-not_boundary g g_below grade is =
      let none : identity_of S.count g g ≡ 0 = sym (scalar-cycle g g grade grade) ∙ scalar-boundary (cycle g) g grade is in
      absurd (omega (arith, none, identity-same S.count g g_below))

  kept-add : (u v : Vector) (x : ℕ) → kept (λ x. F.add (u x) (v x)) x ≡ F.add (kept u x) (kept v x)
  kept-add u v x = elim (in_or_out x) [
    | inl h ↦ kept-inside (λ x. F.add (u x) (v x)) x h ∙ sym (ap (λ t. F.add t (kept v x)) (kept-inside u x h) ∙ ap (F.add (u x)) (kept-inside v x h))
    | inr h ↦ kept-outside (λ x. F.add (u x) (v x)) x h ∙ sym (ap (λ t. F.add t (kept v x)) (kept-outside u x h) ∙ ap (F.add 0) (kept-outside v x h)
        ∙ sums.add_zero_zero laws)
  ]

  kept-combination : (r : ℕ) (z : ℕ → Vector) (a : Vector) (x : ℕ) → kept (combination F r z a) x ≡ combination F r (λ i. kept (z i)) a x
  kept-combination r z a x = elim (in_or_out x) [
    | inl h ↦ kept-inside (combination F r z a) x h ∙ sums.sum_below-congr laws r _ _ (λ i below_i. ap (F.mul (a i)) (sym (kept-inside (z i) x h)))
    | inr h ↦ kept-outside (combination F r z a) x h ∙ sym (sums.sum_below-zero laws r _ (λ i below_i. ap (F.mul (a i)) (kept-outside (z i) x h)
        ∙ sums.mul-zero laws (a i)))
  ]

  kept-congr : (u v : Vector) → ((x : ℕ) → u x ≡ v x) → (x : ℕ) → kept u x ≡ kept v x
  kept-congr u v same x = ap (λ (t : Vector). kept t x) (fun_ext same)

  scalar-expressed : (r : ℕ) (z : ℕ → Vector) (a v b : Vector) (g : ℕ) → ((x : ℕ) → v x ≡ F.add (combination F r z a x) (b x))
      → scalar v g ≡ F.add (sum_below F r (λ i. F.mul (a i) (scalar (z i) g))) (scalar b g)
  unfolding scalar
  scalar-expressed r z a v b g is =
      sums.sum_below-congr laws L.count _ _ (λ x x_below. ap (F.mul (m.psi g x)) (kept-congr v (λ x. F.add (combination F r z a x) (b x)) is x
      ∙ kept-add (combination F r z a) b x ∙ ap (λ t. F.add t (kept b x)) (kept-combination r z a x)))
      ∙ image-add laws L.count m.psi (combination F r (λ i. kept (z i)) a) (kept b) g
      ∙ ap (λ t. F.add t (image_of F L.count m.psi (kept b) g)) (image-combination laws L.count r m.psi (λ i. kept (z i)) a g)

  -- a class whose relative cycles are all relative boundaries has no generator
  pub no_generator : ((v : Vector) → IsRelativeCycle F L.count L.boundary closure mouth v → IsRelativeBoundary F L.count L.boundary closure mouth v) → (g : ℕ)
      → g < S.count → ¬ InGrade g
  no_generator all g within grade =
      let one : scalar (cycle g) g ≡ 1 = scalar-cycle g g grade grade ∙ matrices.identity-same S.count g within in
      let zero : scalar (cycle g) g ≡ 0 = scalar-boundary (cycle g) g grade (all (cycle g) (cycle-IsRelativeCycle g grade)) in
      absurd (omega arith)

  module _ (k r : ℕ) (list : ℕ → ℕ) (listing : IsListing S.count (λ g. (below (S.base g) p × below p (S.base g)) × (S.dim g ≡ k)) r list) where
    -- the scalars are those of the expression
    determined : (v a : Vector) → IsExpressed F (IsRelativeBoundary F L.count L.boundary closure mouth) r (λ i. cycle (list i)) v a → (j : ℕ) → j < r
        → scalar v (list j) ≡ a j
    determined v a e j below_j =
        let grade = (listing.holds j below_j).0 in
        scalar-expressed r (λ i. cycle (list i)) a v e.rest (list j) e.is
        ∙ ap (F.add (sum_below F r (λ i. F.mul (a i) (scalar (cycle (list i)) (list j))))) (scalar-boundary e.rest (list j) grade e.in_B)
        ∙ laws.add_zero _ (sums.sum_below-below laws r _)
        ∙ sums.sum_below-congr laws r _ (λ i. F.mul (a i) (identity_of S.count (list j) (list i)))
        (λ i below_i. ap (F.mul (a i)) (scalar-cycle (list j) (list i) grade (listing.holds i below_i).0))
        ∙ sums.sum_below-single laws r (λ i. F.mul (a i) (identity_of S.count (list j) (list i))) j below_j (laws.mul_below _ _) (λ i below_i differs.
        ap (F.mul (a i)) (identity-other S.count (list j) (list i) (λ same. differs (listing.distinct i j below_i below_j (sym same))))
        ∙ sums.mul-zero laws (a i))
        ∙ ap (F.mul (a j)) (identity-same S.count (list j) (listing.within j below_j)) ∙ laws.mul_one (a j) (e.codes j)

    module _ (v : Vector) (c : IsRelativeCycle F L.count L.boundary closure mouth v) (in_dim : (x : ℕ) → v x ≢ 0 → L.dim x ≡ k) where
      -- the combination, the chain whose boundary is left, and the rest
      sum : Vector
      sum = combination F r (λ i. cycle (list i)) (λ i. scalar v (list i))

      chain : Vector
      chain = kept (image_of F L.count m.gamma (kept v))

      rest : Vector
      rest x = F.add (v x) (F.neg (sum x))

      part : Vector
      part x = F.add (rest x) (F.neg (image_of F L.count L.boundary chain x))

      low_below : (x : ℕ) → v x ≢ 0 → below (L.base x) p
      low_below x some = around.closure_below x (c.chain.only x some)

      -- phi after psi gives the combination
      through_small : (y : ℕ) → inside y ≡ true → image_of F L.count (product_of F S.count m.phi m.psi) (kept v) y ≡ sum y
      unfolding sum scalar cycle
      through_small y h =
          sym (image-image laws S.count L.count m.phi m.psi (kept v) y)
          ∙ sum_by_list laws S.count r list (λ g. F.mul (m.phi y g) (image_of F L.count m.psi (kept v) g)) listing.within listing.distinct (λ g g_below some.
          let x = image-not_zero laws L.count m.psi (kept v) g (sums.mul-not_zero_right laws (m.phi y g) (image_of F L.count m.psi (kept v) g) some) in
          let x_kept = kept-not_zero v x.0 x.1.1 in
          let g_x = eq.psi_down g x.0 x.1.0 in
          listing.all g g_below (
            (
              order.transitive _ _ _ g_x.1 (around.inside_grade x.0 x_kept.0).0,
              order.transitive _ _ _ (around.inside_grade y h).1 (eq.phi_down y g (sums.mul-not_zero_left laws (m.phi y g)
                  (image_of F L.count m.psi (kept v) g) some)).1,
            ),
            g_x.0 ∙ in_dim x.0 x_kept.1,
          ))
          ∙ sums.sum_below-congr laws r _ _ (λ i below_i.
          laws.mul_comm (m.phi y (list i)) (image_of F L.count m.psi (kept v) (list i))
          ∙ ap (F.mul (image_of F L.count m.psi (kept v) (list i))) (sym (kept-inside (λ x. m.phi x (list i)) y h)))

      through_down : (y : ℕ) → inside y ≡ true → image_of F L.count (product_of F L.count L.boundary m.gamma) (kept v) y ≡ image_of F L.count L.boundary chain y
      unfolding chain
      through_down y h =
          sym (image-image laws L.count L.count L.boundary m.gamma (kept v) y)
          ∙ only_inside L.boundary y (L.base y) (around.inside_grade y h).1 (λ x some. L_complex.down y x some) (image_of F L.count m.gamma (kept v)) (λ x some.
          let t = image-not_zero laws L.count m.gamma (kept v) x some in
          order.transitive _ _ _ (eq.gamma_down x t.0 t.1.0).1 (around.inside_grade t.0 (kept-not_zero v t.0 t.1.1).0).0)

      through_up : (y : ℕ) → inside y ≡ true → image_of F L.count (product_of F L.count m.gamma L.boundary) (kept v) y ≡ 0
      through_up y h =
          sym (image-image laws L.count L.count m.gamma L.boundary (kept v) y)
          ∙ sums.sum_below-zero laws L.count _ (λ x x_below. term_zero laws (m.gamma y x) (image_of F L.count L.boundary (kept v) x) (λ some other.
          let t = image-not_zero laws L.count L.boundary (kept v) x other in
          let x_low = order.transitive _ _ _ (L_complex.down x t.0 t.1.0) (around.inside_grade t.0 (kept-not_zero v t.0 t.1.1).0).0 in
          let x_high = order.transitive _ _ _ (around.inside_grade y h).1 (eq.gamma_down y x some).1 in
          let x_in = around.grade_inside x x_low x_high in
          let same = only_inside L.boundary x (L.base x) x_high (λ u u_some. L_complex.down x u u_some) v low_below in
          true≢false (sym x_in ∙ around.mouth_outside x (c.on_mouth.only x (λ none. other (sym same ∙ none))))))

      through_identity : (y : ℕ) → inside y ≡ true → image_of F L.count (identity_of L.count) (kept v) y ≡ v y
      through_identity y h =
          let within = around.closure_within y (around.inside_closure y h) in
          sums.sum_below-single laws L.count (λ x. F.mul (identity_of L.count y x) (kept v x)) y within (laws.mul_below _ _)
          (λ x x_below differs. ap (λ t. F.mul t (kept v x)) (identity-other L.count y x (λ e. differs (sym e))) ∙ sums.zero-mul laws (kept v x))
          ∙ ap (λ t. F.mul t (kept v y)) (identity-same L.count y within) ∙ laws.mul_comm 1 (kept v y) ∙ laws.mul_one (kept v y) (kept-below v c.chain.codes y)
          ∙ kept-inside v y h

      on_class : (y : ℕ) → inside y ≡ true → v y ≡ F.add (sum y) (image_of F L.count L.boundary chain y)
      on_class y h =
          let H = plus_of F (product_of F L.count L.boundary m.gamma) (product_of F L.count m.gamma L.boundary) in
          let home : identity_of L.count ≡ plus_of F (product_of F S.count m.phi m.psi) H =
          compose.minus-plus laws (identity_of L.count) (product_of F S.count m.phi m.psi) H (compose.identity-codes laws L.count)
          (λ row column. laws.add_below _ _) eq.phi_psi in
          sym (through_identity y h) ∙ ap (λ (e : Entries). image_of F L.count e (kept v) y) home
          ∙ image-plus laws L.count (product_of F S.count m.phi m.psi) H (kept v) y
          ∙ ap (F.add (image_of F L.count (product_of F S.count m.phi m.psi) (kept v) y))
          (image-plus laws L.count (product_of F L.count L.boundary m.gamma) (product_of F L.count m.gamma L.boundary) (kept v) y
          ∙ ap (F.add (image_of F L.count (product_of F L.count L.boundary m.gamma) (kept v) y)) (through_up y h)
          ∙ laws.add_zero _ (sums.sum_below-below laws L.count _) ∙ through_down y h)
          ∙ ap (λ t. F.add t (image_of F L.count L.boundary chain y)) (through_small y h)

      sum-outside : (x : ℕ) → inside x ≡ false → sum x ≡ 0
      unfolding sum cycle
      sum-outside x h = sums.sum_below-zero laws r _ (λ i below_i. ap (F.mul (scalar v (list i))) (kept-outside (λ y. m.phi y (list i)) x h)
          ∙ sums.mul-zero laws (scalar v (list i)))

      sum-codes : (x : ℕ) → sum x < F.order
      unfolding sum
      sum-codes x = sums.sum_below-below laws r _

      chain-closure : (x : ℕ) → chain x ≢ 0 → closure x
      unfolding chain
      chain-closure x some = around.inside_closure x (kept-not_zero (image_of F L.count m.gamma (kept v)) x some).0

      chain-codes : (x : ℕ) → chain x < F.order
      unfolding chain
      chain-codes x = kept-below (image_of F L.count m.gamma (kept v)) (λ y. sums.sum_below-below laws L.count _) x

      part-inside : (x : ℕ) → inside x ≡ true → part x ≡ 0
      unfolding part rest
      part-inside x h =
          ap (λ t. F.add t (F.neg (image_of F L.count L.boundary chain x)))
          (sums.plus-minus laws (v x) (sum x) (image_of F L.count L.boundary chain x) (sums.sum_below-below laws L.count _) (on_class x h))
          ∙ laws.add_neg (image_of F L.count L.boundary chain x)

      part-nothing : (x : ℕ) → inside x ≡ false → v x ≡ 0 → image_of F L.count L.boundary chain x ≡ 0 → part x ≡ 0
      unfolding part rest
      part-nothing x h none no_boundary =
          ap (λ t. F.add (F.add (v x) (F.neg (sum x))) (F.neg t)) no_boundary
          ∙ ap (λ t. F.add t (F.neg 0)) (ap (λ t. F.add t (F.neg (sum x))) none ∙ ap (λ t. F.add 0 (F.neg t)) (sum-outside x h) ∙ laws.add_neg 0)
          ∙ laws.add_neg 0

      part-mouth : (x : ℕ) → part x ≢ 0 → mouth x
      part-mouth x some = elim (in_or_out x) [
        | inl h ↦ absurd (some (part-inside x h))
        | inr h ↦ around.rest_mouth x (elim (cases_eq (v x) 0) [
          | inr other ↦ c.chain.only x other
          | inl none ↦ elim (cases_eq (image_of F L.count L.boundary chain x) 0) [
            | inr other ↦ image-closure chain chain-closure x other
            | inl no_boundary ↦ absurd (some (part-nothing x h none no_boundary))
          ]
        ]) h
      ]

      rest-codes : (x : ℕ) → rest x < F.order
      unfolding rest
      rest-codes x = laws.add_below (v x) (F.neg (sum x))

      rest-is_boundary : IsRelativeBoundary F L.count L.boundary closure mouth rest
      unfolding part
      rest-is_boundary = record {
        of = chain;
        of_chain = record { codes = chain-codes; only = chain-closure };
        part = part;
        part_chain = record { codes = λ x. laws.add_below _ _; only = part-mouth };
        is = λ x. sums.minus-plus laws (rest x) (image_of F L.count L.boundary chain x) (part x) (rest-codes x) (laws.add_below _ _) refl;
      }

      expressed : IsExpressed F (IsRelativeBoundary F L.count L.boundary closure mouth) r (λ i. cycle (list i)) v (λ i. scalar v (list i))
      unfolding sum rest scalar
      expressed = record {
        codes = λ i. sums.sum_below-below laws L.count _;
        rest = rest;
        in_B = rest-is_boundary;
        is = λ x. sums.minus-plus laws (v x) (sum x) (rest x) (c.chain.codes x) (laws.add_below _ _) refl;
      }

    pub restricted-basis : IsHomologyBasis F L.count L.boundary L.dim closure mouth k r (λ i. cycle (list i))
    restricted-basis = record {
      members = λ i below_i. (cycle-IsRelativeCycle (list i) (listing.holds i below_i).0, λ x some. cycle-dim (list i) x some ∙ (listing.holds i below_i).1);
      spans = λ v cycle_v. (λ i. scalar v (list i), expressed v cycle_v.0 cycle_v.1);
      once = λ v a b cycle_v by_a by_b i below_i. sym (determined v a by_a i below_i) ∙ determined v b by_b i below_i;
    }
