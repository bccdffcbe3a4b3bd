-- A basis for the cells of a set alone is one for its closure and mouth.
use Rattle.std.proofs.Common.{◌≡◌, ◌≢◌, ℕ, ◌<◌, Bool, true, false, cond, ap, sym, ◌∙◌, refl, inl, inr, subst}
use mathlib.Core.Path.{fun_ext}
use Rattle.std.proofs.lemmas.Bool.{cases_Bool, cases_eq, true≢false}
use Rattle.conley_field.specs.Arithmetic.{Arithmetic, IsField}
use Rattle.conley_algebra.specs.Entries.{Vector, Entries, image_of}
use Rattle.conley_algebra.specs.Homology.{combination, IsExpressed, IsRelativeCycle, IsRelativeBoundary, IsHomologyBasis}
use Rattle.conley_algebra.proofs.SumLemmas as sums
use Rattle.conley_homotopy.specs.Restriction.{IsClosedAround, own_boundary}

module _ {F : Arithmetic} (laws : IsField F) (n : ℕ) (d : Entries) (dim : ℕ → ℕ) (inside : ℕ → Bool) (closure mouth : ℕ → Type 0)
    (shape : IsClosedAround d inside closure mouth) (k r : ℕ) (z : ℕ → Vector) where
  Inside : ℕ → Type 0
  Inside x = inside x ≡ true

  Nowhere : ℕ → Type 0
  Nowhere x = ⊥

  own : Entries
  own = own_boundary inside d

  kept : Vector → Vector
  kept v x = cond (inside x) (v x) 0

  kept-inside : (v : Vector) (x : ℕ) → inside x ≡ true → kept v x ≡ v x
  unfolding kept
  kept-inside v x h = ap (λ b. cond b (v x) 0) h

  kept-outside : (v : Vector) (x : ℕ) → inside x ≡ false → kept v x ≡ 0
  unfolding kept
  kept-outside v x h = ap (λ b. cond b (v x) 0) h

  kept-not_zero : (v : Vector) (x : ℕ) → kept v x ≢ 0 → (inside x ≡ true) × (v x ≢ 0)
  kept-not_zero v x some = elim (cases_Bool (inside x)) [
    | inl h ↦ (h, λ none. some (kept-inside v x h ∙ none))
    | inr h ↦ absurd (some (kept-outside v x h))
  ]

  kept-below : (v : Vector) → ((x : ℕ) → v x < F.order) → (x : ℕ) → kept v x < F.order
  kept-below v codes x = elim (cases_Bool (inside x)) [
    | inl h ↦ subst (λ (t : ℕ). t < F.order) (sym (kept-inside v x h)) (codes x)
    | inr h ↦ subst (λ (t : ℕ). t < F.order) (sym (kept-outside v x h)) (sums.zero_below laws)
  ]

  own-inside : (y x : ℕ) → inside y ≡ true → inside x ≡ true → own y x ≡ d y x
  unfolding own
  own-inside y x row column = ap (λ b. cond b (cond (inside x) (d y x) 0) 0) row ∙ ap (λ b. cond b (d y x) 0) column

  own-outside : (y x : ℕ) → inside y ≡ false → own y x ≡ 0
  unfolding own
  own-outside y x row = ap (λ b. cond b (cond (inside x) (d y x) 0) 0) row

  -- on the set, the boundary of a chain on the closure is that of its part on the set, in either complex
  image-own : (v : Vector) → ((x : ℕ) → v x ≢ 0 → closure x) → (y : ℕ) → inside y ≡ true → image_of F n d v y ≡ image_of F n own (kept v) y
  image-own v on y row = sums.sum_below-congr laws n _ _ (λ x below. elim (cases_Bool (inside x)) [
    | inl h ↦ sym (ap (λ t. F.mul t (kept v x)) (own-inside y x row h) ∙ ap (F.mul (d y x)) (kept-inside v x h))
    | inr h ↦ term x h ∙ sym (ap (F.mul (own y x)) (kept-outside v x h) ∙ sums.mul-zero laws (own y x))
  ]) where
    term : (x : ℕ) → inside x ≡ false → F.mul (d y x) (v x) ≡ 0
    term x h = elim (cases_eq (d y x) 0) [
      | inl none ↦ ap (λ t. F.mul t (v x)) none ∙ sums.zero-mul laws (v x)
      | inr some ↦ elim (cases_eq (v x) 0) [
        | inl none ↦ ap (F.mul (d y x)) none ∙ sums.mul-zero laws (d y x)
        | inr other ↦ absurd (true≢false (sym row ∙ shape.mouth_faces y x some (shape.rest_mouth x (on x other) h)))
      ]
    ]

  image-own_outside : (v : Vector) (y : ℕ) → inside y ≡ false → image_of F n own v y ≡ 0
  image-own_outside v y row = sums.sum_below-zero laws n _ (λ x below. ap (λ t. F.mul t (v x)) (own-outside y x row) ∙ sums.zero-mul laws (v x))

  image-closure : (v : Vector) → ((x : ℕ) → v x ≢ 0 → closure x) → (y : ℕ) → image_of F n d v y ≢ 0 → closure y
  image-closure v on y some =
      let found : (x : ℕ) × ((x < n) × (F.mul (d y x) (v x) ≢ 0)) = sums.sum_below-not_zero laws n (λ x. F.mul (d y x) (v x)) some in
      shape.closure_faces y found.0 (sums.mul-not_zero_left laws (d y found.0) (v found.0) found.1.1)
      (on found.0 (sums.mul-not_zero_right laws (d y found.0) (v found.0) found.1.1))

  nothing : (v : Vector) → ((x : ℕ) → v x ≢ 0 → ⊥) → (x : ℕ) → v x ≡ 0
  nothing v never x = elim (cases_eq (v x) 0) [ inl none ↦ none | inr some ↦ absurd (never x some) ]

  kept-kept : (v : Vector) → ((x : ℕ) → v x ≢ 0 → inside x ≡ true) → (x : ℕ) → kept v x ≡ v x
  kept-kept v on x = elim (cases_Bool (inside x)) [
    | inl h ↦ kept-inside v x h
    | inr h ↦ kept-outside v x h ∙ sym (elim (cases_eq (v x) 0) [ inl none ↦ none | inr some ↦ absurd (true≢false (sym (on x some) ∙ h)) ])
  ]

  -- the part on the set of a relative cycle is a cycle of the set
  own_cycle : (v : Vector) → IsRelativeCycle F n d closure mouth v → IsRelativeCycle F n own Inside Nowhere (kept v)
  unfolding Inside Nowhere
  own_cycle v c = record {
    chain = record { codes = kept-below v c.chain.codes; only = λ x some. (kept-not_zero v x some).0 };
    on_mouth = record {
      codes = λ y. sums.sum_below-below laws n _;
      only = λ y some. elim (cases_Bool (inside y)) [
        | inr h ↦ some (image-own_outside (kept v) y h)
        | inl h ↦ true≢false (sym h ∙ shape.mouth_outside y (c.on_mouth.only y (λ none. some (sym (image-own v c.chain.only y h) ∙ none))))
      ];
    };
  }

  -- a cycle of the set is a relative cycle
  whole_cycle : (v : Vector) → IsRelativeCycle F n own Inside Nowhere v → IsRelativeCycle F n d closure mouth v
  unfolding Inside Nowhere
  whole_cycle v c = record {
    chain = record { codes = c.chain.codes; only = on };
    on_mouth = record {
      codes = λ y. sums.sum_below-below laws n _;
      only = λ y some. elim (cases_Bool (inside y)) [
        | inr h ↦ shape.rest_mouth y (image-closure v on y some) h
        | inl h ↦ absurd (c.on_mouth.only y (λ none. some (image-own v on y h ∙ ap (λ (t : Vector). image_of F n own t y) (fun_ext (kept-kept v c.chain.only))
            ∙ none)))
      ];
    };
  } where
    on : (x : ℕ) → v x ≢ 0 → closure x
    on x some = shape.inside_closure x (c.chain.only x some)

  -- on the set, a relative boundary is a boundary of the set
  own_rest : (b : Vector) → IsRelativeBoundary F n d closure mouth b → IsRelativeBoundary F n own Inside Nowhere (kept b)
  unfolding Inside Nowhere
  own_rest b is = record {
    of = kept is.of;
    of_chain = record { codes = kept-below is.of is.of_chain.codes; only = λ x some. (kept-not_zero is.of x some).0 };
    part = λ x. 0;
    part_chain = record { codes = λ x. sums.zero_below laws; only = λ x some. some refl };
    is = λ x. elim (cases_Bool (inside x)) [
      | inl h ↦
          kept-inside b x h ∙ is.is x ∙ ap (F.add (image_of F n d is.of x)) (no_part x h)
          ∙ ap (λ t. F.add t 0) (image-own is.of is.of_chain.only x h)
      | inr h ↦ kept-outside b x h ∙ sym (ap (λ t. F.add t 0) (image-own_outside (kept is.of) x h) ∙ sums.add_zero_zero laws)
    ];
  } where
    no_part : (x : ℕ) → inside x ≡ true → is.part x ≡ 0
    no_part x h = elim (cases_eq (is.part x) 0) [ inl none ↦ none | inr some ↦ absurd (true≢false (sym h ∙ shape.mouth_outside x (is.part_chain.only x some))) ]

  module _ (basis : IsHomologyBasis F n (own_boundary inside d) dim (λ x. inside x ≡ true) (λ x. ⊥) k r z) where
    z_inside : (i : ℕ) → i < r → (x : ℕ) → z i x ≢ 0 → inside x ≡ true
    z_inside i below x some = (basis.members i below).0.chain.only x some

    sum-outside : (a : Vector) (x : ℕ) → inside x ≡ false → combination F r z a x ≡ 0
    sum-outside a x h = sums.sum_below-zero laws r _ (λ i below. elim (cases_eq (z i x) 0) [
      | inl none ↦ ap (F.mul (a i)) none ∙ sums.mul-zero laws (a i)
      | inr some ↦ absurd (true≢false (sym (z_inside i below x some) ∙ h))
    ])

    expressed_own : (v a : Vector) → IsExpressed F (IsRelativeBoundary F n d closure mouth) r z v a
        → IsExpressed F (IsRelativeBoundary F n own Inside Nowhere) r z (kept v) a
    expressed_own v a e = record {
      codes = e.codes;
      rest = kept e.rest;
      in_B = own_rest e.rest e.in_B;
      is = λ x. elim (cases_Bool (inside x)) [
        | inl h ↦ kept-inside v x h ∙ e.is x ∙ ap (F.add (combination F r z a x)) (sym (kept-inside e.rest x h))
        | inr h ↦ kept-outside v x h ∙ sym (ap (λ t. F.add t (kept e.rest x)) (sum-outside a x h) ∙ ap (F.add 0) (kept-outside e.rest x h)
            ∙ sums.add_zero_zero laws)
      ];
    }

    module _ (v : Vector) (c : IsRelativeCycle F n d closure mouth v) (a : Vector) (e : IsExpressed F
        (IsRelativeBoundary F n (own_boundary inside d) (λ x. inside x ≡ true) (λ x. ⊥)) r z (kept v) a) where
      w : Vector
      w = e.in_B.of

      w_closure : (x : ℕ) → w x ≢ 0 → closure x
      unfolding w
      w_closure x some = shape.inside_closure x (e.in_B.of_chain.only x some)

      rest : Vector
      rest x = F.add (v x) (F.neg (combination F r z a x))

      part : Vector
      part x = F.add (rest x) (F.neg (image_of F n d w x))

      rest-inside : (x : ℕ) → inside x ≡ true → e.rest x ≡ image_of F n d w x
      unfolding w own
      rest-inside x h =
          e.in_B.is x ∙ ap (F.add (image_of F n (own_boundary inside d) e.in_B.of x)) (nothing e.in_B.part e.in_B.part_chain.only x)
          ∙ laws.add_zero _ (sums.sum_below-below laws n _)
          ∙ sym (image-own e.in_B.of w_closure x h ∙ ap (λ (t : Vector). image_of F n (own_boundary inside d) t x)
          (fun_ext (kept-kept e.in_B.of e.in_B.of_chain.only)))

      part-inside : (x : ℕ) → inside x ≡ true → part x ≡ 0
      unfolding part rest
      part-inside x h =
          ap (λ t. F.add t (F.neg (image_of F n d w x)))
          (sums.plus-minus laws (v x) (combination F r z a x) (image_of F n d w x) (sums.sum_below-below laws n _)
          (sym (kept-inside v x h) ∙ e.is x ∙ ap (F.add (combination F r z a x)) (rest-inside x h)))
          ∙ laws.add_neg (image_of F n d w x)

      part-nothing : (x : ℕ) → inside x ≡ false → v x ≡ 0 → image_of F n d w x ≡ 0 → part x ≡ 0
      unfolding part rest
      part-nothing x h none no_boundary =
          ap (λ t. F.add (F.add (v x) (F.neg (combination F r z a x))) (F.neg t)) no_boundary
          ∙ ap (λ t. F.add t (F.neg 0)) (ap (λ t. F.add t (F.neg (combination F r z a x))) none ∙ ap (λ t. F.add 0 (F.neg t)) (sum-outside a x h)
          ∙ laws.add_neg 0)
          ∙ laws.add_neg 0

      part-mouth : (x : ℕ) → part x ≢ 0 → mouth x
      part-mouth x some = elim (cases_Bool (inside x)) [
        | inl h ↦ absurd (some (part-inside x h))
        | inr h ↦ shape.rest_mouth x (elim (cases_eq (v x) 0) [
          | inr other ↦ c.chain.only x other
          | inl none ↦ elim (cases_eq (image_of F n d w x) 0) [
            | inr other ↦ image-closure w w_closure x other
            | inl no_boundary ↦ absurd (some (part-nothing x h none no_boundary))
          ]
        ]) h
      ]

      rest-codes : (x : ℕ) → rest x < F.order
      unfolding rest
      rest-codes x = laws.add_below (v x) (F.neg (combination F r z a x))

      rest-is_boundary : IsRelativeBoundary F n d closure mouth rest
      unfolding part w
      rest-is_boundary = record {
        of = w;
        of_chain = record { codes = e.in_B.of_chain.codes; only = w_closure };
        part = part;
        part_chain = record { codes = λ x. laws.add_below _ _; only = part-mouth };
        is = λ x. sums.minus-plus laws (rest x) (image_of F n d w x) (part x) (rest-codes x) (laws.add_below _ _) refl;
      }

      expressed_whole : IsExpressed F (IsRelativeBoundary F n d closure mouth) r z v a
      unfolding rest
      expressed_whole = record {
        codes = e.codes;
        rest = rest;
        in_B = rest-is_boundary;
        is = λ x. sums.minus-plus laws (v x) (combination F r z a x) (rest x) (c.chain.codes x) (laws.add_below _ _) refl;
      }

    -- the set's own basis is one for its closure and mouth
    pub excision : IsHomologyBasis F n d dim closure mouth k r z
    unfolding own Inside Nowhere
    excision = record {
      members = λ i below. (whole_cycle (z i) (basis.members i below).0, (basis.members i below).1);
      spans = λ v cycle_v.
          let s = basis.spans (kept v) (own_cycle v cycle_v.0, λ x some. cycle_v.1 x (kept-not_zero v x some).1) in
          (s.0, expressed_whole v cycle_v.0 s.0 s.1);
      once = λ v a b cycle_v by_a by_b.
          basis.once (kept v) a b (own_cycle v cycle_v.0, λ x some. cycle_v.1 x (kept-not_zero v x some).1) (expressed_own v a by_a) (expressed_own v b by_b);
    }
