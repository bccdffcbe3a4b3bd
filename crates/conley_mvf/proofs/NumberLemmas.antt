-- Numbers of parts, one cell after another.
use Rattle.std.proofs.Common.{◌≡◌, ◌≢◌, inl, inr, ◌+◌, ◌<◌, ◌≤◌, ℕ, List, [], ◌∷◌, ◌++◌, length, refl, sym, ◌∙◌, ap, arith, length-append}
use Rattle.std.specs.Prelude.{slice_index}
use Rattle.std.proofs.Math.Seq.{get_or-append_seam}
use Rattle.std.proofs.lemmas.Bool.{cases_eq, cases_order}
use Rattle.std.proofs.lemmas.List.{get_or_append_left}
use Rattle.conley_mvf.specs.Making.{AreLeast, NumbersSoFar}

module _ (least : List ℕ) (n : ℕ) (part_of : List ℕ) (next : ℕ) (lt : n < length least) (are : AreLeast least)
    (so_far : NumbersSoFar least n part_of next) where
  -- what one number more is read as
  at_end : (p : ℕ) → slice_index (part_of ++ p ∷ []) n ≡ p
  at_end p = ap (slice_index (part_of ++ p ∷ [])) (sym so_far.count) ∙ get_or-append_seam part_of p [] 0

  before : (p y : ℕ) → y < n → slice_index (part_of ++ p ∷ []) y ≡ slice_index part_of y
  before p y less = get_or_append_left part_of (p ∷ []) 0 y (omega (arith, so_far.count))

  -- the cell is the least of its part, which has the next number
  module _ (new : slice_index least n ≡ n) where
    apart : (y : ℕ) → y < n → ¬ (slice_index least n ≡ slice_index least y)
    apart y less e = omega (arith, are.low y (omega arith), e, new)

    pub numbers-new : NumbersSoFar least (n + 1) (part_of ++ next ∷ []) (next + 1)
    numbers-new = record {
      count = omega (arith, length-append part_of (next ∷ []), so_far.count);
      few = omega (arith, so_far.few);
      below = λ y ly. elim (cases_eq y n) [
        | inl e ↦ omega (arith, ap (slice_index (part_of ++ next ∷ [])) e, at_end next)
        | inr ne ↦ omega (arith, before next y (omega arith), so_far.below y (omega arith))
      ];
      used = λ k lk. elim (cases_eq k next) [
        | inl e ↦ (n, omega arith, at_end next ∙ sym e)
        | inr ne ↦ let w = so_far.used k (omega arith) in (w.0, omega (arith, w.1), before next w.0 w.1 ∙ w.2)
      ];
      same = λ x y lx ly. elim (cases_eq x n) [
        | inl ex ↦ elim (cases_eq y n) [
          | inl ey ↦ ((λ _. ap (slice_index least) (ex ∙ sym ey)), (λ _. ap (slice_index (part_of ++ next ∷ [])) (ex ∙ sym ey)))
          | inr ny ↦ (
            (λ e. absurd (omega (
              arith,
              e,
              ap (slice_index (part_of ++ next ∷ [])) ex,
              at_end next,
              before next y (omega arith),
              so_far.below y (omega arith),
            ))),
            (λ e. absurd (apart y (omega arith) (sym (ap (slice_index least) ex) ∙ e))),
          )
        ]
        | inr nx ↦ elim (cases_eq y n) [
          | inl ey ↦ (
            (λ e. absurd (omega (
              arith,
              e,
              ap (slice_index (part_of ++ next ∷ [])) ey,
              at_end next,
              before next x (omega arith),
              so_far.below x (omega arith),
            ))),
            (λ e. absurd (apart x (omega arith) (sym (ap (slice_index least) ey) ∙ sym e))),
          )
          | inr ny ↦
              let bx = before next x (omega arith) in
              let by = before next y (omega arith) in
              let s = so_far.same x y (omega arith) (omega arith) in
              ((λ e. s.0 (sym bx ∙ e ∙ by)), (λ e. bx ∙ s.1 e ∙ sym by))
        ]
      ];
      in_order = λ x k lx lk. elim (cases_eq x n) [
        | inl e ↦
            let w = so_far.used k (omega (arith, lk, ap (slice_index (part_of ++ next ∷ [])) e, at_end next)) in
            (w.0, omega (arith, w.1), before next w.0 w.1 ∙ w.2)
        | inr ne ↦
            let w = so_far.in_order x k (omega arith) (omega (arith, lk, before next x (omega arith))) in
            (w.0, w.1, before next w.0 (omega (arith, w.1)) ∙ w.2)
      ];
    }

  -- it has an earlier least cell, and the number of that one
  module _ (old : slice_index least n ≢ n) where
    pub first_before : slice_index least n < n
    first_before = elim (cases_order (slice_index least n) n) [
      | inl e ↦ absurd (old e)
      | inr other ↦ elim other
          [ inl less ↦ less | inr more ↦ absurd (omega (arith, are.low n lt)) ]
    ]

    pub numbers-old : (p : ℕ) → p ≡ slice_index part_of (slice_index least n) → NumbersSoFar least (n + 1) (part_of ++ p ∷ []) next
    numbers-old p is = record {
      count = omega (arith, length-append part_of (p ∷ []), so_far.count);
      few = omega (arith, so_far.few);
      below = λ y ly. elim (cases_eq y n) [
        | inl e ↦ omega (arith, ap (slice_index (part_of ++ p ∷ [])) e, at_end p, is, so_far.below (slice_index least n) first_before)
        | inr ne ↦ omega (arith, before p y (omega arith), so_far.below y (omega arith))
      ];
      used = λ k lk. let w = so_far.used k lk in (w.0, omega (arith, w.1), before p w.0 w.1 ∙ w.2);
      same = λ x y lx ly.
          let rx = twin x lx in
          let ry = twin y ly in
          let s = so_far.same rx.0 ry.0 rx.1 ry.1 in
          ((λ e. sym rx.3 ∙ s.0 (rx.2 ∙ e ∙ sym ry.2) ∙ ry.3), (λ e. sym rx.2 ∙ s.1 (rx.3 ∙ e ∙ sym ry.3) ∙ ry.2));
      in_order = λ x k lx lk.
          let r = twin x lx in
          let w = so_far.in_order r.0 k r.1 (omega (arith, lk, r.2)) in
          (w.0, omega (arith, w.1, r.4), before p w.0 (omega (arith, w.1, r.1)) ∙ w.2);
    }
      where
        -- an earlier cell, no later than x, with the part and the least cell of x
        twin : (x : ℕ) → x < n + 1 → (r : ℕ) × (r < n) × (slice_index part_of r ≡ slice_index (part_of ++ p ∷ []) x)
            × (slice_index least r ≡ slice_index least x) × (r ≤ x)
        twin x lx = elim (cases_eq x n) [
          | inl e ↦ (
            slice_index least n,
            first_before,
            sym is ∙ sym (at_end p) ∙ sym (ap (slice_index (part_of ++ p ∷ [])) e),
            are.fixed n lt ∙ sym (ap (slice_index least) e),
            omega (arith, first_before),
          )
          | inr ne ↦ (x, omega arith, sym (before p x (omega arith)), refl, omega arith)
        ]
