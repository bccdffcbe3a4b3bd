-- The next cell of a part, in the ascending list of its cells.
use Rattle.std.proofs.Common.{◌≡◌, inl, inr, ◌+◌, ◌-◌, ◌<◌, ◌≤◌, ℕ, zero, suc, List, [], ◌∷◌, ◌++◌, length, get_or, refl, sym, ap, ◌∙◌, subst, arith}
use Rattle.std.specs.Prelude.{Contains, ◌↔◌, slice_index}
use Rattle.std.specs.List.Sorted.{IsStrictlyIncreasing}
use Rattle.std.proofs.lemmas.Bool.{cases_eq, cases_lt}
use Rattle.std.proofs.lemmas.List.Elements.{Contains-get_or, Contains-push, Contains-push_cases, Contains-append_left}
use Rattle.conley_walk.specs.Walk.{Reaches}
use Rattle.conley_walk.proofs.WalkLemmas.{reaches_itself, reaches_on, reaches_by_step}
use Rattle.conley_lists.proofs.ListLemmas.{Contains-none, place_of, rises, at_least, stands_before, increasing-push, All-from_contained}
use Rattle.conley_mvf.specs.Partition.{IsInPart, ShareAPart}
use Rattle.conley_transitions.specs.Step.{IsNext}
use Rattle.conley_transitions.specs.Making.{IsNextIn}

-- the ascending list of the cells of the part of x
module _ (part_of : List ℕ) (x : ℕ) (cells : List ℕ) (up : IsStrictlyIncreasing cells) (same : (y : ℕ) → Contains cells y
    ↔ IsInPart part_of (slice_index part_of x) y) where
  -- a cell of the part, and its place
  listed : (y : ℕ) → ShareAPart part_of x y → (k : ℕ) × (k < length cells) × (get_or cells k 0 ≡ y)
  listed y s = place_of cells y ((same y).1 s.1)

  -- what stands at a place is of the part
  shared : x < length part_of → (k : ℕ) → k < length cells → ShareAPart part_of x (get_or cells k 0)
  shared cell k lt = (cell, (same (get_or cells k 0)).0 (Contains-get_or cells k 0 lt))

  -- in a list of two or more cells the next in the list is the next of the part
  pub next_listed : x < length part_of → (y : ℕ) → 1 < length cells → IsNextIn cells x y → IsNext part_of x y
  next_listed cell y more n = elim n.3 [
    | inl on ↦ record {
      part = subst (ShareAPart part_of x) (sym on.1) (shared cell (n.0 + 1) on.0);
      next = inl (
        omega (arith, rises cells up n.0 (n.0 + 1) (omega arith) on.0, n.2, on.1),
        λ z s less.
            let p = listed z s in
            let after : n.0 < p.0 = stands_before cells up p.0 n.0 n.1 (omega (arith, p.2, n.2, less)) in
            omega (arith, at_least cells up (n.0 + 1) p.0 (λ before. absurd (omega (arith, after, before))) p.1, p.2, on.1),
      );
    }
    | inr last ↦ record {
      part = subst (ShareAPart part_of x) (sym last.1) (shared cell 0 (omega arith));
      next = inr (
        omega (arith, rises cells up 0 n.0 (omega (arith, last.0)) n.1, n.2, last.1),
        λ z s.
            let p = listed z s in
            let low = at_least cells up 0 p.0 (λ before. absurd (omega arith)) p.1 in
            let high = at_least cells up p.0 n.0 (λ before. absurd (omega (arith, before, last.0, p.1))) n.1 in
            (omega (arith, low, p.2, last.1), omega (arith, high, p.2, n.2)),
      );
    }
  ]

  -- a part with a next cell has two or more
  pub next_needs_two : (y : ℕ) → x < length part_of → IsNext part_of x y → 1 < length cells
  next_needs_two y cell next =
      let p = listed x (cell, (cell, refl)) in
      let q = listed y next.part in
      elim (cases_lt 1 (length cells)) [
        | inl more ↦ more
        | inr few ↦
            let same_place : p.0 ≡ q.0 = omega (arith, p.1, q.1) in
            let e : x ≡ y = sym p.2 ∙ ap (λ k. get_or cells k 0) same_place ∙ q.2 in
            elim next.next [ inl u ↦ absurd (omega (arith, u.0, e)) | inr r ↦ absurd (omega (arith, r.0, e)) ]
      ]

-- the next cell is one
pub next_is_one : (part_of : List ℕ) (x y z : ℕ) → IsNext part_of x y → IsNext part_of x z → y ≡ z
next_is_one part_of x y z a b = elim a.next [
  | inl u ↦ elim b.next [
    | inl v ↦ omega (arith, u.1 z b.part v.0, v.1 y a.part u.0)
    | inr v ↦ absurd (omega (arith, u.0, (v.1 y a.part).1))
  ]
  | inr u ↦ elim b.next [
    | inl v ↦ absurd (omega (arith, v.0, (u.1 z b.part).1))
    | inr v ↦ omega (arith, (u.1 z b.part).0, (v.1 y a.part).0)
  ]
]

-- the first n cells of a part, in an ascending list
part_cells : (part_of : List ℕ) (p n : ℕ) → n ≤ length part_of → (cells : List ℕ) × IsStrictlyIncreasing cells
    × ((y : ℕ) → Contains cells y ↔ ((y < n) × IsInPart part_of p y))
part_cells part_of p zero le = ([], (λ k lt. absurd (omega arith)), λ y. ((λ c. Contains-none y c), (λ s. absurd (omega (arith, s.0)))))
part_cells part_of p (suc n) le =
    let before = part_cells part_of p n (omega arith) in
    elim (cases_eq (slice_index part_of n) p) [
      | inl e ↦ (
        before.0 ++ n ∷ [],
        increasing-push before.0 n before.1 (All-from_contained (λ y. y < n) before.0 (λ y c. ((before.2 y).0 c).0)),
        λ y. (
          (λ c. elim (Contains-push_cases before.0 n y c) [
            | inl old ↦ let s = (before.2 y).0 old in (omega (arith, s.0), s.1)
            | inr new ↦ (omega arith, (omega arith, sym (ap (slice_index part_of) new) ∙ e))
          ]),
          (λ s. elim (cases_eq y n) [
            | inl new ↦ subst (Contains (before.0 ++ n ∷ [])) (sym new) (Contains-push before.0 n)
            | inr ne ↦ Contains-append_left before.0 (n ∷ []) y ((before.2 y).1 (omega (arith, s.0), s.1))
          ]),
        ),
      )
      | inr other ↦ (
        before.0,
        before.1,
        λ y. (
          (λ c. let s = (before.2 y).0 c in (omega (arith, s.0), s.1)),
          (λ s. elim (cases_eq y n) [
            | inl new ↦ absurd (other (sym (ap (slice_index part_of) new) ∙ s.1.1))
            | inr ne ↦ (before.2 y).1 (omega (arith, s.0), s.1)
          ]),
        ),
      )
    ]

-- where each number of a list steps to the next, and the last to the first, each reaches each
module _ (R : ℕ → ℕ → Type 0) (cells : List ℕ) (on : (k : ℕ) → k + 1 < length cells → R (get_or cells k 0) (get_or cells (k + 1) 0))
    (round : 1 < length cells → R (get_or cells (length cells - 1) 0) (get_or cells 0 0)) where
  forward : (d i : ℕ) → i + d < length cells → Reaches R (get_or cells i 0) (get_or cells (i + d) 0)
  forward zero i lt = subst (λ k. Reaches R (get_or cells i 0) (get_or cells k 0)) (let e : i ≡ i + zero = omega arith in e) (reaches_itself (get_or cells i 0))
  forward (suc d) i lt =
      let step = reaches_by_step {Step = R} {x = get_or cells (i + d) 0} {y = get_or cells (i + d + 1) 0} (on (i + d) (omega arith)) in
      subst (λ k. Reaches R (get_or cells i 0) (get_or cells k 0)) (let e : i + d + 1 ≡ i + suc d = omega arith in e)
      (reaches_on (forward d i (omega arith)) step)

  between : (i j : ℕ) → i ≤ j → j < length cells → Reaches R (get_or cells i 0) (get_or cells j 0)
  between i j le lt = subst (λ k. Reaches R (get_or cells i 0) (get_or cells k 0)) (let e : i + (j - i) ≡ j = omega arith in e)
      (forward (j - i) i (omega arith))

  cycle_reaches : (i j : ℕ) → i < length cells → j < length cells → Reaches R (get_or cells i 0) (get_or cells j 0)
  cycle_reaches i j li lj = elim (cases_lt j i) [
    | inl back ↦
        let step = reaches_by_step {Step = R} {x = get_or cells (length cells - 1) 0} {y = get_or cells 0 0} (round (omega arith)) in
        reaches_on (between i (length cells - 1) (omega arith) (omega arith)) (reaches_on step (between 0 j (omega arith) lj))
    | inr ahead ↦ between i j ahead lj
  ]

-- where each cell steps to the next of its part, the cells of a part reach each other
pub next_reaches : (R : ℕ → ℕ → Type 0) (part_of : List ℕ) → ((x y : ℕ) → IsNext part_of x y → R x y) → (x y : ℕ) → ShareAPart part_of x y → Reaches R x y
next_reaches R part_of next x y s =
    subst (λ q. Reaches R q y) i.2 (subst (Reaches R (get_or cells i.0 0)) j.2 (cycle_reaches R cells on round i.0 j.0 i.1 j.1))
  where
    some : (cells : List ℕ) × IsStrictlyIncreasing cells × ((y : ℕ) → Contains cells y ↔ ((y < length part_of) × IsInPart part_of (slice_index part_of x) y))
    some = part_cells part_of (slice_index part_of x) (length part_of) (omega arith)

    cells : List ℕ
    cells = some.0

    i : (k : ℕ) × (k < length some.0) × (get_or some.0 k 0 ≡ x)
    i = place_of some.0 x ((some.2 x).1 (s.0, (s.0, refl)))

    j : (k : ℕ) × (k < length some.0) × (get_or some.0 k 0 ≡ y)
    j = place_of some.0 y ((some.2 y).1 (s.1.0, s.1))

    -- the cells of the list, as those of the part of any of them
    part : (k : ℕ) → k < length some.0 → (z : ℕ) → Contains some.0 z ↔ IsInPart part_of (slice_index part_of (get_or some.0 k 0)) z
    part k lt z =
        let here = ((some.2 (get_or some.0 k 0)).0 (Contains-get_or some.0 k 0 lt)).1 in
        subst (λ p. Contains some.0 z ↔ IsInPart part_of p z) (sym here.1) ((λ c. ((some.2 z).0 c).1), (λ h. (some.2 z).1 (h.0, h)))

    cell : (k : ℕ) → k < length some.0 → get_or some.0 k 0 < length part_of
    cell k lt = ((some.2 (get_or some.0 k 0)).0 (Contains-get_or some.0 k 0 lt)).0

    on : (k : ℕ) → k + 1 < length some.0 → R (get_or some.0 k 0) (get_or some.0 (k + 1) 0)
    on k lt = next _ _ (next_listed part_of (get_or some.0 k 0) some.0 some.1 (part k (omega arith)) (cell k (omega arith)) (get_or some.0 (k + 1) 0)
        (omega arith) (k, omega arith, refl, inl (lt, refl)))

    round : 1 < length some.0 → R (get_or some.0 (length some.0 - 1) 0) (get_or some.0 0 0)
    round more =
        let k : ℕ = length some.0 - 1 in
        next _ _ (next_listed part_of (get_or some.0 k 0) some.0 some.1 (part k (omega arith)) (cell k (omega arith)) (get_or some.0 0 0) more
        (k, omega arith, refl, inr (omega arith, refl)))
