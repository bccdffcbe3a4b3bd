-- From labels of cells to the first cell of each label, and what lies between two cells of a part.
use Rattle.std.proofs.Common.{◌≡◌, ◌≢◌, ◌⊎◌, inl, inr, ◌+◌, ◌<◌, ◌≤◌, ℕ, zero, suc, List, [], ◌∷◌, ◌++◌, length, get_or, sym, ◌∙◌, subst, ap, arith, length-append, get_or-set_other, get_or-set_same}
use Rattle.std.specs.Prelude.{Contains, ◌↔◌, slice_index}
use Rattle.std.proofs.Math.ListN.{set, length-set}
use Rattle.std.proofs.Math.Seq.{get_or-append_seam}
use Rattle.std.proofs.lemmas.Bool.{cases_eq}
use Rattle.std.proofs.lemmas.List.{get_or_append_left}
use Rattle.std.proofs.lemmas.List.Elements.{Contains-append_left, Contains-push, Contains-push_cases}
use Rattle.conley_lists.specs.Lists.{IsDigraph}
use Rattle.conley_lists.proofs.ListLemmas.{Contains-none}
use Rattle.conley_faces.specs.Face.{IsFace, IsGap}
use Rattle.conley_faces.proofs.FaceLemmas.{face_ends}
use Rattle.conley_mvf.specs.Partition.{IsInPart, ShareAPart, AreCellsOf, IsMultivectorField, HaveNoGap, HaveSameParts}
use Rattle.conley_mvf.specs.Making.{AreLeast, FirstsSoFar, TellsFirstByLabel, NumbersSoFar}

-- one cell more: its label has a first cell from now on
module _ (labels : List ℕ) (n : ℕ) (first first' least : List ℕ) (lt : n < length labels) (within : (y : ℕ) → y < length labels
    → slice_index labels y < length labels) (so_far : FirstsSoFar labels n first least)
    (width : length first' ≡ length first) (here : ((slice_index first (slice_index labels n) ≡ length labels)
    × (slice_index first' (slice_index labels n) ≡ n)) ⊎ ((slice_index first (slice_index labels n) ≢ length labels)
    × (slice_index first' (slice_index labels n) ≡ slice_index first (slice_index labels n))))
    (others : (p : ℕ) → p ≢ slice_index labels n → slice_index first' p ≡ slice_index first p) where
  p : ℕ
  p = slice_index labels n

  -- the first cell with the label
  at_label : (slice_index first' (slice_index labels n) < n + 1) × (slice_index labels (slice_index first' (slice_index labels n)) ≡ slice_index labels n)
      × ((y : ℕ) → y < n + 1 → slice_index labels y ≡ slice_index labels n → slice_index first' (slice_index labels n) ≤ y)
  at_label = elim here [
    | inl new ↦ elim (so_far.firsts (slice_index labels n) (within n lt)) [
      | inl none ↦ (
        omega (arith, new.1),
        ap (slice_index labels) new.1,
        λ y ly e. elim (cases_eq y n)
            [ inl same ↦ omega (arith, new.1, same) | inr ne ↦ absurd (none.1 y (omega arith) e) ],
      )
      | inr some ↦ absurd (omega (arith, new.0, some.0))
    ]
    | inr old ↦ elim (so_far.firsts (slice_index labels n) (within n lt)) [
      | inl none ↦ absurd (old.0 none.0)
      | inr some ↦ (
        omega (arith, old.1, some.0),
        ap (slice_index labels) old.1 ∙ some.1,
        λ y ly e. elim (cases_eq y n)
            [ inl same ↦ omega (arith, old.1, some.0, same) | inr ne ↦ omega (arith, old.1, some.2 y (omega arith) e) ],
      )
    ]
  ]

  -- an earlier cell's first cell stays
  stays : (y : ℕ) → y < n → slice_index first' (slice_index labels y) ≡ slice_index first (slice_index labels y)
  stays y ly = elim (cases_eq (slice_index labels y) (slice_index labels n)) [
    | inl e ↦ elim here [
      | inl new ↦ elim (so_far.firsts (slice_index labels n) (within n lt)) [
        | inl none ↦ absurd (none.1 y ly e)
        | inr
            some ↦ absurd (omega (arith, new.0, some.0))
      ]
      | inr old ↦ ap (slice_index first') e ∙ old.1 ∙ ap (slice_index first) (sym e)
    ]
    | inr ne ↦ others (slice_index labels y) ne
  ]

  pub firsts-more : (q : ℕ) → q ≡ slice_index first' (slice_index labels n) → FirstsSoFar labels (n + 1) first' (least ++ q ∷ [])
  firsts-more q is = record {
    count = omega (arith, length-append least (q ∷ []), so_far.count);
    width = width ∙ so_far.width;
    firsts = λ l below. elim (cases_eq l (slice_index labels n)) [
      | inl e ↦ inr (
        subst (λ i. slice_index first' i < n + 1) (sym e) at_label.0,
        ap (λ i. slice_index labels (slice_index first' i)) e ∙ at_label.1 ∙ sym e,
        λ y ly f. subst (λ i. slice_index first' i ≤ y) (sym e) (at_label.2 y ly (f ∙ e)),
      )
      | inr ne ↦ elim (so_far.firsts l below) [
        | inl none ↦ inl (
          others l ne ∙ none.0,
          λ y ly f. elim (cases_eq y n) [
            | inl same ↦ ne (sym f ∙ ap (slice_index labels) same)
            | inr other ↦ none.1 y
                (omega arith) f
          ],
        )
        | inr some ↦
            let same = others l ne in
            inr (
              omega (arith, same, some.0),
              ap (slice_index labels) same ∙ some.1,
              λ y ly f. elim (cases_eq y n)
                  [ inl e ↦ absurd (ne (sym f ∙ ap (slice_index labels) e)) | inr other ↦ omega (arith, same, some.2 y (omega arith) f) ],
            )
      ]
    ];
    told = λ y ly. elim (cases_eq y n) [
      | inl e ↦ ap (slice_index (least ++ q ∷ [])) (e ∙ sym so_far.count) ∙ get_or-append_seam least q [] 0 ∙ is
          ∙ ap (λ i. slice_index first' (slice_index labels i)) (sym e)
      | inr ne ↦
          let less : y < n = omega arith in
          get_or_append_left least (q ∷ []) 0 y (omega (arith, so_far.count)) ∙ so_far.told y less ∙ sym (stays y less)
    ];
  }

-- after the last cell
pub firsts-all : (labels : List ℕ) (n : ℕ) (first least : List ℕ) → n ≡ length labels → ((y : ℕ) → y < length labels → slice_index labels y < length labels)
    → FirstsSoFar labels n first least → TellsFirstByLabel labels least
firsts-all labels n first least all within so_far = record {
  count = so_far.count ∙ all;
  are_least = record {
    low = λ x lt. let f = facts x (omega (arith, so_far.count)) in omega (arith, f.3, f.2);
    fixed = λ x lt. let f = facts x (omega (arith, so_far.count)) in so_far.told (slice_index least x) (omega (arith, f.0, f.3)) ∙ ap (slice_index first) f.1
        ∙ sym f.3;
  };
  same = λ x y lx ly.
      let fx = facts x (omega arith) in
      let fy = facts y (omega arith) in
      ((λ e. sym fx.1 ∙ ap (slice_index labels) e ∙ fy.1), (λ e. fx.3 ∙ ap (slice_index first) e ∙ sym fy.3));
}
  where
    facts : (x : ℕ) → x < n → (slice_index least x < n) × (slice_index labels (slice_index least x) ≡ slice_index labels x)
        × (slice_index first (slice_index labels x) ≤ x) × (slice_index least x ≡ slice_index first (slice_index labels x))
    facts x lt =
        let e = so_far.told x lt in
        elim (so_far.firsts (slice_index labels x) (within x (omega arith))) [
          | inl none ↦ absurd (none.1 x lt (let r : slice_index labels x ≡ slice_index labels x = λ _. slice_index labels x in r))
          | inr some ↦ (omega (arith, e, some.0), ap (slice_index labels) e ∙ some.1, some.2 x lt (λ _. slice_index labels x), e)
        ]

-- cells whose numbers are those of their least cells have the parts of their labels
pub parts_by_label : (labels least part_of : List ℕ) (next : ℕ) → TellsFirstByLabel labels least → NumbersSoFar least (length least) part_of next
    → HaveSameParts labels part_of
parts_by_label labels least part_of next tells numbers x y = (
  (λ s.
      let lx : x < length least = omega (arith, numbers.count, s.0) in
      let ly : y < length least = omega (arith, numbers.count, s.1.0) in (
        omega (arith, tells.count),
        (omega (arith, tells.count), (tells.same y x (omega (arith, tells.count)) (omega (arith, tells.count))).0 ((numbers.same y x ly lx).0 s.1.1)),
      )),
  (λ s.
      let lx : x < length least = omega (arith, tells.count, s.0) in
      let ly : y < length least = omega (arith, tells.count, s.1.0) in
      (omega (arith, numbers.count), (omega (arith, numbers.count), (numbers.same y x ly lx).1 ((tells.same y x s.1.0 s.0).1 s.1.1)))),
)

-- parts without what lies between outside of them are locally closed
pub closed_by_label : (faces : List (List ℕ)) (labels part_of : List ℕ) → length part_of ≡ length faces → HaveNoGap faces labels → HaveSameParts labels part_of
    → IsMultivectorField faces part_of
closed_by_label faces labels part_of count none same = record {
  count = count;
  closed = λ p cells are x y z gap.
      let ix = (are.same x).0 gap.upper in
      let iz = (are.same z).0 gap.lower in
      let s = (same x y).1 (none x y z gap.down gap.further ((same x z).0 (ix.0, (iz.0, iz.1 ∙ sym ix.1)))) in
      gap.outside ((are.same y).1 (s.1.0, s.1.1 ∙ ix.1));
}

-- the cells of a part as a list
listed : (part_of : List ℕ) (p n : ℕ) → (cells : List ℕ) × ((x : ℕ) → Contains cells x ↔ ((x < n) × (slice_index part_of x ≡ p)))
listed part_of p zero = ([], λ x. ((λ c. Contains-none x c), (λ w. absurd (omega (arith, w.0)))))
listed part_of p (suc n) =
    let before = listed part_of p n in
    elim (cases_eq (slice_index part_of n) p) [
      | inl e ↦ (
        before.0 ++ n ∷ [],
        λ x. (
          (λ c. elim (Contains-push_cases before.0 n x c) [
            | inl old ↦ let w = (before.1 x).0 old in (omega (arith, w.0), w.1)
            | inr new ↦ (omega (arith, new), ap (slice_index part_of) (sym new) ∙ e)
          ]),
          (λ w. elim (cases_eq x n) [
            | inl same ↦ subst (Contains (before.0 ++ n ∷ [])) (sym same) (Contains-push before.0 n)
            | inr ne ↦ Contains-append_left before.0 (n ∷ []) x ((before.1 x).1 (omega (arith, w.0), w.1))
          ]),
        ),
      )
      | inr out ↦ (
        before.0,
        λ x. (
          (λ c. let w = (before.1 x).0 c in (omega (arith, w.0), w.1)),
          (λ w. elim (cases_eq x n) [
            | inl same ↦ absurd (out (ap (slice_index part_of) (sym same) ∙ w.1))
            | inr ne ↦ (before.1 x).1 (omega (arith, w.0), w.1)
          ]),
        ),
      )
    ]

-- what lies between two cells of a part is in the part
pub between_in_part : (faces : List (List ℕ)) (part_of : List ℕ) → IsDigraph faces → IsMultivectorField faces part_of → HaveNoGap faces part_of
between_in_part faces part_of digraph field x y z down further s =
    let ly : y < length part_of = omega (arith, face_ends faces digraph x y down, field.count) in
    elim (cases_eq (slice_index part_of y) (slice_index part_of x)) [
      | inl e ↦ (s.0, (ly, e))
      | inr ne ↦
          let cells = listed part_of (slice_index part_of x) (length part_of) in
          let same : AreCellsOf part_of (slice_index part_of x) cells.0 = record { same = cells.1 } in
          absurd (field.closed (slice_index part_of x) cells.0 same x y z (record {
            upper = (cells.1 x).1 (s.0, λ _. slice_index part_of x);
            lower = (cells.1 z).1 s.1;
            outside = λ c. ne ((cells.1 y).0 c).1;
            down = down;
            further = further;
          }))
    ]
