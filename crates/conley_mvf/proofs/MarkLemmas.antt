-- Marking the cells of parts, one list after another
use Rattle.std.proofs.Common.{◌≡◌, inl, inr, ◌+◌, ◌<◌, ◌≤◌, ℕ, List, [], Bool, Some, None, length, get_or, refl, sym, ◌∙◌, subst, arith}
use Rattle.std.specs.Prelude.{Contains, slice_index}
use Rattle.std.proofs.lemmas.Bool.{cases_order}
use Rattle.std.proofs.lemmas.List.{get_or_default}
use Rattle.conley_first.specs.Places.{FindsFirst}
use Rattle.conley_lists.specs.Lists.{IsMarked}
use Rattle.conley_lists.proofs.ListLemmas.{at_list}
use Rattle.conley_mvf.specs.Making.{IsKnown, MarksPart, MarkedSoFar}
use Rattle.conley_mvf.specs.Fault.{IsAt, StoodEarlier}

-- each number of the list, by its place
pub all_below : (xs : List ℕ) (n : ℕ) → ((x : ℕ) → Contains xs x → x < n) → (k d : ℕ) → k < length xs → get_or xs k d < n
all_below xs n below k d lt = below (get_or xs k d) (k, lt, get_or_default xs k (get_or xs k d) d lt)

module _ (lists : List (List ℕ)) (n : ℕ) (seen : List Bool) (so_far : MarkedSoFar lists n seen) where
  earlier_known : (q : ℕ) → StoodEarlier lists n q → IsKnown seen (get_or lists n []) q
  earlier_known q (l, p, x, here, there, before) = elim before [
    | inl less ↦ inl (subst (IsMarked seen) (sym here.1) ((so_far.marks x).1 (l, p, less, there)))
    | inr same ↦ elim same.1 [
      | inl less ↦ let e : get_or (get_or lists n []) p 0 ≡ x = subst (λ k. get_or (get_or lists k []) p 0 ≡ x) same.0 there.1 in inr (p, less, e ∙ sym here.1)
      | inr both ↦ absurd both.1
    ]
  ]

  pub repeat_here : (k : ℕ) (seen' : List Bool) → MarksPart (get_or lists n []) seen seen' (Some k) → FindsFirst (StoodEarlier lists) (Some (n, k))
  repeat_here k seen' marks = (
    elim marks.1 [
      | inl marked ↦
          let w = (so_far.marks (slice_index (get_or lists n []) k)).0 marked in
          (w.0, w.1, slice_index (get_or lists n []) k, (marks.0, refl), w.3, inl w.2)
      | inr here ↦ (n, here.0, slice_index (get_or lists n []) k, (marks.0, refl), (omega (arith, marks.0, here.1), here.2), inr (refl, inl here.1))
    ],
    (λ l q before earlier. elim before [
      | inl less ↦ so_far.none l q less earlier
      | inr same ↦ elim same.1 [
        | inl less ↦ marks.2 q less (earlier_known q (subst (λ i. StoodEarlier lists i q) same.0 earlier))
        | inr both ↦ absurd both.1
      ]
    ]),
  )

  pub so_far_more : (seen' : List Bool) → MarksPart (get_or lists n []) seen seen' None → MarkedSoFar lists (n + 1) seen'
  so_far_more seen' marks = record {
    marks = λ x. (
      (λ m. elim ((marks.1 x).0 m) [
        | inl old ↦ let w = (so_far.marks x).0 old in (w.0, w.1, omega (arith, w.2), w.3)
        | inr new ↦ (n, new.0, omega arith, (new.1, new.2))
      ]),
      (λ w. elim (cases_order w.0 n) [
        | inl e ↦ let at : IsAt lists n w.1 x = subst (λ i. IsAt lists i w.1 x) e w.3 in (marks.1 x).1 (inr (w.1, at.0, at.1))
        | inr other ↦ elim other [ inl less ↦ (marks.1 x).1 (inl ((so_far.marks x).1 (w.0, w.1, less, w.3))) | inr more ↦ absurd (omega (arith, more, w.2)) ]
      ]),
    );
    none = λ l p lt earlier. elim (cases_order l n) [
      | inl e ↦
          let here : StoodEarlier lists n p = subst (λ i. StoodEarlier lists i p) e earlier in
          marks.0 p here.3.0 (earlier_known p here)
      | inr other ↦ elim other [ inl less ↦ so_far.none l p less earlier | inr more ↦ absurd (omega arith) ]
    ];
  }

-- before the first list
pub so_far_none : (lists : List (List ℕ)) (seen : List Bool) → ((x : ℕ) → ¬ IsMarked seen x) → MarkedSoFar lists 0 seen
so_far_none lists seen none = record {
  marks = λ x. ((λ m. absurd (none x m)), (λ w. absurd (omega (arith, w.2))));
  none = λ l p lt _. absurd (omega arith);
}

-- after the last
pub so_far_all : (lists : List (List ℕ)) (n : ℕ) (seen : List Bool) → length lists ≤ n → MarkedSoFar lists n seen → FindsFirst (StoodEarlier lists) None
so_far_all lists n seen le so_far = λ l q earlier. so_far.none l q (omega (arith, at_list lists l q earlier.3.0)) earlier
