-- The heads of each cell, one cell after another.
use Rattle.std.proofs.Common.{◌≡◌, ◌⊎◌, inl, inr, ◌+◌, ◌<◌, ◌≤◌, ℕ, List, [], ◌∷◌, ◌++◌, length, get_or, take, Vec, Global, sym, ap, ◌∙◌, subst, arith, length-append}
use Rattle.std.specs.Prelude.{Contains, ◌↔◌, slice_index}
use Rattle.std.specs.List.Sorted.{IsStrictlyIncreasing}
use Rattle.std.proofs.lemmas.Bool.{cases_eq}
use Rattle.std.proofs.lemmas.List.{take_more, append-nil, map-append}
use Rattle.std.proofs.lemmas.List.Concat.{flat_map-append}
use Rattle.std.proofs.lemmas.List.Elements.{Contains-append_left, Contains-push, Contains-push_cases}
use Rattle.conley_lists.specs.Lists.{items_of, ListedStep, entries_of, IsOrderedCopy}
use Rattle.conley_lists.proofs.ListLemmas.{row_at_end, row_before, step_begins}
use Rattle.conley_lists.proofs.EntryLemmas.{entries_push}
use Rattle.conley_mvf.specs.Partition.{IsInPart}
use Rattle.conley_transitions.specs.Step.{IsNext, HasTransitions}
use Rattle.conley_transitions.specs.Making.{IsNextIn, HasHeads, HasTransitionsSoFar}
use Rattle.conley_transitions.proofs.NextLemmas.{next_listed, next_needs_two, next_is_one}

-- the heads of a cell with the part of these cells
module _ (faces : List (List ℕ)) (part_of : List ℕ) (x : ℕ) (cell : x < length part_of) (cells : List ℕ) (up : IsStrictlyIncreasing cells)
    (same : (y : ℕ) → Contains cells y ↔ IsInPart part_of (slice_index part_of x) y) where
  pub heads_with : (y : ℕ) → 1 < length cells → IsNextIn cells x y → HasHeads faces part_of x (get_or faces x [] ++ y ∷ [])
  heads_with y more next = record {
    steps = λ z. (
      (λ c. elim (Contains-push_cases (get_or faces x []) y z c) [ inl down ↦ inl down | inr e ↦ inr (subst (IsNext part_of x) e is_next) ]),
      (λ s. elim s [
        | inl down ↦ Contains-append_left (get_or faces x []) (y ∷ []) z down
        | inr other ↦ subst (Contains (get_or faces x [] ++ y ∷ [])) (next_is_one part_of x y z is_next other) (Contains-push (get_or faces x []) y)
      ]),
    );
    few = omega (arith, length-append (get_or faces x []) (y ∷ []));
  }
    where
      is_next : IsNext part_of x y
      is_next = next_listed part_of x cells up same cell y more next

  pub heads_without : length cells ≤ 1 → HasHeads faces part_of x (get_or faces x [])
  heads_without few = record {
    steps = λ z. ((λ c. inl c), (λ s. elim s [ inl down ↦ down | inr next ↦ absurd (omega (arith, few, next_needs_two part_of x cells up same z cell next)) ]));
    few = omega arith;
  }

-- the heads of one cell more
pub transitions_more : (faces : List (List ℕ)) (part_of : List ℕ) (n : ℕ) (rows : List (Vec ℕ Global)) (row : Vec ℕ Global) → n < length faces
    → HasTransitionsSoFar faces part_of n (items_of rows) → HasHeads faces part_of n row.items →
    HasTransitionsSoFar faces part_of (n + 1) (items_of (rows ++ row ∷ []))
transitions_more faces part_of n rows row lt so_far has = record {
  count = ap length split ∙ (omega (arith, length-append (items_of rows) (row.items ∷ []), so_far.count));
  steps = λ x y lx. elim (cases_eq x n) [
    | inl e ↦ rw (row_at_end rows row x n so_far.count e) (subst (λ i. Contains row.items y ↔ (ListedStep faces i y ⊎ IsNext part_of i y)) (sym e)
        (has.steps y))
    | inr other ↦ rw (row_before rows row x n so_far.count (omega arith)) (so_far.steps x y (omega arith))
  ];
  entries =
      let more : length (entries_of (take (n + 1) faces)) ≡ length (entries_of (take n faces)) + length (get_or faces n []) =
      ap (λ (l : List (List ℕ)). length (entries_of l)) (take_more faces n [] lt)
      ∙ ap length (flat_map-append (λ (l : List ℕ). l) (take n faces) (get_or faces n [] ∷ [])
      ∙ ap (λ (q : List ℕ). entries_of (take n faces) ++ q) (append-nil (get_or faces n [])))
      ∙ length-append (entries_of (take n faces)) (get_or faces n []) in
      omega (arith, ap length (entries_push rows row), length-append (entries_of (items_of rows)) row.items, so_far.entries, has.few, more);
}
  where
    split : items_of (rows ++ row ∷ []) ≡ items_of rows ++ row.items ∷ []
    split = map-append (λ (r : Vec ℕ Global). r.items) rows (row ∷ [])

-- the heads of all cells, and a copy of them in order
pub transitions_all : (faces : List (List ℕ)) (part_of : List ℕ) (lists : List (List ℕ)) → length part_of ≡ length faces
    → HasTransitionsSoFar faces part_of (length faces) lists → HasTransitions faces part_of lists
transitions_all faces part_of lists count so_far = record {
  count = so_far.count;
  steps = λ x y. (
    (λ s. (so_far.steps x y (omega (arith, step_begins lists x y s, so_far.count))).0 s),
    (λ s. (so_far.steps x y (elim s [ inl down ↦ step_begins faces x y down | inr next ↦ omega (arith, next.part.0, count) ])).1 s),
  );
}

pub transitions_ordered : (faces : List (List ℕ)) (part_of : List ℕ) (copy lists : List (List ℕ)) → IsOrderedCopy copy lists
    → HasTransitions faces part_of lists → HasTransitions faces part_of copy
transitions_ordered faces part_of copy lists ordered has = record {
  count = ordered.count ∙ has.count;
  steps = λ x y. ((λ s. (has.steps x y).0 ((ordered.same x y).0 s)), (λ s. (ordered.same x y).1 ((has.steps x y).1 s)));
}
