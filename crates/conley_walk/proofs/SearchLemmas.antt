-- A search: its beginning, its step and its end.
use Rattle.std.proofs.Common.{◌≡◌, ◌⊎◌, inl, inr, ◌+◌, ◌<◌, ℕ, Bool, true, false, cond, List, [], ◌∷◌, ◌++◌, length, get_or, refl, sym, ◌∙◌, subst, arith, length-append, get_or-set_other, get_or-set_same}
use Rattle.std.specs.Prelude.{Contains, not, count_by, ◌↔◌}
use Rattle.std.proofs.Math.ListN.{set, length-set, replicate, length-replicate}
use Rattle.std.proofs.lemmas.List.Elements.{Contains-append_left, Contains-push, Contains-push_cases}
use Rattle.std.proofs.lemmas.List.Sums.{sum_by-set}
use Rattle.std.proofs.lemmas.List.{get_or-replicate, get_or_past}
use Rattle.std.proofs.lemmas.Bool.{cases_eq, cases_lt, false≢true}
use Rattle.conley_walk.specs.Walk.{Reaches}
use Rattle.conley_lists.specs.Lists.{IsMarked, ListedStep}
use Rattle.conley_walk.specs.Search.{MarksAll, Searched, ReachesFrom}
use Rattle.conley_walk.proofs.WalkLemmas.{reaches_itself, reaches_on, reaches_by_step, reaches_least}
use Rattle.conley_lists.proofs.ListLemmas.{Contains-none}

-- nothing is marked yet
pub marks_none : (seen : List Bool) (waiting : List ℕ) → MarksAll [] seen waiting seen waiting
marks_none seen waiting = record {
  kept = λ y h. h;
  heads_marked = λ y h. Contains-none y h;
  only_heads = λ y h. inl h;
  still_waiting = λ y h. h;
  waits_marked = λ y h. inl h;
  width = refl;
  work = refl;
}

-- a mark stays a mark when another is set
pub IsMarked-set : (row : List Bool) (h y : ℕ) → h < length row → IsMarked row y → IsMarked (set row h true) y
IsMarked-set row h y lt m = elim (cases_eq y h) [
  | inl e ↦ subst (λ q. IsMarked (set row h true) q) (sym e) (get_or-set_same row h true false lt)
  | inr ne ↦ get_or-set_other row h y true false ne ∙ m
]

-- a mark stands in the row
pub IsMarked-in_row : (row : List Bool) (y : ℕ) → IsMarked row y → y < length row
IsMarked-in_row row y m = elim (cases_lt y (length row)) [
  | inl lt ↦ lt
  | inr past ↦ absurd (false≢true (sym (get_or_past row y false past) ∙ m))
]

-- and no other mark is new
pub IsMarked-set_cases : (row : List Bool) (h y : ℕ) → IsMarked (set row h true) y → (y ≡ h) ⊎ IsMarked row y
IsMarked-set_cases row h y m = elim (cases_eq y h) [
  | inl e ↦ inl e
  | inr ne ↦ inr (sym (get_or-set_other row h y true false ne) ∙ m)
]

module _ (heads : List ℕ) (seen : List Bool) (waiting : List ℕ) (seen' : List Bool) (waiting' : List ℕ) (h : ℕ)
    (so_far : MarksAll heads seen waiting seen' waiting') where
  -- the next head has its mark
  pub marks_old : IsMarked seen' h → MarksAll (heads ++ h ∷ []) seen waiting seen' waiting'
  marks_old m = record {
    kept = so_far.kept;
    heads_marked = λ y c. elim (Contains-push_cases heads h y c) [ inl d ↦ so_far.heads_marked y d | inr e ↦ subst (IsMarked seen') e m ];
    only_heads = λ y m'. elim (so_far.only_heads y m') [ inl o ↦ inl o | inr p ↦ inr (Contains-append_left heads (h ∷ []) y p.0, p.1) ];
    still_waiting = so_far.still_waiting;
    waits_marked = so_far.waits_marked;
    width = so_far.width;
    work = so_far.work;
  }

  -- the next head is marked now, and waits
  pub marks_new : h < length seen' → get_or seen' h false ≡ false → MarksAll (heads ++ h ∷ []) seen waiting (set seen' h true) (waiting' ++ h ∷ [])
  marks_new lt unmarked = record {
    kept = λ y o. IsMarked-set seen' h y lt (so_far.kept y o);
    heads_marked = λ y c. elim (Contains-push_cases heads h y c) [
      | inl d ↦ IsMarked-set seen' h y lt (so_far.heads_marked y d)
      | inr e ↦ subst (IsMarked (set seen' h true)) e (get_or-set_same seen' h true false lt)
    ];
    only_heads = λ y m. elim (IsMarked-set_cases seen' h y m) [
      | inl e ↦ inr (
        subst (Contains (heads ++ h ∷ [])) (sym e) (Contains-push heads h),
        subst (Contains (waiting' ++ h ∷ [])) (sym e)
            (Contains-push waiting' h),
      )
      | inr o ↦ elim (so_far.only_heads y o) [
        | inl o' ↦ inl o'
        | inr p ↦ inr (Contains-append_left heads (h ∷ []) y p.0, Contains-append_left waiting' (h ∷ []) y p.1)
      ]
    ];
    still_waiting = λ y c. Contains-append_left waiting' (h ∷ []) y (so_far.still_waiting y c);
    waits_marked = λ y c. elim (Contains-push_cases waiting' h y c) [
      | inl d ↦ elim (so_far.waits_marked y d) [ inl w ↦ inl w | inr m ↦ inr (IsMarked-set seen' h y lt m) ]
      | inr e ↦ inr (subst (IsMarked (set seen' h true)) e (get_or-set_same seen' h true false lt))
    ];
    width = length-set seen' h true ∙ so_far.width;
    work =
        let s = sum_by-set (λ b. cond (not b) 1 0) seen' h true false lt in
        let s' : count_by not (set seen' h true) + 1 ≡ count_by not seen' + 0 = rw unmarked at s in
        let w = so_far.work in
        let l = length-append waiting' (h ∷ []) in
        omega (arith, s', w, l);
  }

-- a new row has no mark
pub unmarked_row : (n y : ℕ) → get_or (replicate n false) y false ≡ false
unmarked_row n y = elim (cases_lt y n) [
  | inl lt ↦ get_or-replicate n y false false lt
  | inr past ↦ get_or_past (replicate n false) y false (rw length-replicate past)
]

-- the starts have been marked, and wait
pub search_begins : (lists : List (List ℕ)) (starts : List ℕ) (seen : List Bool) (waiting : List ℕ)
    → MarksAll starts (replicate (length lists) false) [] seen waiting → Searched lists starts seen waiting
search_begins lists starts seen waiting m = record {
  width = m.width ∙ length-replicate (length lists) false;
  begun = m.heads_marked;
  reached = λ y k. (y, (elim (m.only_heads y k) [ inl old ↦ absurd (unmarked y old) | inr new ↦ new.0 ], reaches_itself y));
  waits = λ y c. elim (m.waits_marked y c) [ inl old ↦ Contains-none y old | inr k ↦ k ];
  done = λ x y k free step. elim (m.only_heads x k) [ inl old ↦ absurd (unmarked x old) | inr new ↦ absurd (free new.1) ];
}
  where
    unmarked : (y : ℕ) → IsMarked (replicate (length lists) false) y → ⊥
    unmarked y n = false≢true (sym (unmarked_row (length lists) y) ∙ n)

-- the node that waited last has its heads marked
pub search_goes_on : (lists : List (List ℕ)) (starts : List ℕ) (seen : List Bool) (rest : List ℕ) (x : ℕ) (seen' : List Bool) (rest' : List ℕ)
    → Searched lists starts seen (rest ++ x ∷ []) → MarksAll (get_or lists x []) seen rest seen' rest' → Searched lists starts seen' rest'
search_goes_on lists starts seen rest x seen' rest' s m = record {
  width = m.width ∙ s.width;
  begun = λ y c. m.kept y (s.begun y c);
  reached = λ y k. elim (m.only_heads y k) [
    | inl old ↦ s.reached y old
    | inr new ↦ let r = s.reached x x_marked in (r.0, (r.1.0, reaches_on r.1.1 (reaches_by_step {Step = ListedStep lists} {x = x} {y = y} new.0)))
  ];
  waits = λ y c. elim (m.waits_marked y c) [
    | inl old ↦ m.kept y (s.waits y (Contains-append_left rest (x ∷ []) y old))
    | inr k ↦ k
  ];
  done = λ a b k free step. elim (m.only_heads a k) [
    | inl old ↦ elim (cases_eq a x) [
      | inl e ↦ m.heads_marked b (subst (λ q. ListedStep lists q b) e step)
      | inr ne ↦ m.kept b (s.done a b old (λ c. elim (Contains-push_cases rest x a c) [ inl d ↦ free (m.still_waiting a d) | inr e ↦ ne (sym e) ]) step)
    ]
    | inr new ↦ absurd (free new.1)
  ];
}
  where
    x_marked : IsMarked seen x
    x_marked = s.waits x (Contains-push rest x)

-- with none that waits, the marks are what is reached
pub search_ends : (lists : List (List ℕ)) (starts : List ℕ) (seen : List Bool) → Searched lists starts seen [] → (y : ℕ) → IsMarked seen y
    ↔ ReachesFrom lists starts y
search_ends lists starts seen s y = (
  s.reached y,
  λ r. reaches_least (IsMarked seen) (λ a b step m. s.done a b m (λ c. Contains-none a c) step) r.1.1
      (s.begun r.0 r.1.0),
)

-- what is reached from one start alone
pub reaches_from_one : (lists : List (List ℕ)) (start y : ℕ) → ReachesFrom lists (start ∷ []) y ↔ Reaches (ListedStep lists) start y
reaches_from_one lists start y = (
  (λ r. elim (Contains-push_cases [] start r.0 r.1.0) [
    | inl none ↦ Contains-none r.0 none
    | inr e ↦ subst (λ x. Reaches (ListedStep lists) x y) (sym e) r.1.1
  ]),
  (λ r. (start, (Contains-push [] start, r))),
)
