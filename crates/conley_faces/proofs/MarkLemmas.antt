-- Numbers that are taken once each, by marks
use Rattle.std.proofs.Common.{◌≡◌, ◌⊎◌, inl, inr, ℕ, ◌+◌, ◌<◌, ◌≤◌, Bool, true, false, List, [], ◌∷◌, ◌++◌, length, get_or, take, sym, ◌∙◌, subst, arith, get_or-set_other, get_or-set_same}
use Rattle.std.specs.Prelude.{Contains, ◌↔◌}
use Rattle.std.proofs.Math.ListN.{set, replicate}
use Rattle.std.proofs.lemmas.Bool.{cases_eq, false≢true}
use Rattle.std.proofs.lemmas.List.{take_more}
use Rattle.std.proofs.lemmas.List.Elements.{Contains-append_left, Contains-append_right, Contains-append_cases, Contains-push, Contains-push_cases}
use Rattle.conley_lists.specs.Lists.{IsMarked, ListedStep}
use Rattle.conley_lists.proofs.ListLemmas.{place_of, Contains-none}
use Rattle.conley_walk.proofs.SearchLemmas.{IsMarked-set, IsMarked-set_cases, unmarked_row}
use Rattle.conley_faces.specs.Closures.{IsInListOf, AreMarked, IsUnmarked}

-- a new row has no mark
pub unmarked_at_first : (n : ℕ) → IsUnmarked (replicate n false)
unmarked_at_first n = record { none = λ y m. false≢true (sym (unmarked_row n y) ∙ m) }

-- nothing is taken yet
pub marked-none : (seen : List Bool) → IsUnmarked seen → AreMarked seen []
marked-none seen unmarked = record { same = λ y. ((λ m. absurd (unmarked.none y m)), (λ c. Contains-none y c)) }

-- the number h is taken and marked
pub marked-more : (seen : List Bool) (taken : List ℕ) (h : ℕ) → h < length seen → AreMarked seen taken → AreMarked (set seen h true) (taken ++ h ∷ [])
marked-more seen taken h lt are = record {
  same = λ y. (
    (λ m. elim (IsMarked-set_cases seen h y m) [
      | inl e ↦ subst (Contains (taken ++ h ∷ [])) (sym e) (Contains-push taken h)
      | inr old ↦ Contains-append_left taken (h ∷ []) y ((are.same y).0 old)
    ]),
    (λ c. elim (Contains-push_cases taken h y c) [
      | inl old ↦ IsMarked-set seen h y lt ((are.same y).1 old)
      | inr e ↦ subst (IsMarked (set seen h true)) e (get_or-set_same seen h true false lt)
    ]),
  );
}

-- what is taken from the list so far
abbrev pub AreTaken : List ℕ → List ℕ → List ℕ → Type 0
AreTaken before list taken = (y : ℕ) → Contains taken y ↔ (Contains before y ⊎ Contains list y)

-- one number more of the list was looked at, and is taken
pub taken-new : (before list taken : List ℕ) (h : ℕ) → AreTaken before list taken → AreTaken before (list ++ h ∷ []) (taken ++ h ∷ [])
taken-new before list taken h so_far y = (
  (λ c. elim (Contains-push_cases taken h y c) [
    | inl old ↦ elim ((so_far y).0 old) [ inl b ↦ inl b | inr l ↦ inr (Contains-append_left list (h ∷ []) y l) ]
    | inr e ↦ inr (subst (Contains (list ++ h ∷ [])) e (Contains-push list h))
  ]),
  (λ d. elim d [
    | inl b ↦ Contains-append_left taken (h ∷ []) y ((so_far y).1 (inl b))
    | inr l ↦ elim (Contains-push_cases list h y l) [
      | inl old ↦ Contains-append_left taken (h ∷ []) y ((so_far y).1 (inr old))
      | inr e ↦ subst (Contains (taken ++ h ∷ [])) e (Contains-push taken h)
    ]
  ]),
)

-- one number more of the list was looked at, and had been taken
pub taken-old : (before list taken : List ℕ) (h : ℕ) → Contains taken h → AreTaken before list taken → AreTaken before (list ++ h ∷ []) taken
taken-old before list taken h had so_far y = (
  (λ c. elim ((so_far y).0 c) [ inl b ↦ inl b | inr l ↦ inr (Contains-append_left list (h ∷ []) y l) ]),
  (λ d. elim d [
    | inl b ↦ (so_far y).1 (inl b)
    | inr l ↦ elim (Contains-push_cases list h y l) [
      | inl old ↦ (so_far y).1 (inr old)
      | inr e ↦ subst (Contains taken) e had
    ]
  ]),
)

-- the list of one cell more is taken
pub listed-more : (lists : List (List ℕ)) (cells : List ℕ) (i : ℕ) (before after : List ℕ) → i < length cells
    → ((y : ℕ) → Contains before y ↔ IsInListOf lists (take i cells) y) →
    AreTaken before (get_or lists (get_or cells i 0) []) after → (y : ℕ) → Contains after y ↔ IsInListOf lists (take (i + 1) cells) y
listed-more lists cells i before after lt so_far are y = rw (take_more cells i 0 lt) (
  (λ c. elim ((are y).0 c) [
    | inl old ↦ let g = (so_far y).0 old in (g.0, (Contains-append_left (take i cells) (get_or cells i 0 ∷ []) g.0 g.1.0, g.1.1))
    | inr new ↦ (get_or cells i 0, (Contains-push (take i cells) (get_or cells i 0), new))
  ]),
  (λ g. elim (Contains-push_cases (take i cells) (get_or cells i 0) g.0 g.1.0) [
    | inl old ↦ (are y).1 (inl ((so_far y).1 (g.0, (old, g.1.1))))
    | inr e ↦ (are y).1 (inr (subst (λ q. ListedStep lists q y) (sym e) g.1.1))
  ]),
)

-- a list joined to what was there is taken
pub taken-append : (before list : List ℕ) → AreTaken before list (before ++ list)
taken-append before list y = (
  (λ c. Contains-append_cases before list y c),
  (λ d. elim d [ inl b ↦ Contains-append_left before list y b | inr l ↦ Contains-append_right before list y l ]),
)

-- no cell, no list
pub listed-none : (lists : List (List ℕ)) (y : ℕ) → Contains {X = ℕ} [] y ↔ IsInListOf lists [] y
listed-none lists y = ((λ c. Contains-none y c), (λ g. Contains-none g.0 g.1.0))

-- what is marked now was before, and the first i numbers of the list aren't
pub record AreLeft (list : List ℕ) (i : ℕ) (before now : List Bool) : Type 0 where
  pub kept : (y : ℕ) → IsMarked now y → IsMarked before y
  pub gone : (y k : ℕ) → k < i → get_or list k 0 ≡ y → ¬ IsMarked now y

-- the mark of one number more is gone
pub left-more : (list : List ℕ) (i : ℕ) (before now : List Bool) → get_or list i 0 < length now → AreLeft list i before now
    → AreLeft list (i + 1) before (set now (get_or list i 0) false)
left-more list i before now lt left = record {
  kept = λ y m. elim (cases_eq y (get_or list i 0)) [
    | inl e ↦ absurd (unmarked y e m)
    | inr ne ↦ left.kept y (sym (get_or-set_other now (get_or list i 0) y false false ne) ∙ m)
  ];
  gone = λ y k below at m. elim (cases_eq y (get_or list i 0)) [
    | inl e ↦ unmarked y e m
    | inr ne ↦ elim (cases_eq k i) [
      | inl same ↦ ne (sym (subst (λ q. get_or list q 0 ≡ y) same at))
      | inr other ↦ left.gone y k (omega arith) at (sym (get_or-set_other now (get_or list i 0) y false false ne) ∙ m)
    ]
  ];
}
  where
    unmarked : (y : ℕ) → y ≡ get_or list i 0 → IsMarked (set now (get_or list i 0) false) y → ⊥
    unmarked y e m = false≢true (sym (get_or-set_same now (get_or list i 0) false false lt) ∙ subst (IsMarked (set now (get_or list i 0) false)) e m)

-- all marks are gone
pub left-none : (list : List ℕ) (i : ℕ) (before now : List Bool) → length list ≤ i → AreMarked before list → AreLeft list i before now → IsUnmarked now
left-none list i before now all are left = record {
  none = λ y m.
      let p = place_of list y ((are.same y).0 (left.kept y m)) in
      left.gone y p.0 (omega (arith, p.1, all)) p.2 m;
}
