-- Gaps of sets: where no step out of the set is followed by a walk back, there is none
use Rattle.std.proofs.Common.{◌⊎◌, inl, inr, ℕ, List, [], ◌∷◌, sym, subst}
use Rattle.std.specs.Prelude.{Contains}
use Rattle.std.proofs.lemmas.Bool.{cases_eq}
use Rattle.std.proofs.lemmas.List.Elements.{Contains-append_left, Contains-append_right, Contains-append_cases, Contains-push_cases, Contains-push}
use Rattle.conley_walk.specs.Walk.{Walk, Reaches}
use Rattle.conley_lists.specs.Lists.{ListedStep}
use Rattle.conley_walk.proofs.WalkLemmas.{reaches_on}
use Rattle.conley_lists.proofs.ListLemmas.{Contains-none}
use Rattle.conley_faces.specs.Face.{IsLocallyClosed}

-- a list contains a number, or not
pub contains_cases : (set : List ℕ) (x : ℕ) → Contains set x ⊎ ¬ Contains set x
contains_cases [] x = inr (λ h. Contains-none x h)
contains_cases (y ∷ set) x = elim (cases_eq x y) [
  | inl e ↦ inl (subst (Contains (y ∷ set)) (sym e) (Contains-append_left (y ∷ []) set y (Contains-push [] y)))
  | inr ne ↦ elim (contains_cases set x) [
    | inl h ↦ inl (Contains-append_right (y ∷ []) set x h)
    | inr missing ↦ inr (λ h. elim (Contains-append_cases (y ∷ []) set x h) [
      | inl one ↦ elim (Contains-push_cases [] y x one) [ inl none ↦ Contains-none x none | inr e ↦ ne (sym e) ]
      | inr h' ↦ missing h'
    ])
  ]
]

module _ (lists : List (List ℕ)) (set : List ℕ)
    (stays : (x y z : ℕ) → Contains set x → ListedStep lists x y → ¬ Contains set y → Contains set z → ¬ Reaches (ListedStep lists) y z) where
  -- a walk from the set to a cell from which one leads back stays in the set
  walk_stays : (x : ℕ) (w : List ℕ) (y z : ℕ) → Walk (ListedStep lists) x w y → Contains set x → Contains set z → Reaches (ListedStep lists) y z
      → Contains set y
  walk_stays x [] y z e c d back = subst (Contains set) e c
  walk_stays x (b ∷ w) y z steps c d back = elim (contains_cases set b) [
    | inl inside ↦ walk_stays b w y z steps.1 inside d back
    | inr outside ↦
        let rest : Reaches (ListedStep lists) b y = record { cells = w; walk = steps.1 } in
        absurd (stays x b z c steps.0 outside d (reaches_on rest back))
  ]

  pub closed_by_steps : IsLocallyClosed lists set
  closed_by_steps x y z gap = gap.outside (walk_stays x gap.down.walk.cells y z gap.down.walk.walk gap.upper gap.lower gap.further.walk)
