-- The last of ascending numbers, and stages of nodes.
use Rattle.std.proofs.Common.{◌≡◌, inl, inr, ◌+◌, ◌-◌, ◌<◌, ◌≤◌, ℕ, List, [], ◌∷◌, ◌++◌, length, get_or, take, drop, refl, sym, ap, ◌∙◌, subst, arith, length-append, get_or-drop, length-drop}
use Rattle.std.specs.Prelude.{Contains}
use Rattle.std.specs.List.Sorted.{IsStrictlyIncreasing}
use Rattle.std.proofs.Math.Seq.{get_or-append_seam}
use Rattle.std.proofs.lemmas.Bool.{cases_lt}
use Rattle.std.proofs.lemmas.List.{take_all, take_more, get_or_append_left, get_or_past}
use Rattle.std.proofs.lemmas.List.Elements.{Contains-get_or}
use Rattle.conley_walk.specs.Walk.{Reaches}
use Rattle.conley_lists.specs.Lists.{ListedStep}
use Rattle.conley_lists.proofs.ListLemmas.{rises, place_of}
use Rattle.conley_digraph.specs.declared.search.Stage.{Stage}
use Rattle.conley_digraph.specs.declared.search.Stage.TheVariants.{New, Open, Closed}
use Rattle.conley_digraph.specs.Search.{stage_of, IsMet}

-- a list with a last number
pub split_last : (xs : List ℕ) → 0 < length xs → xs ≡ take (length xs - 1) xs ++ get_or xs (length xs - 1) 0 ∷ []
split_last xs h = sym (take_all (length xs - 1 + 1) xs (omega arith)) ∙ take_more xs (length xs - 1) 0 (omega arith)

-- what stands before the last of ascending numbers
module _ (xs : List ℕ) (y : ℕ) (up : IsStrictlyIncreasing (xs ++ y ∷ [])) where
  pub increasing_before : IsStrictlyIncreasing xs
  increasing_before k lt =
      let next = up k (omega (arith, lt, length-append xs (y ∷ []))) in
      let here : k < length xs = omega arith in
      omega (arith, next, get_or_append_left xs (y ∷ []) 0 k here, get_or_append_left xs (y ∷ []) 0 (k + 1) lt)

  pub before_last : (u : ℕ) → Contains xs u → u < y
  before_last u c =
      let at = place_of xs u c in
      let less = rises (xs ++ y ∷ []) up at.0 (length xs) at.1 (omega (arith, length-append xs (y ∷ []))) in
      omega (arith, less, get_or_append_left xs (y ∷ []) 0 at.0 at.1, at.2, get_or-append_seam xs y [] 0)

-- what stands from a place on
pub from_place : (xs : List ℕ) (q y : ℕ) → Contains (drop q xs) y → (p : ℕ) × (q ≤ p) × (p < length xs) × (get_or xs p 0 ≡ y)
from_place xs q y c =
    let at = place_of (drop q xs) y c in
    (q + at.0, omega arith, omega (arith, at.1, length-drop q xs), sym (get_or-drop q xs at.0 0) ∙ at.2)

pub stands_from : (xs : List ℕ) (q p : ℕ) → q ≤ p → p < length xs → Contains (drop q xs) (get_or xs p 0)
stands_from xs q p le lt =
    let at : get_or (drop q xs) (p - q) 0 ≡ get_or xs p 0 = get_or-drop q xs (p - q) 0 ∙ (let e : q + (p - q) ≡ p = omega arith in ap (λ i. get_or xs i 0) e) in
    subst (Contains (drop q xs)) at (Contains-get_or (drop q xs) (p - q) 0 (omega (arith, length-drop q xs)))

-- stages are told apart
pub new_open : {P : Type 0} (p : ℕ) (t : Stage) → t ≡ New → t ≡ Open p → P
new_open p t e f = let clash : New ≡ Open p = sym e ∙ f in absurd (cc)

pub new_closed : {P : Type 0} (k : ℕ) (t : Stage) → t ≡ New → t ≡ Closed k → P
new_closed k t e f = let clash : New ≡ Closed k = sym e ∙ f in absurd (cc)

pub open_closed : {P : Type 0} (p k : ℕ) (t : Stage) → t ≡ Open p → t ≡ Closed k → P
open_closed p k t e f = let clash : Open p ≡ Closed k = sym e ∙ f in absurd (cc)

pub same_place : (p q : ℕ) (t : Stage) → t ≡ Open p → t ≡ Open q → p ≡ q
same_place p q t e f = let same : Open p ≡ Open q = sym e ∙ f in cc

pub same_class : (k j : ℕ) (t : Stage) → t ≡ Closed k → t ≡ Closed j → k ≡ j
same_class k j t e f = let same : Closed k ≡ Closed j = sym e ∙ f in cc

-- past the last node all are new
pub open_below : (stages : List Stage) (y p : ℕ) → stage_of stages y ≡ Open p → y < length stages
open_below stages y p e = elim (cases_lt y (length stages)) [ inl lt ↦ lt | inr past ↦ new_open p (stage_of stages y) (get_or_past stages y New past) e ]

pub closed_below : (stages : List Stage) (y k : ℕ) → stage_of stages y ≡ Closed k → y < length stages
closed_below stages y k e = elim (cases_lt y (length stages)) [ inl lt ↦ lt | inr past ↦ new_closed k (stage_of stages y) (get_or_past stages y New past) e ]

-- reach between nodes that have two names
pub reaches_at : (lists : List (List ℕ)) (a b c d : ℕ) → a ≡ c → b ≡ d → Reaches (ListedStep lists) c d → Reaches (ListedStep lists) a b
reaches_at lists a b c d e f r = subst (λ z. Reaches (ListedStep lists) a z) (sym f) (subst (λ z. Reaches (ListedStep lists) z d) (sym e) r)

-- what isn't new is met
pub met_unless : (stages : List Stage) (y : ℕ) → (stage_of stages y ≡ New → ⊥) → IsMet stages y
met_unless stages y other = by_stage (stage_of stages y) refl
  where
    by_stage : (t : Stage) → stage_of stages y ≡ t → IsMet stages y
    by_stage New e = absurd (other e)
    by_stage (Open p) e = inl (p, e)
    by_stage (Closed k) e = inr (k, e)
