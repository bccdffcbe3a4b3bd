-- At most one complex has these cells, in order, and these entries.
use Rattle.std.proofs.Common.{◌≡◌, ◌⊎◌, inl, inr, ◌<◌, ◌≤◌, ℕ, zero, suc, List, [], ◌∷◌, length, map, sym, ◌∙◌, ap, subst, arith}
use Rattle.std.specs.Prelude.{Contains, ◌↔◌}
use Rattle.std.specs.List.{AllPairs}
use Rattle.std.proofs.lemmas.Bool.{cases_lt, cases_order}
use Rattle.conley_field.specs.Arithmetic.{Arithmetic}
use Rattle.conley_chains.specs.Matrix.{entry}
use Rattle.conley_first.specs.First.{Precedes}
use Rattle.conley_lists.proofs.AscendingLemmas.{ascending_once}
use Rattle.conley_lefschetz.specs.Complex.{Layout, IsLayout}
use Rattle.conley_lefschetz.proofs.OnceLemmas.{same_layouts}

-- no two lists stand before each other
pub one_way : (a b : List ℕ) → Precedes a b → ¬ Precedes b a
one_way a [] before after = before
one_way [] (y ∷ b) before after = after
one_way (x ∷ a) (y ∷ b) before after = elim before [
  | inl less ↦ elim after [ inl more ↦ omega (arith, less, more) | inr same ↦ omega (arith, less, same.0) ]
  | inr same ↦ elim after [ inl more ↦ omega (arith, same.0, more) | inr both ↦ one_way a b same.1 both.1 ]
]

-- lists of cells in the order of a number and then place by place
pub cells_once : (number : List ℕ → ℕ) (cells others : List (List ℕ))
    → AllPairs (λ s t. Precedes (number s ∷ s) (number t ∷ t)) cells → AllPairs (λ s t. Precedes (number s ∷ s) (number t ∷ t)) others
    → ((s : List ℕ) → Contains cells s ↔ Contains others s) → cells ≡ others
cells_once number cells others up up' same =
    ascending_once (λ (s t : List ℕ). Precedes (number s ∷ s) (number t ∷ t)) (λ s t before after. one_way (number s ∷ s) (number t ∷ t) before after) []
    cells others (λ i j less lt. up i j [] less lt) (λ i j less lt. up' i j [] less lt) same

-- a fact of the numbers below n holds of one of them, or of none
pub below_cases : (P : ℕ → Type 0) → ((i : ℕ) → P i ⊎ (¬ P i)) → (n : ℕ) → ((i : ℕ) × (i < n) × P i) ⊎ ((i : ℕ) → i < n → ¬ P i)
below_cases P decided zero = inr (λ i lt. absurd (omega (arith, lt)))
below_cases P decided (suc n) = elim (below_cases P decided n) [
  | inl found ↦ inl (found.0, omega (arith, found.1), found.2)
  | inr none ↦ elim (decided n) [
    | inl here ↦ inl (n, omega arith, here)
    | inr not_here ↦ inr (λ i lt. elim (cases_order i n) [
      | inl e ↦ subst (λ (j : ℕ). ¬ P j) (sym e) not_here
      | inr other ↦ elim other [ inl less ↦ none i less | inr more ↦ absurd (omega (arith, more, lt)) ]
    ])
  ]
]

module _ (F : Arithmetic) (label : List ℕ → List ℕ) (dim : List ℕ → ℕ) (a b : Layout) (laws : IsLayout F a) (laws' : IsLayout F b)
    (cells others : List (List ℕ)) (same : cells ≡ others)
    (labels : a.labels ≡ map label cells) (labels' : b.labels ≡ map label others) (dims : a.dims ≡ map dim cells) (dims' : b.dims ≡ map dim others)
    (inside : (x y : ℕ) → x < length cells → y < length cells → entry a.boundary y x ≡ entry b.boundary y x)
    (beyond : (x y : ℕ) → (length cells ≤ x) ⊎ (length cells ≤ y) → entry a.boundary y x ≡ 0)
    (beyond' : (x y : ℕ) → (length others ≤ x) ⊎ (length others ≤ y) → entry b.boundary y x ≡ 0) where
  out : (x y : ℕ) → (length cells ≤ x) ⊎ (length cells ≤ y) → entry a.boundary y x ≡ entry b.boundary y x
  out x y past = beyond x y past ∙ sym (beyond' x y (subst (λ (l : List (List ℕ)). (length l ≤ x) ⊎ (length l ≤ y)) same past))

  entries : (x y : ℕ) → entry a.boundary y x ≡ entry b.boundary y x
  entries x y = elim (cases_lt x (length cells)) [
    | inr past ↦ out x y (inl past)
    | inl lt ↦ elim (cases_lt y (length cells)) [ inr past ↦ out x y (inr past) | inl lt' ↦ inside x y lt lt' ]
  ]

  -- cells, labels, dimensions and entries tell the rest
  pub complexes_once : a ≡ b
  complexes_once = same_layouts F a b laws laws' (labels ∙ ap (map label) same ∙ sym labels') (dims ∙ ap (map dim) same ∙ sym dims') entries
