-- Lists of cells: which they contain, where, and each once.
use Rattle.std.proofs.Common.{◌≡◌, ◌≢◌, ◌⊎◌, inl, inr, ◌+◌, ◌-◌, ◌<◌, ◌≤◌, ℕ, zero, suc, List, [], ◌∷◌, ◌++◌, Bool, true, false, length, map, get_or, refl, sym, ◌∙◌, ap, subst, arith, cond}
use Rattle.std.specs.Prelude.{All, Contains, bytes_eq, not}
use Rattle.std.specs.List.{AllPairs, position_or_len, remove}
use Rattle.std.proofs.lemmas.List.Edits.{length-remove}
use Rattle.std.proofs.lemmas.Bool.{cases_lt, cases_order, cases_Bool, false_from_ne_true, false≢true}
use Rattle.std.proofs.lemmas.Slice.Eq.{bytes_eq-Decides}
use Rattle.std.proofs.lemmas.List.{get_or_default, get_or-map, length-map, length-append, get_or_append_left, get_or-append_right}
use Rattle.conley_lists.proofs.ContainsLemmas.{Contains-rest, Contains-cases}
use Rattle.conley_lists.specs.Lists.{AreApart}

pub test_true : (s t : List ℕ) → s ≡ t → bytes_eq s t ≡ true
test_true s t e = (bytes_eq-Decides s t).1 e

pub test_false : (s t : List ℕ) → s ≢ t → bytes_eq s t ≡ false
test_false s t ne = false_from_ne_true (bytes_eq s t) (λ e. ne ((bytes_eq-Decides s t).0 e))

pub cell_cases : (s t : List ℕ) → (s ≡ t) ⊎ (s ≢ t)
cell_cases s t = elim (cases_Bool (bytes_eq s t)) [
  | inl e ↦ inl ((bytes_eq-Decides s t).0 e)
  | inr e ↦ inr (λ same. false≢true (sym e ∙ test_true s t same))
]

pub Contains-empty : {X P : Type 0} (y : X) → Contains {X = X} [] y → P
Contains-empty y c = absurd (omega (arith, c.1))

pub contains_cases : (cells : List (List ℕ)) (s : List ℕ) → Contains cells s ⊎ (¬ Contains cells s)
contains_cases [] s = inr (λ c. Contains-empty s c)
contains_cases (t ∷ cells) s = elim (cell_cases t s) [
  | inl e ↦ inl (0, omega arith, e)
  | inr ne ↦ elim (contains_cases cells s) [
    | inl c ↦ inl (Contains-rest t cells s c)
    | inr none ↦ inr (λ c. elim (Contains-cases t cells s c) [ inl e ↦ ne (sym e) | inr later ↦ none later ])
  ]
]

-- ---- elements in pairs

module _ {X : Type 0} (R : X → X → Type 0) where
  pub pairs_head : (x : X) (xs : List X) → AllPairs R (x ∷ xs) → All (R x) xs
  pairs_head x xs p k d lt = p 0 (suc k) d (omega arith) (omega (arith, lt))

  pub pairs_tail : (x : X) (xs : List X) → AllPairs R (x ∷ xs) → AllPairs R xs
  pairs_tail x xs p i j d less lt = p (suc i) (suc j) d (omega (arith, less)) (omega (arith, lt))

  pub pairs_append : (xs ys : List X) → AllPairs R xs → AllPairs R ys → All (λ x. All (R x) ys) xs → AllPairs R (xs ++ ys)
  pairs_append xs ys left right across i j d less lt =
      let long = length-append xs ys in
      elim (cases_lt j (length xs)) [
        | inl in_left ↦
            let a = get_or_append_left xs ys d i (omega (arith, less, in_left)) in
            let b = get_or_append_left xs ys d j in_left in
            subst (λ u. R u (get_or (xs ++ ys) j d)) (sym a) (subst (R (get_or xs i d)) (sym b) (left i j d less in_left))
        | inr in_right ↦
            let b = get_or-append_right xs ys (length xs) j d refl in_right in
            elim (cases_lt i (length xs)) [
              | inl first ↦
                  let a = get_or_append_left xs ys d i first in
                  subst (λ u. R u (get_or (xs ++ ys) j d)) (sym a) (subst (R (get_or xs i d)) (sym b)
                  (across i d first (j - length xs) d (omega (arith, lt, long, in_right))))
              | inr second ↦
                  let a = get_or-append_right xs ys (length xs) i d refl second in
                  subst (λ u. R u (get_or (xs ++ ys) j d)) (sym a) (subst (R (get_or ys (i - length xs) d)) (sym b)
                  (right (i - length xs) (j - length xs) d (omega (arith, less, second)) (omega (arith, lt, long, in_right))))
            ]
      ]

-- ---- cells that stand once

pub places_same : (cells : List (List ℕ)) → AreApart cells → (i j : ℕ) → i < length cells → j < length cells → get_or cells i [] ≡ get_or cells j [] → i ≡ j
places_same cells apart i j lt lt' e = elim (cases_order i j) [
  | inl same ↦ same
  | inr other ↦ elim other [ inl less ↦ absurd (apart i j [] less lt' e) | inr more ↦ absurd (apart j i [] more lt (sym e)) ]
]

pub place_in : (cells : List (List ℕ)) (s : List ℕ) → Contains cells s → (position_or_len (bytes_eq s) cells < length cells)
    × (get_or cells (position_or_len (bytes_eq s) cells) [] ≡ s)
place_in [] s c = Contains-empty s c
place_in (t ∷ cells) s c = by (λ later. place_in cells s later) (bytes_eq s t) refl
  where
    by : (Contains cells s → (position_or_len (bytes_eq s) cells < length cells) × (get_or cells (position_or_len (bytes_eq s) cells) [] ≡ s)) → (b : Bool)
        → bytes_eq s t ≡ b → (cond (not b) (1 + position_or_len (bytes_eq s) cells) 0 < length (t ∷ cells))
        × (get_or (t ∷ cells) (cond (not b) (1 + position_or_len (bytes_eq s) cells) 0) [] ≡ s)
    by more true e = (omega arith, sym ((bytes_eq-Decides s t).0 e))
    by more false e = elim (Contains-cases t cells s c) [
      | inl same ↦ absurd (false≢true (sym e ∙ test_true s t same))
      | inr later ↦
          let rest = more later in
          let one : 1 + position_or_len (bytes_eq s) cells ≡ suc (position_or_len (bytes_eq s) cells) = omega arith in
          (omega (arith, rest.0), ap (λ k. get_or (t ∷ cells) k []) one ∙ rest.1)
    ]

pub place_once : (cells : List (List ℕ)) → AreApart cells → (k : ℕ) → k < length cells → (s : List ℕ) → get_or cells k [] ≡ s
    → position_or_len (bytes_eq s) cells ≡ k
place_once cells apart k lt s e =
    let there = place_in cells s (k, lt, get_or_default cells k s [] lt ∙ e) in
    places_same cells apart _ k there.0 lt (there.1 ∙ sym e)

-- cells behind one number, and one cell more
pub behind_apart : (v : ℕ) (cells : List (List ℕ)) → AreApart cells → AreApart (map (λ t. v ∷ t) cells)
behind_apart v cells apart i j d less lt e =
    let n = length-map cells (λ (t : List ℕ). v ∷ t) in
    let a = get_or-map (λ (t : List ℕ). v ∷ t) cells i [] d (omega (arith, less, lt, n)) in
    let b = get_or-map (λ (t : List ℕ). v ∷ t) cells j [] d (omega (arith, lt, n)) in
    let both : v ∷ get_or cells i [] ≡ v ∷ get_or cells j [] = sym a ∙ e ∙ b in
    apart i j [] less (omega (arith, lt, n)) (cc)

pub apart_cons : (s : List ℕ) (cells : List (List ℕ)) → All (λ t. s ≢ t) cells → AreApart cells → AreApart (s ∷ cells)
apart_cons s cells differ apart zero zero d less lt = absurd (omega (arith, less))
apart_cons s cells differ apart zero (suc j) d less lt = differ j d (omega (arith, lt))
apart_cons s cells differ apart (suc i) zero d less lt = absurd (omega (arith, less))
apart_cons s cells differ apart (suc i) (suc j) d less lt = apart i j d (omega (arith, less)) (omega (arith, lt))

-- what a list contains, at its place
pub cell_at : (cells : List (List ℕ)) (s : List ℕ) → Contains cells s → (k : ℕ) × (k < length cells) × (get_or cells k [] ≡ s)
cell_at cells s c = (c.0, c.1, get_or_default cells c.0 [] s c.1 ∙ c.2)

pub contains_at : (cells : List (List ℕ)) (k : ℕ) → k < length cells → Contains cells (get_or cells k [])
contains_at cells k lt = (k, lt, get_or_default cells k (get_or cells k []) [] lt)

-- no more cells than contain them
pub All-contained : (P : List ℕ → Type 0) (cells : List (List ℕ)) → ((s : List ℕ) → Contains cells s → P s) → All P cells
All-contained P cells h k d lt = h (get_or cells k d) (k, lt, get_or_default cells k (get_or cells k d) d lt)

-- ---- cells that stand once, among others, are no more than those

drop_place : (cells : List (List ℕ)) (k : ℕ) → k < length cells → (s : List ℕ) → Contains cells s → get_or cells k [] ≢ s → Contains (remove cells k) s
drop_place [] k lt s c ne = absurd (omega (arith, lt))
drop_place (t ∷ cells) zero lt s c ne = elim (Contains-cases t cells s c) [ inl e ↦ absurd (ne (sym e)) | inr later ↦ later ]
drop_place (t ∷ cells) (suc k) lt s c ne = elim (Contains-cases t cells s c) [
  | inl e ↦ (0, omega arith, sym e)
  | inr later ↦ Contains-rest t (remove cells k) s (drop_place cells k (omega (arith, lt)) s later ne)
]

pub most_cells : (cells some : List (List ℕ)) → AreApart some → All (Contains cells) some → length some ≤ length cells
most_cells cells [] apart among = omega arith
most_cells cells (s ∷ some) apart among =
    let place = cell_at cells s (among 0 s (omega arith)) in
    let differ = pairs_head (λ (t : List ℕ) (u : List ℕ). t ≢ u) s some apart in
    let rest = most_cells (remove cells place.0) some (pairs_tail (λ (t : List ℕ) (u : List ℕ). t ≢ u) s some apart)
    (λ k d lt. drop_place cells place.0 place.1 (get_or some k d) (among (suc k) d (omega (arith, lt))) (λ e. differ k d lt (sym place.2 ∙ e))) in
    omega (arith, rest, length-remove cells place.0 place.1)
