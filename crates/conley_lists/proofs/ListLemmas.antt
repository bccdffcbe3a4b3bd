-- Lists: their elements, places in ascending lists, and rows of vectors.
use Rattle.std.proofs.Common.{◌≡◌, inl, inr, ◌+◌, ◌<◌, ◌≤◌, ℕ, Bool, false, List, [], ◌∷◌, ◌++◌, length, get_or, take, drop, Vec, Global, refl, sym, ap, ◌∙◌, subst, arith, length-append}
use Rattle.std.specs.Prelude.{All, Contains}
use Rattle.std.specs.List.Sorted.{IsStrictlyIncreasing}
use Rattle.std.proofs.Math.ListN.{length-map}
use Rattle.std.proofs.Math.Seq.{get_or-append_seam}
use Rattle.std.proofs.lemmas.Bool.{cases_eq, cases_lt, cases_order}
use Rattle.std.proofs.lemmas.Grind.{common_steps}
use Rattle.std.proofs.lemmas.List.{get_or-map, get_or_past, get_or_default, map-append, get_or_append_left}
use Rattle.std.proofs.lemmas.List.Elements.{Contains-get_or}
use Rattle.std.proofs.lemmas.List.Kept.{AllPairs-from_increasing}
use Rattle.conley_lists.specs.Lists.{items_of, ListedStep, IsDigraph}

-- a list with no number contains none
pub Contains-none : {P : Type 0} (y : ℕ) → Contains {X = ℕ} [] y → P
Contains-none y h = absurd (omega (arith, h.1))

-- a list with no first place is empty
pub empty_unless : (xs : List ℕ) → (0 < length xs → ⊥) → xs ≡ []
empty_unless [] h = refl
empty_unless (x ∷ xs) h = absurd (h (omega arith))

-- what holds of each number that a list contains holds of all
pub All-from_contained : (P : ℕ → Type 0) (xs : List ℕ) → ((y : ℕ) → Contains xs y → P y) → All P xs
All-from_contained P xs h k d lt = h (get_or xs k d) (Contains-get_or xs k d lt)

pub take_whole : {X : Type 0} (n : ℕ) (xs : List X) → length xs ≤ n → take n xs ≡ xs
take_whole n xs h = grind (arith, common_steps)

-- what an index in the row reads is whether there is a mark
pub read_mark : (row : List Bool) (y : ℕ) (b : Bool) → y < length row → b ≡ get_or row y b → get_or row y false ≡ b
read_mark row y b lt is = get_or_default row y false b lt ∙ sym is

-- where a number stands
pub place_of : (xs : List ℕ) (x : ℕ) → Contains xs x → (k : ℕ) × (k < length xs) × (get_or xs k 0 ≡ x)
place_of xs x c = (c.0, c.1, get_or_default xs c.0 0 x c.1 ∙ c.2)

-- later numbers are larger
pub rises : (xs : List ℕ) → IsStrictlyIncreasing xs → (j k : ℕ) → j < k → k < length xs → get_or xs j 0 < get_or xs k 0
rises xs up j k jk lt = AllPairs-from_increasing xs up j k 0 jk lt

-- no number is less than an earlier one
pub not_falling : (set : List ℕ) → IsStrictlyIncreasing set → (i j : ℕ) → i ≤ j → j < length set → get_or set i 0 ≤ get_or set j 0
not_falling set up i j before below = elim (cases_eq i j) [
  | inl same ↦ omega (arith, ap (λ k. get_or set k 0) same)
  | inr other ↦ omega (arith, rises set up i j (omega arith) below)
]

-- a number that isn't before place j is at least the one there
pub at_least : (xs : List ℕ) → IsStrictlyIncreasing xs → (j k : ℕ) → (k < j → get_or xs j 0 ≤ get_or xs k 0) → k < length xs → get_or xs j 0 ≤ get_or xs k 0
at_least xs up j k before lt = elim (cases_order j k) [
  | inl e ↦ omega (arith, ap (λ i. get_or xs i 0) e)
  | inr other ↦ elim other [ inl jk ↦ omega (arith, rises xs up j k jk lt) | inr kj ↦ before kj ]
]

-- a smaller number stands before
pub stands_before : (xs : List ℕ) → IsStrictlyIncreasing xs → (j k : ℕ) → k < length xs → get_or xs k 0 < get_or xs j 0 → k < j
stands_before xs up j k lt less = elim (cases_order j k) [
  | inl e ↦ absurd (omega (arith, ap (λ i. get_or xs i 0) e))
  | inr other ↦ elim other [ inl jk ↦ absurd (omega (arith, rises xs up j k jk lt)) | inr kj ↦ kj ]
]

-- a greater number at the end
pub increasing-push : (xs : List ℕ) (y : ℕ) → IsStrictlyIncreasing xs → All (λ x. x < y) xs → IsStrictlyIncreasing (xs ++ y ∷ [])
increasing-push xs y up below k within =
    let long = length-append xs (y ∷ []) in
    elim (cases_eq (k + 1) (length xs)) [
      | inl last ↦
          let here = get_or_append_left xs (y ∷ []) 0 k (omega arith) in
          let next : get_or (xs ++ y ∷ []) (k + 1) 0 ≡ y = ap (λ (j : ℕ). get_or (xs ++ y ∷ []) j 0) last ∙ get_or-append_seam xs y [] 0 in
          let less = below k 0 (omega arith) in
          omega arith
      | inr other ↦
          let here = get_or_append_left xs (y ∷ []) 0 k (omega arith) in
          let next = get_or_append_left xs (y ∷ []) 0 (k + 1) (omega arith) in
          let less = up k (omega arith) in
          omega arith
    ]

-- list x is what vector x contains
pub row_of : {T : Type 0} (rows : List (Vec T Global)) (x : ℕ) (row : Vec T Global) → x < length rows → row ≡ get_or rows x row
    → get_or (items_of rows) x [] ≡ row.items
row_of {T} rows x row lt is = get_or-map (λ (r : Vec T Global). r.items) rows x row [] lt ∙ ap (λ (r : Vec T Global). r.items) (sym is)

pub length-items_of : {T : Type 0} (rows : List (Vec T Global)) → length (items_of rows) ≡ length rows
length-items_of rows = simp length-map

-- a slice that was lent whole and written comes back as what was written
pub lent_whole : {X : Type 0} (xs ys : List X) (n : ℕ) → length xs ≡ n → length ys ≡ n → take n (xs ++ drop (length xs) ys) ≡ xs
lent_whole xs ys n a b = grind (arith, common_steps)

pub row_in_range : (rows : List (Vec ℕ Global)) (x : ℕ) (row : Vec ℕ Global) → IsDigraph (items_of rows) → x < length rows → row ≡ get_or rows x row
    → All (λ y. y < length rows) row.items
row_in_range rows x row ok lt is k d l =
    let step : ListedStep (items_of rows) x (get_or row.items k d) = subst (λ q. Contains q (get_or row.items k d)) (sym (row_of rows x row lt is))
    (Contains-get_or row.items k d l) in
    subst (λ n. get_or row.items k d < n) (length-items_of rows) (ok x (get_or row.items k d) step)

-- what one row more, or an earlier one, is read as
module _ {T : Type 0} (rows : List (Vec T Global)) (row : Vec T Global) where
  pub row_at_end : (x n : ℕ) → length (items_of rows) ≡ n → x ≡ n → get_or (items_of (rows ++ row ∷ [])) x [] ≡ row.items
  row_at_end x n height e =
      rw (map-append (λ (r : Vec T Global). r.items) rows (row ∷ []))
      (ap (λ m. get_or (items_of rows ++ row.items ∷ []) m []) (e ∙ sym height) ∙ get_or-append_seam (items_of rows) row.items [] [])

  pub row_before : (x n : ℕ) → length (items_of rows) ≡ n → x < n → get_or (items_of (rows ++ row ∷ [])) x [] ≡ get_or (items_of rows) x []
  row_before x n height lt =
      rw (map-append (λ (r : Vec T Global). r.items) rows (row ∷ []))
      (get_or_append_left (items_of rows) (row.items ∷ []) [] x (omega (arith, height)))

-- a step begins at a node
pub step_begins : (lists : List (List ℕ)) (x y : ℕ) → ListedStep lists x y → x < length lists
step_begins lists x y s = elim (cases_lt x (length lists)) [
  | inl lt ↦ lt
  | inr past ↦ absurd (let t : Contains [] y = subst (λ q. Contains q y) (get_or_past lists x [] past) s in omega (arith, t.1))
]

-- a place is in a list that there is
pub at_list : {A : Type 0} (lists : List (List A)) (l p : ℕ) → p < length (get_or lists l []) → l < length lists
at_list {A} lists l p lt = elim (cases_lt l (length lists)) [
  | inl less ↦ less
  | inr past ↦ let e : get_or lists l [] ≡ [] = get_or_past lists l [] past in absurd (omega (arith, ap length e))
]
