-- Labels in memory and the texts that they are
use Rattle.std.proofs.Common.{◌≡◌, ◌+◌, ◌<◌, ◌≤◌, ℕ, zero, suc, List, [], ◌∷◌, ◌++◌, take, length-append, Bool, inl, inr, subst, true, false, Option, Some, None, Vec, String, string_bytes, map, length, get_or, refl, sym, ◌∙◌, ap, arith, cond}
use Rattle.std.specs.Prelude.{All, Contains, unwrap_or, IfSome, IfNone, is_some, ◌==◌, vec_len, position, bytes_eq, not}
use Rattle.std.specs.List.{position_or_len}
use Rattle.std.specs.declared.alloc.Global.{Global}
use Rattle.std.proofs.lemmas.Bool.{cases_order}
use Rattle.std.proofs.lemmas.Slice.Eq.{bytes_eq-Decides}
use Rattle.std.proofs.lemmas.List.Quantifiers.{position-Some}
use Rattle.std.proofs.lemmas.List.{length-map, take_more, map-append}
use Rattle.std.proofs.lemmas.Bool.Decides.{nat_tests}
use Rattle.conley_json.specs.Meaning.{texts}
use Rattle.conley_first.specs.Places.{FindsFirst, FindsFirstPlace}
use Rattle.conley_lefschetz.proofs.ColumnLemmas.{position_missed}
use Rattle.conley_lefschetz.specs.Listing.{bytes_of}
use Rattle.conley_lefschetz.proofs.TextLemmas.{length-bytes_of, position_or_len-map}
use Rattle.conley_input.specs.Refusals.{IsUnknown}
use Rattle.conley_lists.specs.Lists.{items_of, ListedStep}
use Rattle.conley_lists.proofs.ListLemmas.{row_at_end, row_before, step_begins, at_list}
use Rattle.conley_input.specs.Listing.{cell_of, numbers_of}

pub cell_of-labels : (labels : List (String Global)) (label : List ℕ) → cell_of (bytes_of labels) label ≡ position (λ k. bytes_eq label (string_bytes k)) labels
cell_of-labels labels label =
    rw (position_or_len-map string_bytes (bytes_eq label) labels, length-map) refl

pub some_from_test : (o : Option ℕ) → is_some o ≡ true → o ≡ None → ⊥
some_from_test None e h = cc
some_from_test (Some x) e h = cc

pub texts_filled : (part : Vec (String Global) Global) → false ≡ (vec_len part == 0) → texts part ≡ [] → ⊥
texts_filled part filled empty =
    let e : length part.items ≡ 0 = sym (length-bytes_of part.items) ∙ ap length empty in
    grind (arith, nat_tests, part.ok.0)

module _ (labels : List (List ℕ)) (parts : List (List (List ℕ))) (n : ℕ) (row : List (List ℕ)) (here : get_or parts n [] ≡ row) where
  pub unknown_here : (k : ℕ) → FindsFirstPlace (length row) (λ k. cell_of labels (get_or row k []) ≡ None) (Some k) →
      ((j q : ℕ) → j < n → ¬ IsUnknown labels parts j q) → FindsFirst (IsUnknown labels parts) (Some (n, k))
  unknown_here k found before = (
    rw here (found.0, found.1),
    (λ l q p unknown. elim p [
      | inl less ↦ before l q less unknown
      | inr same ↦ elim same.1 [
        | inl less ↦
            let P : List (List ℕ) → Type 0 = λ r. cell_of labels (get_or r q []) ≡ None in
            let u : IsUnknown labels parts n q = subst (λ i. IsUnknown labels parts i q) same.0 unknown in
            found.2 q less (subst P here u.1)
        | inr both ↦ absurd both.1
      ]
    ]),
  )

  pub known_here : FindsFirstPlace (length row) (λ k. cell_of labels (get_or row k []) ≡ None) None → (q : ℕ) → ¬ IsUnknown labels parts n q
  known_here none q unknown =
      let P : List (List ℕ) → Type 0 = λ r. (q < length r) × (cell_of labels (get_or r q []) ≡ None) in
      let u = subst P here unknown in
      none q u.0 u.1

pub known_past : (labels : List (List ℕ)) (parts : List (List (List ℕ))) (n : ℕ) → length parts ≤ n → ((j q : ℕ) → j < n → ¬ IsUnknown labels parts j q)
    → FindsFirst (IsUnknown labels parts) None
known_past labels parts n le before = λ l q unknown. before l q (omega (arith, at_list parts l q unknown.0)) unknown

-- the number of one label more
pub numbers_more : (labels : List (List ℕ)) (n : ℕ) (part : List (String Global)) (k : ℕ) (label : String Global) (cell : ℕ) (cells : List ℕ) → k < length part
    → label ≡ get_or part k label →
    cell_of labels (string_bytes label) ≡ Some cell → cells ≡ numbers_of labels n (bytes_of (take k part))
    → cells ++ cell ∷ [] ≡ numbers_of labels n (bytes_of (take (k + 1) part))
numbers_more labels n part k label cell cells lt is some so_far =
    let more : take (k + 1) part ≡ take k part ++ label ∷ [] = take_more part k label lt ∙ ap (λ (t : String Global). take k part ++ t ∷ []) (sym is) in
    ap (λ xs. xs ++ cell ∷ []) so_far
    ∙ ap (λ o. numbers_of labels n (bytes_of (take k part)) ++ unwrap_or o n ∷ []) (sym some)
    ∙ sym (ap (λ (ts : List (String Global)). numbers_of labels n (bytes_of ts)) more ∙ ap (λ ts. numbers_of labels n ts)
    (map-append string_bytes (take k part) (label ∷ [])) ∙ map-append (λ label. unwrap_or (cell_of labels label) n) (bytes_of (take k part))
    (string_bytes label ∷ []))

-- the numbers of one part more
pub lists_more : (labels : List (List ℕ)) (n : ℕ) (parts : List (Vec (String Global) Global)) (k : ℕ) (part : Vec (String Global) Global)
    (cells : Vec ℕ Global) (lists : List (Vec ℕ Global)) → k < length parts → part ≡ get_or parts k part →
    cells.items ≡ numbers_of labels n (texts part) → items_of lists ≡ map (numbers_of labels n) (map texts (take k parts))
    → items_of (lists ++ cells ∷ []) ≡ map (numbers_of labels n) (map texts (take (k + 1) parts))
lists_more labels n parts k part cells lists lt is here so_far =
    let more : take (k + 1) parts ≡ take k parts ++ part ∷ [] = take_more parts k part lt ∙ ap (λ (t : Vec (String Global) Global). take k parts ++ t ∷ [])
    (sym is) in
    map-append (λ (r : Vec ℕ Global). r.items) lists (cells ∷ [])
    ∙ ap (λ xs. xs ++ cells.items ∷ []) so_far
    ∙ ap (λ xs. map (numbers_of labels n) (map texts (take k parts)) ++ xs ∷ []) here
    ∙ sym (ap (λ (ps : List (Vec (String Global) Global)). map (numbers_of labels n) (map texts ps)) more
    ∙ ap (λ ts. map (numbers_of labels n) ts) (map-append texts (take k parts) (part ∷ []))
    ∙ map-append (numbers_of labels n) (map texts (take k parts)) (texts part ∷ []))

-- the cells of one list more are cells
pub within_more : (n : ℕ) (lists : List (Vec ℕ Global)) (cells : Vec ℕ Global) → ((k x : ℕ) → ListedStep (items_of lists) k x → x < n)
    → All (λ x. x < n) cells.items → (k x : ℕ) → ListedStep (items_of (lists ++ cells ∷ [])) k x → x < n
within_more n lists cells before here k x s = elim (cases_order k (length (items_of lists))) [
  | inl e ↦ let c = subst (λ r. Contains r x) (row_at_end lists cells k (length (items_of lists)) refl e) s in subst (λ y. y < n) c.2 (here c.0 x c.1)
  | inr other ↦ elim other [
    | inl less ↦ before k x (subst (λ r. Contains r x) (row_before lists cells k (length (items_of lists)) refl less) s)
    | inr past ↦ absurd (omega (
      arith,
      step_begins (items_of (lists ++ cells ∷ [])) k x s,
      ap length (map-append (λ (r : Vec ℕ Global). r.items) lists (cells ∷ [])),
      length-append (items_of lists) (cells.items ∷ []),
    ))
  ]
]

-- the first place that passes is no later than one that passes
passes_by : {A : Type 0} (p : A → Bool) (xs : List A) (k : ℕ) (d : A) → k < length xs → p (get_or xs k d) ≡ true → position_or_len p xs ≤ k
passes_by p [] k d lt t = absurd (omega arith)
passes_by p (x ∷ xs) zero d lt t = let e : cond (not (p x)) (1 + position_or_len p xs) 0 ≡ 0 = ap (λ b. cond (not b) (1 + position_or_len p xs) 0) t in
    omega (arith, e)
passes_by p (x ∷ xs) (suc k) d lt t = by (passes_by p xs k d (omega arith) t) (p x) refl
  where
    by : position_or_len p xs ≤ k → (b : Bool) → p x ≡ b → position_or_len p (x ∷ xs) ≤ suc k
    by rest true e = let f : cond (not (p x)) (1 + position_or_len p xs) 0 ≡ 0 = ap (λ b. cond (not b) (1 + position_or_len p xs) 0) e in omega (arith, f)
    by rest false e = let f : cond (not (p x)) (1 + position_or_len p xs) 0 ≡ 1 + position_or_len p xs =
        ap (λ b. cond (not b) (1 + position_or_len p xs) 0) e in omega (arith, f, rest)

-- the cell with a label, where labels are distinct
module _ (labels : List (List ℕ)) (label : List ℕ) where
  pub cell_of-found : (k : ℕ) → k < length labels → get_or labels k [] ≡ label → ((i j : ℕ) → i < j → j < length labels
      → get_or labels i [] ≡ get_or labels j [] → ⊥) → Some k ≡ cell_of labels label
  cell_of-found k lt e distinct = by (cell_of labels label) refl
    where
      by : (o : Option ℕ) → cell_of labels label ≡ o → Some k ≡ o
      by None none =
          let early = passes_by (bytes_eq label) labels k [] lt ((bytes_eq-Decides label (get_or labels k [])).1 (sym e)) in
          absurd (omega (arith, early, position_missed (bytes_eq label) labels (sym none)))
      by (Some i) some =
          let p = position-Some (bytes_eq label) labels i [] some in
          let at : label ≡ get_or labels i [] = (bytes_eq-Decides label (get_or labels i [])).0 p.1 in
          elim (cases_order i k) [
            | inl same ↦ ap (λ n. Some n) (sym same)
            | inr other ↦ elim other [
              | inl less ↦ absurd (distinct i k less lt (sym at ∙ sym e))
              | inr more ↦ absurd (distinct k i more p.0 (e ∙ at))
            ]
          ]

  pub cell_of-none : ((k : ℕ) → k < length labels → get_or labels k [] ≡ label → ⊥) → None ≡ cell_of labels label
  cell_of-none none = by (cell_of labels label) refl
    where
      by : (o : Option ℕ) → cell_of labels label ≡ o → None ≡ o
      by None e = refl
      by (Some i) some = let p = position-Some (bytes_eq label) labels i [] some in absurd (none i p.0
          (sym ((bytes_eq-Decides label (get_or labels i [])).0 p.1)))

  -- an answer of the search, by what it says of labels
  pub cell_of-is : (o : Option ℕ) → IfSome o (λ k. (k < length labels) × (get_or labels k [] ≡ label))
      → IfNone o ((k : ℕ) → k < length labels → get_or labels k [] ≡ label → ⊥)
      → ((i j : ℕ) → i < j → j < length labels → get_or labels i [] ≡ get_or labels j [] → ⊥) → o ≡ cell_of labels label
  cell_of-is (Some k) some none distinct = cell_of-found k some.0 some.1 distinct
  cell_of-is None some none distinct = cell_of-none none
