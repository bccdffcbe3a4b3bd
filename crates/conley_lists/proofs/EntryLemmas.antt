-- Entries of lists, lists put in order, and lists that gain an entry.
use Rattle.std.proofs.Common.{◌≡◌, ◌⊎◌, inl, inr, ◌+◌, ◌-◌, ◌<◌, ◌≤◌, ℕ, zero, suc, List, [], ◌∷◌, ◌++◌, length, get_or, take, drop, Vec, Global, set, replicate, refl, sym, ap, ◌∙◌, subst, arith, append_assoc, length-append, get_or-set_other, get_or-set_same}
use Rattle.std.specs.Prelude.{All, Contains, ◌↔◌, slice_index}
use Rattle.std.specs.List.Sorted.{IsStrictlyIncreasing}
use Rattle.std.proofs.lemmas.Bool.{cases_eq, cases_lt, cases_order}
use Rattle.std.proofs.lemmas.List.{take_more, take-append-drop, map-append, map-set, length-set, get_or_append_left, get_or_past, get_or_default, get_or-append-add, get_or-replicate, length-replicate, take-append-le, append-nil}
use Rattle.std.proofs.Math.Seq.{take-append-add}
use Rattle.std.proofs.lemmas.List.Concat.{flat_map-append, flat_map-cons, length-flat_map}
use Rattle.std.proofs.lemmas.List.Sums.{sum_by-set}
use Rattle.std.proofs.lemmas.List.Elements.{Contains-append_left, Contains-append_right, Contains-push, Contains-push_cases, All-contains, All-append}
use Rattle.conley_lists.specs.Lists.{items_of, ListedStep, IsDigraph, entries_of, IsFirstOutOfRange, IsOrderedCopy, PutsUnder}
use Rattle.conley_lists.proofs.ListLemmas.{Contains-none, row_at_end, row_before}

-- what a list contains is an entry
pub entry_of_step : (lists : List (List ℕ)) (x y : ℕ) → ListedStep lists x y → Contains (entries_of lists) y
entry_of_step [] x y s = absurd (let t : Contains [] y = subst (λ q. Contains q y) (get_or_past {X = List ℕ} [] x [] (omega arith)) s in omega (arith, t.1))
entry_of_step (list ∷ lists) zero y s = rw (flat_map-cons (λ (l : List ℕ). l) list lists) (Contains-append_left list (entries_of lists) y s)
entry_of_step (list ∷ lists) (suc x) y s = rw (flat_map-cons (λ (l : List ℕ). l) list lists)
    (Contains-append_right list (entries_of lists) y (entry_of_step lists x y s))

-- lists whose entries are in range are a digraph
pub digraph_from_entries : (lists : List (List ℕ)) → All (λ y. y < length lists) (entries_of lists) → IsDigraph lists
digraph_from_entries lists all x y s = All-contains (λ q. q < length lists) (entries_of lists) y all (entry_of_step lists x y s)

-- each entry of lists with numbers below n is below n
entry_below : (n : ℕ) (lists : List (List ℕ)) → ((x y : ℕ) → ListedStep lists x y → y < n) → (k : ℕ) → k < length (entries_of lists)
    → slice_index (entries_of lists) k < n
entry_below n [] below k lt = absurd (omega arith)
entry_below n (xs ∷ rest) below k lt = elim (cases_lt k (length xs)) [
  | inl here ↦ omega (arith, get_or_append_left xs (entries_of rest) 0 k here, below 0 (get_or xs k 0) (k, here, get_or_default xs k (get_or xs k 0) 0 here))
  | inr later ↦
      let lt' : k - length xs < length (entries_of rest) = omega (arith, lt, length-append xs (entries_of rest)) in
      let e : length xs + (k - length xs) ≡ k = omega arith in
      omega (
        arith,
        entry_below n rest (λ x y s. below (suc x) y s) (k - length xs) lt',
        get_or-append-add xs (entries_of rest) (k - length xs) 0,
        ap (λ i. get_or (xs ++ entries_of rest) i 0) e,
      )
]

-- in a digraph no entry is out of range
pub none_out_of_range : (lists : List (List ℕ)) → IsDigraph lists → (k : ℕ) → ¬ IsFirstOutOfRange lists k
none_out_of_range lists digraph k first = omega (arith, first.out_of_range, entry_below (length lists) lists digraph k first.is_entry)

-- the entries of joined lists
pub entries_append : (a b : List (Vec ℕ Global)) → entries_of (items_of (a ++ b)) ≡ entries_of (items_of a) ++ entries_of (items_of b)
entries_append a b = rw (map-append (λ (r : Vec ℕ Global). r.items) a b) (flat_map-append (λ (l : List ℕ). l) (items_of a) (items_of b))

-- the entries of one list more
pub entries_more : (rows : List (Vec ℕ Global)) (i : ℕ) (row : Vec ℕ Global) → i < length rows → row ≡ get_or rows i row
    → entries_of (items_of (take (i + 1) rows)) ≡ entries_of (items_of (take i rows)) ++ row.items
entries_more rows i row lt is =
    let more : take (i + 1) rows ≡ take i rows ++ row ∷ [] = take_more rows i row lt ∙ ap (λ (r : Vec ℕ Global). take i rows ++ r ∷ []) (sym is) in
    rw (more, entries_append (take i rows) (row ∷ [])) (ap (λ (q : List ℕ). entries_of (items_of (take i rows)) ++ q) (append-nil row.items))

-- the entries up to a list, in it, and after it
pub entries_split : (rows : List (Vec ℕ Global)) (i : ℕ) (row : Vec ℕ Global) → i < length rows → row ≡ get_or rows i row →
    entries_of (items_of rows) ≡ entries_of (items_of (take i rows)) ++ (row.items ++ entries_of (items_of (drop (i + 1) rows)))
entries_split rows i row lt is =
    ap (λ (q : List (Vec ℕ Global)). entries_of (items_of q)) (sym (take-append-drop (i + 1) rows))
    ∙ entries_append (take (i + 1) rows) (drop (i + 1) rows)
    ∙ ap (λ (q : List ℕ). q ++ entries_of (items_of (drop (i + 1) rows))) (entries_more rows i row lt is)
    ∙ append_assoc (entries_of (items_of (take i rows))) row.items (entries_of (items_of (drop (i + 1) rows)))

-- the first entry out of range stands where the first of a list does, after the entries before that list
pub first_found : (lists : List (List ℕ)) (before list after : List ℕ) (n place : ℕ) → entries_of lists ≡ before ++ (list ++ after) → length lists ≡ n →
    All (λ y. y < n) before → All (λ y. y < n) (take place list) → place < length list → n ≤ slice_index list place
    → IsFirstOutOfRange lists (length before + place)
first_found lists before list after n place split count b t lt out = record {
  is_entry = rw split (simp length-append (omega arith));
  out_of_range = rw (split, count, get_or-append-add before (list ++ after) place 0, get_or_append_left list after 0 place lt) out;
  before = rw (split, count, take-append-add before (list ++ after) place, take-append-le place list after (omega arith))
      (All-append (λ y. y < n) before (take place list) b t);
}

-- what is in order has the same steps
module _ (copy lists : List (List ℕ)) (ordered : IsOrderedCopy copy lists) where
  pub digraph_same : IsDigraph lists → IsDigraph copy
  digraph_same ok x y s = subst (λ n. y < n) (sym ordered.count) (ok x y ((ordered.same x y).0 s))

-- the entries with one list more
pub entries_push : (rows : List (Vec ℕ Global)) (row : Vec ℕ Global) → entries_of (items_of (rows ++ row ∷ [])) ≡ entries_of (items_of rows) ++ row.items
entries_push rows row = rw (entries_append rows (row ∷ [])) (ap (λ (q : List ℕ). entries_of (items_of rows) ++ q) (append-nil row.items))

-- one list more in order
pub ordered_more : (copies lists : List (Vec ℕ Global)) (copy list : Vec ℕ Global) → IsOrderedCopy (items_of copies) (items_of lists)
    → IsStrictlyIncreasing copy.items → ((y : ℕ) → Contains copy.items y ↔ Contains list.items y) →
    length copy.items ≤ length list.items → IsOrderedCopy (items_of (copies ++ copy ∷ [])) (items_of (lists ++ list ∷ []))
ordered_more copies lists copy list so_far rising has short = record {
  count = simp (map-append, length-append) (omega (arith, so_far.count));
  ascending = λ x. elim (cases_order x n) [
    | inl e ↦ rw (row_at_end copies copy x n refl e) rising
    | inr other ↦ elim other [
      | inl lt ↦ rw (row_before copies copy x n refl lt) (so_far.ascending x)
      | inr past ↦ rw (get_or_past (items_of (copies ++ copy ∷ [])) x [] (simp (map-append, length-append) (omega arith))) (λ k lt. absurd (omega arith))
    ]
  ];
  same = λ x y. elim (cases_order x n) [
    | inl e ↦ rw (row_at_end copies copy x n refl e, row_at_end lists list x n (sym so_far.count) e) (has y)
    | inr other ↦ elim other [
      | inl lt ↦ rw (row_before copies copy x n refl lt, row_before lists list x n (sym so_far.count) lt) (so_far.same x y)
      | inr past ↦
          let none : get_or (items_of (copies ++ copy ∷ [])) x [] ≡ [] = get_or_past (items_of (copies ++ copy ∷ [])) x []
          (simp (map-append, length-append) (omega arith)) in
          let none' : get_or (items_of (lists ++ list ∷ [])) x [] ≡ [] = get_or_past (items_of (lists ++ list ∷ [])) x []
          (simp (map-append, length-append) (omega (arith, so_far.count))) in
          rw (none, none') ((λ h. h), (λ h. h))
    ]
  ];
  entries = rw (entries_push copies copy, entries_push lists list) (simp length-append (omega (arith, so_far.entries, short)));
}
  where
    n : ℕ
    n = length (items_of copies)

-- list x gains the entry y
module _ (lists : List (List ℕ)) (x y : ℕ) (lt : x < length lists) where
  puts_steps : (a b : ℕ) → ListedStep (set lists x (get_or lists x [] ++ y ∷ [])) a b ↔ (ListedStep lists a b ⊎ ((a ≡ x) × (b ≡ y)))
  puts_steps a b = elim (cases_eq a x) [
    | inl e ↦
        let at : get_or (set lists x (get_or lists x [] ++ y ∷ [])) a [] ≡ get_or lists x [] ++ y ∷ [] =
        ap (λ i. get_or (set lists x (get_or lists x [] ++ y ∷ [])) i []) e ∙ get_or-set_same lists x (get_or lists x [] ++ y ∷ []) [] lt in
        let P : List ℕ → Type 0 = λ r. Contains r b in (
          (λ c. elim (Contains-push_cases (get_or lists x []) y b (subst P at c)) [
            | inl d ↦ inl (subst (λ i. ListedStep lists i b) (sym e) d)
            | inr f ↦ inr
                (e, sym f)
          ]),
          (λ s. subst P (sym at) (elim s [
            | inl d ↦ Contains-append_left (get_or lists x []) (y ∷ []) b (subst (λ i. ListedStep lists i b) e d)
            | inr
                f ↦ subst (λ q. Contains (get_or lists x [] ++ y ∷ []) q) (sym f.1) (Contains-push (get_or lists x []) y)
          ])),
        )
    | inr ne ↦
        let at : get_or (set lists x (get_or lists x [] ++ y ∷ [])) a [] ≡ get_or lists a [] = get_or-set_other lists x a (get_or lists x [] ++ y ∷ []) [] ne in
        let P : List ℕ → Type 0 = λ r. Contains r b in
        ((λ c. inl (subst P at c)), (λ s. elim s [ inl d ↦ subst P (sym at) d | inr f ↦ absurd (ne f.0) ]))
  ]

  puts_entries : length (entries_of (set lists x (get_or lists x [] ++ y ∷ []))) ≡ length (entries_of lists) + 1
  puts_entries =
      omega (
        arith,
        length-flat_map (λ (l : List ℕ). l) (set lists x (get_or lists x [] ++ y ∷ [])),
        length-flat_map (λ (l : List ℕ). l) lists,
        sum_by-set (λ (l : List ℕ). length l) lists x (get_or lists x [] ++ y ∷ []) [] lt,
        length-append (get_or lists x []) (y ∷ []),
      )

  pub puts_under : PutsUnder lists (set lists x (get_or lists x [] ++ y ∷ [])) x y
  puts_under = record {
    count = length-set lists x (get_or lists x [] ++ y ∷ []);
    put = get_or-set_same lists x (get_or lists x [] ++ y ∷ []) [] lt;
    kept = λ k ne. get_or-set_other lists x k (get_or lists x [] ++ y ∷ []) [] ne;
    entries = puts_entries;
    steps = puts_steps;
  }

-- the same where the lists are vectors
pub puts_under_rows : (lists : List (Vec ℕ Global)) (x y : ℕ) (old new : Vec ℕ Global) → x < length (items_of lists) → get_or (items_of lists) x [] ≡ old.items
    → new.items ≡ old.items ++ y ∷ [] → PutsUnder (items_of lists) (items_of (set lists x new)) x y
puts_under_rows lists x y old new lt at grown =
    let e : items_of (set lists x new) ≡ set (items_of lists) x (get_or (items_of lists) x [] ++ y ∷ []) =
    map-set (λ (row : Vec ℕ Global). row.items) lists x new ∙ ap (λ r. set (items_of lists) x r) (grown ∙ ap (λ r. r ++ y ∷ []) (sym at)) in
    subst (λ l. PutsUnder (items_of lists) l x y) (sym e) (puts_under (items_of lists) x y lt)

-- lists without entries
pub empty_entries : (n : ℕ) → entries_of (replicate n []) ≡ []
empty_entries zero = refl
empty_entries (suc n) = empty_entries n

-- no step begins there
pub empty_steps : (n x y : ℕ) → ¬ ListedStep (replicate n []) x y
empty_steps n x y c = elim (cases_lt x n) [
  | inl lt ↦ let e : get_or (replicate n (let none : List ℕ = [] in none)) x [] ≡ [] = get_or-replicate n x [] [] lt in
      Contains-none y (subst (λ r. Contains r y) e c)
  | inr ge ↦ let e : get_or (replicate n (let none : List ℕ = [] in none)) x [] ≡ [] = get_or_past (replicate n []) x []
      (omega (arith, length-replicate n (let none : List ℕ = [] in none))) in Contains-none y (subst (λ r. Contains r y) e c)
]
