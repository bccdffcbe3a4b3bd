-- The first cell of the list of each cell.
use Rattle.std.proofs.Common.{◌≡◌, ◌⊎◌, inl, inr, ◌+◌, ◌<◌, ◌≤◌, ℕ, List, [], length, get_or, sym, ◌∙◌, subst, ap, arith, get_or-set_other, get_or-set_same}
use Rattle.std.specs.Prelude.{Contains, ◌↔◌, slice_index}
use Rattle.std.specs.List.Sorted.{IsStrictlyIncreasing}
use Rattle.std.proofs.Math.ListN.{set, length-set}
use Rattle.std.proofs.lemmas.Bool.{cases_eq}
use Rattle.std.proofs.lemmas.List.Elements.{Contains-get_or}
use Rattle.conley_lists.specs.Lists.{ListedStep}
use Rattle.conley_lists.proofs.ListLemmas.{place_of, at_least, step_begins}
use Rattle.conley_faces.proofs.GapLemmas.{contains_cases}
use Rattle.conley_mvf.specs.Partition.{ShareAList}
use Rattle.conley_mvf.specs.Making.{first_in, PutsFirst, TellsFirst, AreLeast}

-- the first n numbers of the list have its first number, all others what they had
pub record PutsSoFar (old new list : List ℕ) (n : ℕ) : Type 0 where
  pub count : length new ≡ length old
  pub put : (k : ℕ) → k < n → slice_index new (slice_index list k) ≡ slice_index list 0
  pub kept : (x : ℕ) → ¬ Contains list x → slice_index new x ≡ slice_index old x

pub puts-more : (old new list : List ℕ) (n : ℕ) → n < length list → slice_index list n < length new → PutsSoFar old new list n
    → PutsSoFar old (set new (slice_index list n) (slice_index list 0)) list (n + 1)
puts-more old new list n lt within so_far = record {
  count = length-set new x first ∙ so_far.count;
  put = λ k below. elim (cases_eq (slice_index list k) x) [
    | inl e ↦ ap (λ i. get_or (set new x first) i 0) e ∙ get_or-set_same new x first 0 within
    | inr ne ↦ get_or-set_other new x (slice_index list k) first 0 ne ∙ so_far.put k (elim (cases_eq k n)
        [ inl same ↦ absurd (ne (ap (slice_index list) same)) | inr other ↦ omega arith ])
  ];
  kept = λ y out. elim (cases_eq y x) [
    | inl e ↦ absurd (out (subst (Contains list) (sym e) (Contains-get_or list n 0 lt)))
    | inr ne ↦ get_or-set_other new x y first 0 ne ∙ so_far.kept y out
  ];
}
  where
    x : ℕ
    x = slice_index list n

    first : ℕ
    first = slice_index list 0

pub puts-all : (old new list : List ℕ) (n : ℕ) → length list ≤ n → PutsSoFar old new list n → PutsFirst old new list
puts-all old new list n le so_far = record {
  count = so_far.count;
  put = λ x c. let p = place_of list x c in ap (slice_index new) (sym p.2) ∙ so_far.put p.0 (omega (arith, p.1));
  kept = so_far.kept;
}

-- one list more
pub tells-more : (lists : List (List ℕ)) (n cells : ℕ) (least new : List ℕ) → TellsFirst lists n cells least → PutsFirst least new (get_or lists n [])
    → TellsFirst lists (n + 1) cells new
tells-more lists n cells least new so_far puts = record {
  count = puts.count ∙ so_far.count;
  cases = λ x lt. elim (contains_cases (get_or lists n []) x) [
    | inl here ↦ inr (n, omega arith, here, puts.put x here)
    | inr out ↦ elim (so_far.cases x lt) [
      | inl none ↦ inl (
        puts.kept x out ∙ none.0,
        λ k below s. elim (cases_eq k n) [
          | inl e ↦ out (subst (λ i. ListedStep lists i x) e s)
          | inr other ↦ none.1 k
              (omega arith) s
        ],
      )
      | inr old ↦ inr (old.0, omega (arith, old.1), old.2, puts.kept x out ∙ old.3)
    ]
  ];
}

-- no number stands in two lists
abbrev pub IsOnce : List (List ℕ) → Type 0
IsOnce lists = (k l x : ℕ) → ListedStep lists k x → ListedStep lists l x → k ≡ l

-- after the last list, where none is empty, each ascends and no number stands in two
module _ (lists : List (List ℕ)) (cells : ℕ) (least : List ℕ) (within : (k x : ℕ) → ListedStep lists k x → x < cells)
    (up : (k : ℕ) → IsStrictlyIncreasing (get_or lists k [])) (once : IsOnce lists)
    (tells : TellsFirst lists (length lists) cells least) where
  -- the first number of a list with a number stands in it, and no number there is less
  first_listed : (k x : ℕ) → ListedStep lists k x → ListedStep lists k (first_in lists k)
  first_listed k x s = let p = place_of (get_or lists k []) x s in Contains-get_or (get_or lists k []) 0 0 (omega (arith, p.1))

  first_low : (k x : ℕ) → ListedStep lists k x → first_in lists k ≤ x
  first_low k x s = let p = place_of (get_or lists k []) x s in omega (
    arith,
    at_least (get_or lists k []) (up k) 0 p.0 (λ below. absurd (omega arith)) p.1,
    p.2,
  )

  -- a cell of a list has its first
  has_first : (k x : ℕ) → k < length lists → ListedStep lists k x → slice_index least x ≡ first_in lists k
  has_first k x lt s = elim (tells.cases x (within k x s)) [
    | inl none ↦ absurd (none.1 k lt s)
    | inr old ↦ old.3 ∙ ap (first_in lists) (once old.0 k x old.2 s)
  ]

  pub are_least : AreLeast least
  are_least = record {
    low = λ x lt. elim (tells.cases x (omega (arith, tells.count))) [
      | inl none ↦ omega (arith, none.0)
      | inr
          old ↦ omega (arith, old.3, first_low old.0 x old.2)
    ];
    fixed = λ x lt. elim (tells.cases x (omega (arith, tells.count))) [
      | inl none ↦ ap (slice_index least) none.0
      | inr old ↦ ap (slice_index least) old.3 ∙ has_first old.0 (first_in lists old.0) old.1 (first_listed old.0 x old.2) ∙ sym old.3
    ];
  }

  -- two cells have one first cell exactly where they are one, or stand in one list
  pub one_first : (x y : ℕ) → x < cells → y < cells → (slice_index least x ≡ slice_index least y) ↔ ((x ≡ y) ⊎ ShareAList lists x y)
  one_first x y lx ly = (there, back)
    where
      there : slice_index least x ≡ slice_index least y → (x ≡ y) ⊎ ShareAList lists x y
      there e = elim (tells.cases x lx) [
        | inl nx ↦ elim (tells.cases y ly) [
          | inl ny ↦ inl (sym nx.0 ∙ e ∙ ny.0)
          | inr oy ↦ absurd (nx.1 oy.0 oy.1 (subst (ListedStep lists oy.0) (sym oy.3 ∙ sym e ∙ nx.0) (first_listed oy.0 y oy.2)))
        ]
        | inr ox ↦ elim (tells.cases y ly) [
          | inl ny ↦ absurd (ny.1 ox.0 ox.1 (subst (ListedStep lists ox.0) (sym ox.3 ∙ e ∙ ny.0) (first_listed ox.0 x ox.2)))
          | inr oy ↦
              let same : first_in lists oy.0 ≡ first_in lists ox.0 = sym oy.3 ∙ sym e ∙ ox.3 in
              let k : ox.0 ≡ oy.0 = once ox.0 oy.0 (first_in lists ox.0) (first_listed ox.0 x ox.2)
              (subst (ListedStep lists oy.0) same (first_listed oy.0 y oy.2)) in
              inr (oy.0, subst (λ i. ListedStep lists i x) k ox.2, oy.2)
        ]
      ]

      back : (x ≡ y) ⊎ ShareAList lists x y → slice_index least x ≡ slice_index least y
      back (inl e) = ap (slice_index least) e
      back (inr s) =
          let lt = step_begins lists s.0 x s.1 in
          has_first s.0 x lt s.1 ∙ sym (has_first s.0 y lt s.2)
