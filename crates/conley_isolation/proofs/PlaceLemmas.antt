-- Places in an ascending list, and the first places of parts
use Rattle.std.proofs.Common.{◌≡◌, ◌≢◌, ◌⊎◌, inl, inr, ◌+◌, ◌<◌, ◌≤◌, ℕ, List, [], ◌∷◌, ◌++◌, length, sym, ap, ◌∙◌, subst, arith, length-append}
use Rattle.std.specs.Prelude.{All, Contains, slice_index, ◌↔◌}
use Rattle.std.specs.List.Sorted.{IsStrictlyIncreasing}
use Rattle.std.proofs.Math.Seq.{get_or-append_seam}
use Rattle.std.proofs.lemmas.Bool.{cases_eq, cases_order}
use Rattle.std.proofs.lemmas.List.{get_or_append_left, get_or_default}
use Rattle.std.proofs.lemmas.List.Elements.{Contains-append_left, Contains-get_or, Contains-push, Contains-push_cases}
use Rattle.conley_lists.proofs.ListLemmas.{rises}
use Rattle.conley_mvf.specs.Partition.{IsPartNumber}
use Rattle.conley_isolation.specs.Making.{HaveFirsts, HasFirstsSoFar}

-- a number stands at one place
pub one_place : (xs : List ℕ) → IsStrictlyIncreasing xs → (i j : ℕ) → i < length xs → j < length xs → slice_index xs i ≡ slice_index xs j → i ≡ j
one_place xs up i j li lj e = elim (cases_order i j) [
  | inl same ↦ same
  | inr other ↦ elim other [ inl less ↦ absurd (omega (arith, rises xs up i j less lj, e)) | inr more ↦ absurd (omega (arith, rises xs up j i more li, e)) ]
]

-- one place more
module _ (parts : List ℕ) (n : ℕ) (first first' firsts : List ℕ) (lt : n < length parts) (so_far : HasFirstsSoFar parts n first firsts)
    (width : length first' ≡ length first) (in_row : slice_index parts n < length first)
    (here : ((slice_index first (slice_index parts n) ≡ length parts) × (slice_index first' (slice_index parts n) ≡ n))
    ⊎ ((slice_index first (slice_index parts n) ≢ length parts) × (slice_index first' (slice_index parts n) ≡ slice_index first (slice_index parts n))))
    (others : (p : ℕ) → p ≢ slice_index parts n → slice_index first' p ≡ slice_index first p) where
  -- the first place of the part
  at_part : (slice_index first' (slice_index parts n) ≤ n) × (slice_index parts (slice_index first' (slice_index parts n)) ≡ slice_index parts n)
  at_part = elim here [
    | inl new ↦ (omega (arith, new.1), ap (slice_index parts) new.1)
    | inr old ↦ elim (so_far.met (slice_index parts n) in_row) [
      | inl none ↦ absurd (old.0 none)
      | inr some ↦
          let k = so_far.known some.0 some.1 in
          let e = ap (slice_index first) some.2 in
          (omega (arith, old.1, k.0, e, some.1), ap (slice_index parts) (old.1 ∙ sym e) ∙ k.1 ∙ some.2)
    ]
  ]

  -- an earlier place's first place stays
  stays : (i : ℕ) → i < n → slice_index first' (slice_index parts i) ≡ slice_index first (slice_index parts i)
  stays i li = elim (cases_eq (slice_index parts i) (slice_index parts n)) [
    | inl e ↦ elim here [
      | inl new ↦ absurd (omega (arith, (so_far.known i li).0, ap (slice_index first) e, new.0))
      | inr old ↦ ap (slice_index first') e ∙ old.1 ∙ ap (slice_index first) (sym e)
    ]
    | inr ne ↦ others (slice_index parts i) ne
  ]

  pub firsts-more : (q : ℕ) → q ≡ slice_index first' (slice_index parts n) → HasFirstsSoFar parts (n + 1) first' (firsts ++ q ∷ [])
  firsts-more q is = record {
    count = omega (arith, length-append firsts (q ∷ []), so_far.count);
    told = λ i li. elim (cases_eq i n) [
      | inl e ↦ ap (slice_index (firsts ++ q ∷ [])) (e ∙ sym so_far.count) ∙ get_or-append_seam firsts q [] 0 ∙ is
          ∙ ap (λ k. slice_index first' (slice_index parts k)) (sym e)
      | inr ne ↦
          let less : i < n = omega arith in
          get_or_append_left firsts (q ∷ []) 0 i (omega (arith, so_far.count)) ∙ so_far.told i less ∙ sym (stays i less)
    ];
    known = λ i li. elim (cases_eq i n) [
      | inl e ↦ subst (λ k. (slice_index first' (slice_index parts k) ≤ k) × (slice_index parts (slice_index first' (slice_index parts k)) ≡ slice_index parts
          k)) (sym e) at_part
      | inr ne ↦
          let less : i < n = omega arith in
          let k = so_far.known i less in
          let s = stays i less in
          (omega (arith, s, k.0), ap (slice_index parts) s ∙ k.1)
    ];
    met = λ p lp. elim (cases_eq p (slice_index parts n)) [
      | inl e ↦ inr (n, omega arith, sym e)
      | inr ne ↦ elim (so_far.met p (omega (arith, width))) [
        | inl none ↦ inl (others p ne ∙ none)
        | inr some ↦ inr (some.0, omega (arith, some.1), some.2)
      ]
    ];
  }

-- after the last place
pub firsts-all : (parts : List ℕ) (n : ℕ) (first firsts : List ℕ) → n ≡ length parts → HasFirstsSoFar parts n first firsts → HaveFirsts parts firsts
firsts-all parts n first firsts all so_far = record {
  count = so_far.count ∙ all;
  before = λ i lt. let l : i < n = omega arith in omega (arith, so_far.told i l, (so_far.known i l).0);
  part = λ i lt. let l : i < n = omega arith in ap (slice_index parts) (so_far.told i l) ∙ (so_far.known i l).1;
  same = λ i j li lj e. so_far.told i (omega arith) ∙ ap (slice_index first) e ∙ sym (so_far.told j (omega arith));
}

-- the places of the cells of a list so far, one cell more
pub places-more : (set cells : List ℕ) (n : ℕ) (places : List ℕ) (place : ℕ) → IsStrictlyIncreasing set → place < length set
    → slice_index set place ≡ slice_index cells n →
    ((i : ℕ) → Contains places i ↔ ((i < length set) × ((k : ℕ) × (k < n) × (slice_index cells k ≡ slice_index set i)))) →
    (i : ℕ) → Contains (places ++ place ∷ []) i ↔ ((i < length set) × ((k : ℕ) × (k < n + 1) × (slice_index cells k ≡ slice_index set i)))
places-more set cells n places place up lt is so_far i = (
  (λ c. elim (Contains-push_cases places place i c) [
    | inl old ↦ let w = (so_far i).0 old in (w.0, (w.1.0, omega (arith, w.1.1), w.1.2))
    | inr new ↦ (omega (arith, new), (n, omega arith, sym is ∙ ap (slice_index set) new))
  ]),
  (λ w. elim (cases_eq w.1.0 n) [
    | inl e ↦
        let same : place ≡ i = one_place set up place i lt w.0 (is ∙ ap (slice_index cells) (sym e) ∙ w.1.2) in
        subst (Contains (places ++ place ∷ [])) same (Contains-push places place)
    | inr ne ↦ Contains-append_left places (place ∷ []) i ((so_far i).1 (w.0, (w.1.0, omega (arith, w.1.1, ne), w.1.2)))
  ]),
)

-- and one that isn't in the set
pub places-other : (set cells : List ℕ) (n : ℕ) (places : List ℕ) → ((i : ℕ) → i < length set → slice_index cells n ≡ slice_index set i → ⊥) →
    ((i : ℕ) → Contains places i ↔ ((i < length set) × ((k : ℕ) × (k < n) × (slice_index cells k ≡ slice_index set i)))) →
    (i : ℕ) → Contains places i ↔ ((i < length set) × ((k : ℕ) × (k < n + 1) × (slice_index cells k ≡ slice_index set i)))
places-other set cells n places out so_far i = (
  (λ c. let w = (so_far i).0 c in (w.0, (w.1.0, omega (arith, w.1.1), w.1.2))),
  (λ w. elim (cases_eq w.1.0 n) [
    | inl e ↦ absurd (out i w.0 (ap (slice_index cells) (sym e) ∙ w.1.2))
    | inr ne ↦ (so_far i).1 (w.0, (w.1.0, omega (arith, w.1.1, ne), w.1.2))
  ]),
)

-- the parts of cells are numbers of parts
pub parts_numbered : (part_of set parts : List ℕ) → ((x : ℕ) → Contains set x → x < length part_of) → length parts ≡ length set →
    ((i : ℕ) → i < length set → slice_index parts i ≡ slice_index part_of (slice_index set i)) → All (IsPartNumber part_of) parts
parts_numbered part_of set parts cells count part k d lt =
    let at : k < length set = omega (arith, lt, count) in
    (slice_index set k, (cells (slice_index set k) (Contains-get_or set k 0 at), sym (part k at) ∙ get_or_default parts k 0 d lt))
