-- The covers that rows of lower sets show
use Rattle.std.proofs.Common.{◌≡◌, ◌≢◌, ◌⊎◌, inl, inr, ◌+◌, ◌*◌, ◌/◌, ◌%◌, ◌<◌, ◌≤◌, ℕ, Bool, true, List, [], ◌∷◌, ◌++◌, length, get_or, Vec, Global, refl, sym, ap, ◌∙◌, subst, arith, length-append, get_or-set_other, get_or-set_same}
use Rattle.std.specs.Prelude.{Contains, ◌↔◌, ◌==◌, ◌&&◌, not, slice_index}
use Rattle.std.proofs.Math.Seq.{get_or-append_seam}
use Rattle.std.proofs.lemmas.Bool.{cases_eq}
use Rattle.std.proofs.lemmas.List.{get_or_append_left, get_or_default, length_push}
use Rattle.std.proofs.lemmas.List.Elements.{All-nil, All-push, Contains-push, Contains-push_cases, Contains-append_left}
use Rattle.conley_lists.specs.Lists.{items_of}
use Rattle.conley_lists.proofs.ListLemmas.{row_of}
use Rattle.conley_order.specs.ClassRows.{ClassRows, is_at_or_below, word_bit}
use Rattle.conley_order.specs.LowerRows.{lower_by, AreLowerRows, IsLowerStill, IsCoverBy}
use Rattle.conley_order.proofs.LowerRowLemmas.{cover_bits, lower-same}
use Rattle.conley_transitions.specs.Flow.{Flow}
use Rattle.conley_transitions.specs.Morse.{set_at, IsReachOrder}
use Rattle.conley_lists.specs.Pairs.{IsPairBefore, AreAscending}
use Rattle.conley_graph.specs.Covers.{AreCovers}
use Rattle.conley_morse.specs.Covers.{IsBeforeRow, AreFirstCells, AreCoversSoFar, AddsCovers, lower_test}

-- one pair more at the end
module _ (order : List (ℕ × ℕ)) (pair : ℕ × ℕ) where
  pair_at_end : (i : ℕ) → i ≡ length order → get_or (order ++ pair ∷ []) i (0, 0) ≡ pair
  pair_at_end i e = ap (λ k. get_or (order ++ pair ∷ []) k (0, 0)) e ∙ get_or-append_seam order pair [] (0, 0)

  pair_before : (i : ℕ) → i < length order → get_or (order ++ pair ∷ []) i (0, 0) ≡ get_or order i (0, 0)
  pair_before i lt = get_or_append_left order (pair ∷ []) (0, 0) i lt

  ascending_more : AreAscending order → ((i : ℕ) → i < length order → IsPairBefore (get_or order i (0, 0)) pair) → AreAscending (order ++ pair ∷ [])
  ascending_more up below i j less lt = elim (cases_eq j (length order)) [
    | inl e ↦ let li : i < length order = omega arith in rw (pair_before i li, pair_at_end j e) (below i li)
    | inr ne ↦
        let lj : j < length order = omega (arith, lt, ne, length_push order pair) in
        let li : i < length order = omega arith in
        rw (pair_before i li, pair_before j lj) (up i j less lj)
  ]

pub adds_none : (order : List (ℕ × ℕ)) (lower between : List ℕ) (p : ℕ) → AreAscending order → IsBeforeRow order p → AddsCovers order order lower between p 0
adds_none order lower between p up before = record {
  pairs = λ x y. ((λ h. inl h), (λ s. elim s [ inl h ↦ h | inr w ↦ absurd (omega (arith, w.1)) ]));
  ascending = up;
  before = λ i lt. inl (before i lt);
}

module _ (old new : List (ℕ × ℕ)) (lower between : List ℕ) (p n : ℕ) (so_far : AddsCovers old new lower between p n) where
  next_before : (a : ℕ × ℕ) → IsPairBefore a (p, n) → IsPairBefore a (p, n + 1)
  next_before a (inl less) = inl less
  next_before a (inr e) = inr (e.0, omega (arith, e.1))

  pub adds_same : ¬ ((word_bit lower n ≡ 1) × (word_bit between n ≢ 1)) → AddsCovers old new lower between p (n + 1)
  adds_same out = record {
    pairs = λ x y. (
      (λ h. elim ((so_far.pairs x y).0 h) [ inl o ↦ inl o | inr w ↦ inr (w.0, omega (arith, w.1), w.2, w.3) ]),
      (λ s. elim s [
        | inl o ↦ (so_far.pairs x y).1 (inl o)
        | inr w ↦ elim (cases_eq y n) [
          | inl e ↦ absurd (out (subst (λ k. word_bit lower k ≡ 1) e w.2, subst (λ k. word_bit between k ≢ 1) e w.3))
          | inr ne ↦ (so_far.pairs x y).1 (inr (w.0, omega (arith, w.1, ne), w.2, w.3))
        ]
      ]),
    );
    ascending = so_far.ascending;
    before = λ i lt. next_before (get_or new i (0, 0)) (so_far.before i lt);
  }

  pub adds_more : (word_bit lower n ≡ 1) × (word_bit between n ≢ 1) → AddsCovers old (new ++ (p, n) ∷ []) lower between p (n + 1)
  adds_more is = record {
    pairs = λ x y. (
      (λ h. elim (Contains-push_cases new (p, n) (x, y) h) [
        | inl o ↦ elim ((so_far.pairs x y).0 o) [ inl q ↦ inl q | inr w ↦ inr (w.0, omega (arith, w.1), w.2, w.3) ]
        | inr e ↦
            let f : n ≡ y = ap (λ (a : ℕ × ℕ). a.1) e in
            inr (sym (ap (λ (a : ℕ × ℕ). a.0) e), omega (arith, f), subst (λ k. word_bit lower k ≡ 1) f is.0, subst (λ k. word_bit between k ≢ 1) f is.1)
      ]),
      (λ s. elim s [
        | inl o ↦ Contains-append_left new ((p, n) ∷ []) (x, y) ((so_far.pairs x y).1 (inl o))
        | inr w ↦ elim (cases_eq y n) [
          | inl e ↦
              let same : (p, n) ≡ (x, y) = ap (λ k. (k, n)) (sym w.0) ∙ ap (λ k. (x, k)) (sym e) in
              subst (λ (a : ℕ × ℕ). Contains (new ++ (p, n) ∷ []) a) same (Contains-push new (p, n))
          | inr ne ↦ Contains-append_left new ((p, n) ∷ []) (x, y) ((so_far.pairs x y).1 (inr (w.0, omega (arith, w.1, ne), w.2, w.3)))
        ]
      ]),
    );
    ascending = ascending_more new (p, n) so_far.ascending so_far.before;
    before = λ i lt. elim (cases_eq i (length new)) [
      | inl e ↦ rw (pair_at_end new (p, n) i e) (inr (refl, omega arith))
      | inr ne ↦
          let li : i < length new = omega (arith, lt, ne, length_push new (p, n)) in
          rw (pair_before new (p, n) i li) (next_before (get_or new i (0, 0)) (so_far.before i li))
    ];
  }

-- the covers from one set more
pub covers_more : (test : ℕ → ℕ → Bool) (m n : ℕ) (lists : List (List ℕ)) (words : List ℕ) (old new : List (ℕ × ℕ)) → AreLowerRows test m m lists → n < m
    → IsLowerStill lists n words →
    AreCoversSoFar test m n old → AddsCovers old new (get_or lists n []) words n m → AreCoversSoFar test m (n + 1) new
covers_more test m n lists words old new are lt still so_far adds = record {
  covers = λ p q. (
    (λ h. elim ((adds.pairs p q).0 h) [
      | inl o ↦ let w = (so_far.covers p q).0 o in (omega (arith, w.0), w.1)
      | inr w ↦ (omega (arith, w.0), subst (λ k. IsCoverBy test m k q) (sym w.0) ((cover_bits test m lists are n q words lt w.1 still).0 (w.2, w.3)))
    ]),
    (λ w. elim (cases_eq p n) [
      | inl e ↦
          let c = subst (λ k. IsCoverBy test m k q) e w.1 in
          let bits = (cover_bits test m lists are n q words lt c.lower still).1 c in
          (adds.pairs p q).1 (inr (e, c.lower, bits.0, bits.1))
      | inr ne ↦ (adds.pairs p q).1 (inl ((so_far.covers p q).1 (omega (arith, w.0, ne), w.1)))
    ]),
  );
  ascending = adds.ascending;
  before = λ i li. elim (adds.before i li) [ inl less ↦ omega (arith, less) | inr e ↦ omega (arith, e.0) ];
}

pub covers_none : (test : ℕ → ℕ → Bool) (m : ℕ) → AreCoversSoFar test m 0 []
covers_none test m = record {
  covers = λ p q. ((λ h. absurd (omega (arith, h.1))), (λ w. absurd (omega (arith, w.0))));
  ascending = λ i j less lt. absurd (omega (arith, lt));
  before = λ i lt. absurd (omega (arith, lt));
}

-- covers by the test of reach are covers of reach
pub covers_of_reach : (flow : Flow) (sets : List (List ℕ)) (test : ℕ → ℕ → Bool) (order : List (ℕ × ℕ)) → IsReachOrder flow sets test
    → AreCoversSoFar test (length sets) (length sets) order → AreCovers flow sets order
covers_of_reach flow sets test order reach all = record {
  covers = λ p q. (
    (λ h.
        let c = ((all.covers p q).0 h).1 in
        let r = (reach p q c.upper c.lower).0 c.is in
        record {
          upper = c.upper;
          lower = c.lower;
          differ = r.0;
          reaches = r.1;
          none_between = λ k lk kp kq there on. c.none k lk ((reach p k c.upper lk).1 ((λ e. kp (sym e)), there)) ((reach k q lk c.lower).1 (kq, on));
        }),
    (λ c. (all.covers p q).1 (
      c.upper,
      record {
        upper = c.upper;
        lower = c.lower;
        is = (reach p q c.upper c.lower).1 (c.differ, c.reaches);
        none = λ k lk kp qk.
            let up = (reach p k c.upper lk).0 kp in
            let down = (reach k q lk c.lower).0 qk in
            c.none_between k lk (λ e. up.0 (sym e)) down.0 up.1 down.1;
      },
    )),
  );
  ascending = all.ascending;
}

-- what is read is the first cell of a set
pub first_read : (sets : List (Vec ℕ Global)) (q : ℕ) (set : Vec ℕ Global) (x : ℕ) → q < length sets → set ≡ get_or sets q set
    → 0 < length (get_or (items_of sets) q []) → x ≡ get_or set.items 0 x → get_or (get_or (items_of sets) q []) 0 0 ≡ x
first_read sets q set x lt is some at =
    let row = row_of sets q set lt is in
    let long : 0 < length set.items = omega (arith, some, ap length row) in
    ap (λ (l : List ℕ). get_or l 0 0) row ∙ get_or_default set.items 0 0 x long ∙ sym at

-- one first cell more
pub none_first : (rows : ClassRows) (sets : List (List ℕ)) → AreFirstCells rows sets 0 []
none_first rows sets = record { count = refl; first = λ i below. absurd (omega arith); cells = All-nil (λ x. x < length rows.class_of) }

pub first_more : (rows : ClassRows) (sets : List (List ℕ)) (n : ℕ) (firsts : List ℕ) (x : ℕ) → AreFirstCells rows sets n firsts
    → slice_index (set_at sets n) 0 ≡ x → x < length rows.class_of → AreFirstCells rows sets (n + 1) (firsts ++ x ∷ [])
first_more rows sets n firsts x so_far read cell = record {
  count = length_push firsts x ∙ ap (λ k. k + 1) so_far.count;
  first = λ i below. elim (cases_eq i n) [
    | inl last ↦ ap (λ k. get_or (firsts ++ x ∷ []) k 0) (last ∙ sym so_far.count) ∙ get_or-append_seam firsts x [] 0 ∙ sym read
        ∙ ap (λ k. get_or (set_at sets k) 0 0) (sym last)
    | inr other ↦ get_or_append_left firsts (x ∷ []) 0 i (omega (arith, below, so_far.count)) ∙ so_far.first i (omega arith)
  ];
  cells = All-push (λ x. x < length rows.class_of) firsts x so_far.cells cell;
}

-- rows by first cells are rows by sets
pub lower_by_sets : (rows : ClassRows) (sets : List (List ℕ)) (m : ℕ) (firsts : List ℕ) (lists : List (List ℕ)) → AreFirstCells rows sets m firsts
    → AreLowerRows (lower_by (is_at_or_below rows) firsts) m m lists → AreLowerRows (lower_test rows sets) m m lists
lower_by_sets rows sets m firsts lists are lower = lower-same (lower_by (is_at_or_below rows) firsts) (lower_test rows sets) m m lists lower (λ p q lp lq.
    ap (λ x. not (p == q) && is_at_or_below rows x (slice_index firsts p)) (are.first q lq)
    ∙ ap (λ y. not (p == q) && is_at_or_below rows (slice_index (set_at sets q) 0) y) (are.first p lp))
