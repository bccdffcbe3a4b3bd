-- Rows of what is lower, their unions, and the covers that they show.
use Rattle.std.proofs.Common.{◌≡◌, ◌≢◌, ◌⊎◌, inl, inr, ◌+◌, ◌*◌, ◌/◌, ◌%◌, ◌<◌, ◌≤◌, ℕ, Bool, true, List, [], ◌∷◌, ◌++◌, length, get_or, Vec, Global, sym, ap, ◌∙◌, subst, arith, length-append, get_or-set_other, get_or-set_same}
use Rattle.std.specs.Prelude.{◌↔◌, bit_or, max}
use Rattle.std.specs.Int.{bit_at}
use Rattle.std.proofs.Math.ListN.{set, length-set}
use Rattle.std.proofs.lemmas.Nat.Bits.{bit_at_or, bit_at-lt}
use Rattle.std.proofs.lemmas.Nat.{div_below}
use Rattle.std.proofs.lemmas.Bool.{cases_eq}
use Rattle.std.proofs.lemmas.List.{map-append}
use Rattle.conley_lists.specs.Lists.{items_of}
use Rattle.conley_lists.proofs.ListLemmas.{row_at_end, row_before}
use Rattle.conley_order.specs.ClassRows.{word_bit}
use Rattle.conley_order.specs.LowerRows.{AreLowerRows, JoinsRow, IsLowerStill, IsCoverBy}

-- the first n words are joined
pub record JoinedSoFar (old new row : List ℕ) (n : ℕ) : Type 0 where
  pub count : length new ≡ length old
  pub low : (j : ℕ) → j < n → get_or new j 0 ≡ bit_or (get_or old j 0) (get_or row j 0)
  pub high : (j : ℕ) → n ≤ j → get_or new j 0 ≡ get_or old j 0

pub joined_more : (old new row : List ℕ) (k : ℕ) → k < length new → JoinedSoFar old new row k
    → JoinedSoFar old (set new k (bit_or (get_or new k 0) (get_or row k 0))) row (k + 1)
joined_more old new row k lt so_far = record {
  count = length-set new k (bit_or (get_or new k 0) (get_or row k 0)) ∙ so_far.count;
  low = λ j less. elim (cases_eq j k) [
    | inl e ↦ rw e (get_or-set_same new k (bit_or (get_or new k 0) (get_or row k 0)) 0 lt ∙ ap (λ w. bit_or w (get_or row k 0)) (so_far.high k (omega arith)))
    | inr ne ↦ get_or-set_other new k j (bit_or (get_or new k 0) (get_or row k 0)) 0 ne ∙ so_far.low j (omega arith)
  ];
  high = λ j most. get_or-set_other new k j (bit_or (get_or new k 0) (get_or row k 0)) 0 (λ e. absurd (omega (arith, e, most))) ∙ so_far.high j (omega arith);
}

max_is_one : (a b : ℕ) → a < 2 → b < 2 → (max a b ≡ 1) ↔ ((a ≡ 1) ⊎ (b ≡ 1))
max_is_one a b la lb = (
  (λ e. elim (cases_eq a 1) [ inl is ↦ inl is | inr ne ↦ inr (omega arith) ]),
  (λ s. elim s [ inl e ↦ omega arith | inr e ↦ omega arith ]),
)

pub joined_all : (old new row : List ℕ) → JoinedSoFar old new row (length old) → JoinsRow old new row
joined_all old new row all = record {
  count = all.count;
  bits = λ b lt.
      let word = all.low (b / 64) (div_below b 64 (length old) (omega arith) (omega arith)) in
      rw (word, bit_at_or) (max_is_one (bit_at (get_or old (b / 64) 0) (b % 64)) (bit_at (get_or row (b / 64) 0) (b % 64))
      (bit_at-lt (get_or old (b / 64) 0) (b % 64)) (bit_at-lt (get_or row (b / 64) 0) (b % 64)));
}

-- one row more of lower sets
pub lower_more : (test : ℕ → ℕ → Bool) (m n : ℕ) (rows : List (Vec ℕ Global)) (row : Vec ℕ Global) → AreLowerRows test m n (items_of rows)
    → m ≤ 64 * length row.items →
    ((q : ℕ) → q < m → (word_bit row.items q ≡ 1) ↔ (test q n ≡ true)) → AreLowerRows test m (n + 1) (items_of (rows ++ row ∷ []))
lower_more test m n rows row so_far wide bits = record {
  height = ap length (map-append (λ (r : Vec ℕ Global). r.items) rows (row ∷ [])) ∙ length-append (items_of rows) (row.items ∷ [])
      ∙ ap (λ k. k + 1) so_far.height;
  width = λ p lp. elim (cases_eq p n) [
    | inl e ↦ rw (row_at_end rows row p n so_far.height e) wide
    | inr ne ↦ rw (row_before rows row p n so_far.height (omega arith)) (so_far.width p (omega arith))
  ];
  bits = λ p q lp lq. elim (cases_eq p n) [
    | inl e ↦ rw (row_at_end rows row p n so_far.height e) (subst (λ k. (word_bit row.items q ≡ 1) ↔ (test q k ≡ true)) (sym e) (bits q lq))
    | inr ne ↦ rw (row_before rows row p n so_far.height (omega arith)) (so_far.bits p q (omega arith) lq)
  ];
}

-- the union of the rows of those of the first n sets that stand in a row
abbrev pub StillSoFar : List (List ℕ) → List ℕ → ℕ → List ℕ → Type 0
StillSoFar lists row n words = (q : ℕ) → q < length lists → (word_bit words q ≡ 1) ↔ ((r : ℕ) × (r < n) × (word_bit row r ≡ 1)
    × (word_bit (get_or lists r []) q ≡ 1))

pub still_same : (lists : List (List ℕ)) (row : List ℕ) (n : ℕ) (words : List ℕ) → StillSoFar lists row n words → word_bit row n ≢ 1
    → StillSoFar lists row (n + 1) words
still_same lists row n words so_far out q lq = (
  (λ e. let w = (so_far q lq).0 e in (w.0, omega (arith, w.1), w.2, w.3)),
  (λ w. elim (cases_eq w.0 n) [
    | inl e ↦ absurd (out (subst (λ k. word_bit row k ≡ 1) e w.2))
    | inr ne ↦ (so_far q lq).1 (w.0, omega (arith, w.1, ne), w.2, w.3)
  ]),
)

pub still_more : (lists : List (List ℕ)) (row : List ℕ) (n : ℕ) (words new : List ℕ) → StillSoFar lists row n words → word_bit row n ≡ 1
    → length lists ≤ 64 * length words → JoinsRow words new (get_or lists n []) → StillSoFar lists row (n + 1) new
still_more lists row n words new so_far is wide joins q lq =
    let bits = joins.bits q (omega (arith, lq, wide)) in (
      (λ e. elim (bits.0 e) [
        | inl old ↦ let w = (so_far q lq).0 old in (w.0, omega (arith, w.1), w.2, w.3)
        | inr here ↦ (n, omega arith, is, here)
      ]),
      (λ w. elim (cases_eq w.0 n) [
        | inl e ↦ bits.1 (inr (subst (λ k. word_bit (get_or lists k []) q ≡ 1) e w.3))
        | inr ne ↦ bits.1 (inl ((so_far q lq).1 (w.0, omega (arith, w.1, ne), w.2, w.3)))
      ]),
    )

-- a row of lower sets and the union of theirs show the covers
pub cover_bits : (test : ℕ → ℕ → Bool) (m : ℕ) (lists : List (List ℕ)) → AreLowerRows test m m lists → (p q : ℕ) (words : List ℕ) → p < m → q < m
    → IsLowerStill lists p words →
    ((word_bit (get_or lists p []) q ≡ 1) × (word_bit words q ≢ 1)) ↔ IsCoverBy test m p q
cover_bits test m lists are p q words lp lq still =
    let height = are.height in
    let at = still q (omega (arith, lq, height)) in (
      (λ h. record {
        upper = lp;
        lower = lq;
        is = (are.bits p q lp lq).0 h.0;
        none = λ r lr rp qr. h.1 (at.1 (r, omega (arith, lr, height), (are.bits p r lp lr).1 rp, (are.bits r q lr lq).1 qr));
      }),
      (λ c. (
        (are.bits p q lp lq).1 c.is,
        (λ e.
            let w = at.0 e in
            let lr : w.0 < m = omega (arith, w.1, height) in
            c.none w.0 lr ((are.bits p w.0 lp lr).0 w.2) ((are.bits w.0 q lr lq).0 w.3)),
      )),
    )

-- the same rows, by a test that agrees
pub lower-same : (test other : ℕ → ℕ → Bool) (m n : ℕ) (lists : List (List ℕ)) → AreLowerRows test m n lists
    → ((p q : ℕ) → p < n → q < m → test q p ≡ other q p) → AreLowerRows other m n lists
lower-same test other m n lists are same = record {
  height = are.height;
  width = are.width;
  bits = λ p q lp lq. subst (λ (b : Bool). (word_bit (get_or lists p []) q ≡ 1) ↔ (b ≡ true)) (same p q lp lq) (are.bits p q lp lq);
}
