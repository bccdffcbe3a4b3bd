-- Generators counted and marked, one after another.
use Rattle.std.proofs.Common.{◌≡◌, ◌≢◌, inl, inr, ℕ, suc, ◌+◌, ◌<◌, ◌==◌, ◌&&◌, ◌||◌, Bool, true, false, List, [], length, set, get_or, Vec, Global, ap, sym, ◌∙◌, arith, refl, subst, get_or-set_other, get_or-set_same}
use Rattle.std.specs.Prelude.{replicate}
use Rattle.std.proofs.Math.ListN.{length-set}
use Rattle.std.proofs.lemmas.Bool.{cases_eq, eq-eqb, ne_eqb, and_from, and_left, and_right, or_right}
use Rattle.std.proofs.lemmas.List.{length-replicate, get_or-replicate, map-set}
use Rattle.conley_lists.specs.Lists.{items_of}
use Rattle.conley_certificate_file.specs.Certificate.{Certificate}
use Rattle.conley_certificate.specs.Tests.{any_below}
use Rattle.conley_certificate.specs.Certificate.{set_count, set_of, dim_of}
use Rattle.conley_certificate.proofs.TestLemmas.{count_below-passed, count_below-missed}
use Rattle.conley_checker.specs.Rows.{AddsOne, AreCounts}

-- one number of one list grows
pub adds_one : (lists : List (List ℕ)) (i k : ℕ) → i < length lists → k < length (get_or lists i [])
    → AddsOne lists (set lists i (set (get_or lists i []) k (get_or (get_or lists i []) k 0 + 1))) i k
adds_one lists i k i_below k_below =
    let row = get_or lists i [] in
    let grown = set row k (get_or row k 0 + 1) in
    let at_i : get_or (set lists i grown) i [] ≡ grown = get_or-set_same lists i grown [] i_below in
    let other : (j : ℕ) → j ≢ i → get_or (set lists i grown) j [] ≡ get_or lists j [] = λ j differ. get_or-set_other lists i j grown [] differ in
    record {
      count = length-set lists i grown;
      widths = λ j. elim (cases_eq j i) [
        | inl same ↦ subst (λ n. length (get_or (set lists i grown) n []) ≡ length (get_or lists n [])) (sym same)
            (ap length at_i ∙ length-set row k (get_or row k 0 + 1))
        | inr differ ↦ ap length (other j differ)
      ];
      here = ap (λ (xs : List ℕ). get_or xs k 0) at_i ∙ get_or-set_same row k (get_or row k 0 + 1) 0 k_below;
      kept = λ j l away. elim (cases_eq j i) [
        | inr differ ↦ ap (λ (xs : List ℕ). get_or xs l 0) (other j differ)
        | inl same ↦ elim away [
          | inl differ ↦ absurd (differ same)
          | inr differ ↦ subst (λ n. get_or (get_or (set lists i grown) n []) l 0 ≡ get_or (get_or lists n []) l 0) (sym same)
              (ap (λ (xs : List ℕ). get_or xs l 0) at_i ∙ get_or-set_other row k l (get_or row k 0 + 1) 0 differ)
        ]
      ];
    }

-- the same where the lists are vectors
pub adds_one_row : (lists : List (Vec ℕ Global)) (i k : ℕ) (old new : Vec ℕ Global) → i < length (items_of lists)
    → get_or (items_of lists) i [] ≡ old.items
    → k < length old.items → new.items ≡ set old.items k (get_or old.items k 0 + 1) → AddsOne (items_of lists) (items_of (set lists i new)) i k
adds_one_row lists i k old new i_below at k_below grown =
    let e : items_of (set lists i new) ≡ set (items_of lists) i (set (get_or (items_of lists) i []) k (get_or (get_or (items_of lists) i []) k 0 + 1)) =
    map-set (λ (row : Vec ℕ Global). row.items) lists i new ∙ ap (λ r. set (items_of lists) i r)
    (grown ∙ ap (λ (r : List ℕ). set r k (get_or r k 0 + 1)) (sym at)) in
    subst (λ l. AddsOne (items_of lists) l i k) (sym e) (adds_one (items_of lists) i k i_below (subst (λ (r : List ℕ). k < length r) (sym at) k_below))

abbrev named_at : Certificate → ℕ → ℕ → ℕ → Bool
named_at C i k g = (set_of C g == i) && (dim_of C g == k)

pub none_counted : (C : Certificate) (levels : ℕ) (counts : List (List ℕ)) → length counts ≡ set_count C
    → ((i : ℕ) → i < set_count C → get_or counts i [] ≡ replicate levels 0) → AreCounts C levels 0 counts
none_counted C levels counts height zeros = record {
  height = height;
  widths = λ i below. ap length (zeros i below) ∙ length-replicate levels 0;
  numbers = λ i k below level. ap (λ (xs : List ℕ). get_or xs k 0) (zeros i below) ∙ get_or-replicate levels k 0 0 level;
}

module _ (C : Certificate) (levels n : ℕ) (counts : List (List ℕ)) (are : AreCounts C levels n counts) where
  -- a generator that names a set and a dimension
  pub counted_more : (new : List (List ℕ)) → set_of C n < set_count C → dim_of C n < levels → AddsOne counts new (set_of C n) (dim_of C n)
      → AreCounts C levels (suc n) new
  counted_more new set_below dim_below adds = record {
    height = adds.count ∙ are.height;
    widths = λ i below. adds.widths i ∙ are.widths i below;
    numbers = λ i k below level. elim (cases_eq (set_of C n) i) [
      | inr differ ↦ adds.kept i k (inl (λ e. differ (sym e))) ∙ are.numbers i k below level
          ∙ sym (count_below-missed n (named_at C i k) (and_left (set_of C n == i) (dim_of C n == k) (ne_eqb _ _ differ)))
      | inl one ↦ elim (cases_eq (dim_of C n) k) [
        | inr differ ↦ adds.kept i k (inr (λ e. differ (sym e))) ∙ are.numbers i k below level
            ∙ sym (count_below-missed n (named_at C i k) (and_right (set_of C n == i) (dim_of C n == k) (ne_eqb _ _ differ)))
        | inl level_is ↦
            let grown : get_or (get_or new i []) k 0 ≡ get_or (get_or counts i []) k 0 + 1 =
            subst (λ a. get_or (get_or new a []) k 0 ≡ get_or (get_or counts a []) k 0 + 1) one
            (subst (λ b. get_or (get_or new (set_of C n) []) b 0 ≡ get_or (get_or counts (set_of C n) []) b 0 + 1) level_is adds.here) in
            omega (arith, grown, are.numbers i k below level)
            ∙ sym (count_below-passed n (named_at C i k) (and_from (set_of C n == i) (dim_of C n == k) (eq-eqb _ _ one) (eq-eqb _ _ level_is)))
      ]
    ];
  }

  -- one that names none
  pub counted_same : ¬ ((set_of C n < set_count C) × (dim_of C n < levels)) → AreCounts C levels (suc n) counts
  counted_same outside = record {
    height = are.height;
    widths = are.widths;
    numbers = λ i k below level. are.numbers i k below level ∙ sym (count_below-missed n (named_at C i k) (elim (cases_eq (set_of C n) i) [
      | inr differ ↦ and_left (set_of C n == i) (dim_of C n == k) (ne_eqb _ _ differ)
      | inl one ↦ elim (cases_eq (dim_of C n) k) [
        | inr differ ↦ and_right (set_of C n == i) (dim_of C n == k) (ne_eqb _ _ differ)
        | inl level_is ↦ absurd (outside (omega (arith, one, below), omega (arith, level_is, level)))
      ]
    ]));
  }

missed : (a b : Bool) → b ≡ false → (a || b) ≡ a
missed true b h = refl
missed false b h = h

-- the sets that the first n generators name are marked
pub record AreMarked (C : Certificate) (n : ℕ) (marks : List Bool) : Type 0 where
  pub width : length marks ≡ set_count C
  pub named : (i : ℕ) → i < set_count C → get_or marks i false ≡ any_below n (λ g. set_of C g == i)

pub none_marked : (C : Certificate) → AreMarked C 0 (replicate (set_count C) false)
none_marked C = record { width = length-replicate (set_count C) false; named = λ i below. get_or-replicate (set_count C) i false false below }

pub marked_more : (C : Certificate) (n : ℕ) (marks : List Bool) → AreMarked C n marks → set_of C n < set_count C
    → AreMarked C (suc n) (set marks (set_of C n) true)
marked_more C n marks are within = record {
  width = length-set marks (set_of C n) true ∙ are.width;
  named = λ i below. elim (cases_eq i (set_of C n)) [
    | inl same ↦
        subst (λ a. get_or (set marks (set_of C n) true) a false ≡ true) (sym same) (get_or-set_same marks (set_of C n) true false
        (omega (arith, within, are.width)))
        ∙ sym (or_right (any_below n (λ g. set_of C g == i)) (set_of C n == i) (eq-eqb _ _ (sym same)))
    | inr differ ↦
        get_or-set_other marks (set_of C n) i true false differ ∙ are.named i below
        ∙ sym (missed (any_below n (λ g. set_of C g == i)) (set_of C n == i) (ne_eqb _ _ (λ e. differ (sym e))))
  ];
}

pub marked_same : (C : Certificate) (n : ℕ) (marks : List Bool) → AreMarked C n marks → ¬ (set_of C n < set_count C) → AreMarked C (suc n) marks
marked_same C n marks are outside = record {
  width = are.width;
  named = λ i below. are.named i below ∙ sym (missed (any_below n (λ g. set_of C g == i)) (set_of C n == i)
      (ne_eqb _ _ (λ e. outside (omega (arith, e, below)))));
}
