-- Different pairs in ascending order.
use Rattle.std.proofs.Common.{◌≡◌, ◌≢◌, inl, inr, ◌+◌, ◌-◌, ◌<◌, ◌≤◌, ℕ, zero, suc, List, Bool, true, false, cond, length, get_or, refl, sym, ap, ◌∙◌, subst, arith, nat_eq}
use Rattle.std.specs.Prelude.{◌==◌, ◌&&◌}
use Rattle.std.specs.List.Sorted.{IsPermutation, IsSorted}
use Rattle.std.specs.Ordering.{ordering_then, is_lt, nat_cmp}
use Rattle.std.specs.declared.cmp.Ordering.{Ordering}
use Rattle.std.specs.declared.cmp.Ordering.TheVariants.{Less, Equal, Greater}
use Rattle.std.proofs.lemmas.Bool.{cases_lt, cases_order, eq-eqb, lt-ltb, le-ltb, false≢true}
use Rattle.std.proofs.lemmas.Bool.Decides.{nat_tests}
use Rattle.std.proofs.lemmas.List.{get_or_default}
use Rattle.std.proofs.lemmas.Map.Keys.{IsDistinct-IsPermutation, IsDistinct-from_apart, apart_from_distinct}
use Rattle.conley_lists.specs.Pairs.{pair_at, IsPairBefore}

-- the order of pairs, as it is derived
abbrev pair_cmp : ℕ × ℕ → ℕ × ℕ → Ordering
pair_cmp a b = ordering_then (nat_cmp a.0 b.0) (nat_cmp a.1 b.1)

abbrev pub same_pair : ℕ × ℕ → ℕ × ℕ → Bool
same_pair a b = nat_eq a.0 b.0 && nat_eq a.1 b.1

pub same_pair-true : (a b : ℕ × ℕ) → same_pair a b ≡ true → a ≡ b
same_pair-true (a, b) (x, y) e =
    let first : a ≡ x = grind (arith, nat_tests) in
    let second : b ≡ y = grind (arith, nat_tests) in
    cc

pub same_pair-itself : (a : ℕ × ℕ) → same_pair a a ≡ true
same_pair-itself a = grind (arith, nat_tests)

same_pair-flips : (a b : ℕ × ℕ) → same_pair a b ≡ same_pair b a
same_pair-flips a b = grind (arith, nat_tests)

same_pair-false : (a b : ℕ × ℕ) → a ≢ b → same_pair a b ≡ false
same_pair-false a b ne = by (same_pair a b) refl
  where
    by : (t : Bool) → same_pair a b ≡ t → t ≡ false
    by true e = absurd (ne (same_pair-true a b e))
    by false e = refl

same_pair-differ : (a b : ℕ × ℕ) → same_pair a b ≡ false → a ≢ b
same_pair-differ a b e same = false≢true (sym e ∙ ap (λ (p : ℕ × ℕ). same_pair a p) (sym same) ∙ same_pair-itself a)

-- what stands not before decides by the first number, and then by the second
not_less : (x y : ℕ) (rest : Ordering) → is_lt (ordering_then (nat_cmp x y) rest) ≡ false → (y ≤ x) × (x ≡ y → is_lt rest ≡ false)
not_less x y rest h = elim (cases_lt x y) [
  | inl less ↦ (let no : true ≡ false = sym (ap (λ b. is_lt (ordering_then (cond b Less (cond (x == y) Equal Greater)) rest)) (lt-ltb x y less)) ∙ h in cc)
  | inr more ↦ (
    more,
    λ same.
        sym (ap (λ b. is_lt (ordering_then (cond b Less (cond (x == y) Equal Greater)) rest)) (le-ltb x y more)
        ∙ ap (λ b. is_lt (ordering_then (cond b Equal Greater) rest)) (eq-eqb x y same)) ∙ h,
  )
]

not_lt : (x y : ℕ) → is_lt (nat_cmp x y) ≡ false → y ≤ x
not_lt x y h = elim (cases_lt x y) [
  | inl less ↦ (let no : true ≡ false = sym (ap (λ b. is_lt (cond b Less (cond (x == y) Equal Greater))) (lt-ltb x y less)) ∙ h in cc)
  | inr more ↦ more
]

-- a pair that is not after the next, and differs from it, is before it
before_next : (a b : ℕ × ℕ) → is_lt (pair_cmp b a) ≡ false → a ≢ b → IsPairBefore a b
before_next a b h ne =
    let first = not_less b.0 a.0 (nat_cmp b.1 a.1) h in
    elim (cases_order a.0 b.0) [
      | inl e ↦
          let second = not_lt b.1 a.1 (first.1 (sym e)) in
          elim (cases_order a.1 b.1) [
            | inl e' ↦ absurd (ne (pair_equal a b e e'))
            | inr other ↦ elim other [ inl less ↦ inr (e, less) | inr more ↦ absurd (omega arith) ]
          ]
      | inr other ↦ elim other [ inl less ↦ inl less | inr more ↦ absurd (omega (arith, first.0)) ]
    ]
  where
    pair_equal : (a b : ℕ × ℕ) → a.0 ≡ b.0 → a.1 ≡ b.1 → a ≡ b
    pair_equal (a, b) (x, y) e f = cc

pub before_trans : (a b c : ℕ × ℕ) → IsPairBefore a b → IsPairBefore b c → IsPairBefore a c
before_trans a b c (inl x) (inl y) = inl (omega arith)
before_trans a b c (inl x) (inr y) = inl (omega (arith, y.0))
before_trans a b c (inr x) (inl y) = inl (omega (arith, x.0))
before_trans a b c (inr x) (inr y) = inr (x.0 ∙ y.0, omega (arith, x.1, y.1))

pub before_one_way : (a b : ℕ × ℕ) → IsPairBefore a b → ¬ IsPairBefore b a
before_one_way a b (inl x) (inl y) = omega arith
before_one_way a b (inl x) (inr y) = omega (arith, y.0)
before_one_way a b (inr x) (inl y) = omega (arith, x.0)
before_one_way a b (inr x) (inr y) = omega (arith, x.1, y.1)

module _ (pairs sorted : List (ℕ × ℕ)) (permuted : IsPermutation pairs sorted) (in_order : IsSorted pair_cmp sorted)
    (once : (a b : ℕ) → a < b → b < length pairs → pair_at pairs a ≢ pair_at pairs b) where
  apart : (i j : ℕ) (d : ℕ × ℕ) → i < j → j < length sorted → get_or sorted i d ≢ get_or sorted j d
  apart i j d less lt = same_pair-differ _ _ (apart_from_distinct same_pair sorted i j d
      (IsDistinct-IsPermutation same_pair same_pair-flips pairs sorted permuted (IsDistinct-from_apart same_pair pairs
      (λ a b e before within. same_pair-false _ _ (λ equal.
      once a b before within (get_or_default pairs a (0, 0) e (omega (arith, before, within)) ∙ equal ∙ get_or_default pairs b e (0, 0) within)))))
      less lt)

  far : (gap i : ℕ) → i + suc gap < length sorted → IsPairBefore (pair_at sorted i) (pair_at sorted (i + suc gap))
  far zero i lt = subst (λ (k : ℕ). IsPairBefore (pair_at sorted i) (pair_at sorted k)) (omega arith)
      (before_next _ _ (in_order i (0, 0) (omega arith) (omega arith)) (apart i (i + 1) (0, 0) (omega arith) (omega arith)))
  far (suc gap) i lt = before_trans _ _ _ (far gap i (omega arith))
      (subst (λ (k : ℕ). IsPairBefore (pair_at sorted (i + suc gap)) (pair_at sorted k)) (omega arith)
      (before_next _ _ (in_order (i + suc gap) (0, 0) (omega arith) (omega arith)) (apart (i + suc gap) (i + suc gap + 1) (0, 0) (omega arith) (omega arith))))

  pub pairs_ascend : (i j : ℕ) → i < j → j < length sorted → IsPairBefore (pair_at sorted i) (pair_at sorted j)
  pairs_ascend i j less lt =
      let e : i + suc (j - i - 1) ≡ j = omega arith in
      subst (λ (k : ℕ). IsPairBefore (pair_at sorted i) (pair_at sorted k)) e (far (j - i - 1) i (omega arith))
