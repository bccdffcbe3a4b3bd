-- Ascending lists are told by what they contain
use Rattle.std.proofs.Common.{◌≡◌, ◌⊎◌, inl, inr, ◌<◌, ℕ, zero, suc, List, [], ◌∷◌, length, get_or, refl, sym, ap, ◌∙◌, subst, arith}
use Rattle.std.specs.Prelude.{Contains, ◌↔◌}
use Rattle.std.specs.List.Sorted.{IsStrictlyIncreasing}
use Rattle.std.proofs.lemmas.List.{ext_get_or, get_or_default}
use Rattle.conley_lists.proofs.ListLemmas.{rises}
use Rattle.conley_lists.specs.Lists.{IsOrderedCopy}

-- lists in which each element is before all later ones, by a relation that never holds both ways
module _ {X : Type 0} (Before : X → X → Type 0) (one_way : (x y : X) → Before x y → ¬ Before y x) (d : X) where
  abbrev pub Ascends : List X → Type 0
  Ascends xs = (i j : ℕ) → i < j → j < length xs → Before (get_or xs i d) (get_or xs j d)

  first_or_later : (x z : X) (xs : List X) → Contains (x ∷ xs) z → (x ≡ z) ⊎ Contains xs z
  first_or_later x z xs (zero, lt, e) = inl e
  first_or_later x z xs (suc k, lt, e) = inr (k, omega (arith, lt), e)

  is_first : (x : X) (xs : List X) → Contains (x ∷ xs) x
  is_first x xs = (0, omega arith, refl)

  is_later : (x z : X) (xs : List X) → Contains xs z → Contains (x ∷ xs) z
  is_later x z xs at = (suc at.0, omega (arith, at.1), at.2)

  first_before : (x z : X) (xs : List X) → Ascends (x ∷ xs) → Contains xs z → Before x z
  first_before x z xs up at = subst (λ (y : X). Before x y) (get_or_default xs at.0 d z at.1 ∙ at.2) (up 0 (suc at.0) (omega arith) (omega (arith, at.1)))

  later_ascend : (x : X) (xs : List X) → Ascends (x ∷ xs) → Ascends xs
  later_ascend x xs up i j less lt = up (suc i) (suc j) (omega arith) (omega arith)

  -- what stands after the first of one list stands after an equal first of another
  still_later : (x z : X) (xs ys : List X) → Ascends (x ∷ xs) → Contains xs z → Contains (x ∷ ys) z → Contains ys z
  still_later x z xs ys up here there = elim (first_or_later x z ys there) [
    | inl e ↦ let before : Before x x = subst (λ (y : X). Before x y) (sym e) (first_before x z xs up here) in absurd (one_way x x before before)
    | inr later ↦ later
  ]

  -- their elements determine them
  pub ascending_once : (xs ys : List X) → Ascends xs → Ascends ys → ((z : X) → Contains xs z ↔ Contains ys z) → xs ≡ ys
  ascending_once [] [] xs_up ys_up same = refl
  ascending_once [] (y ∷ ys) xs_up ys_up same = let none = (same y).1 (is_first y ys) in absurd (omega (arith, none.1))
  ascending_once (x ∷ xs) [] xs_up ys_up same = let none = (same x).0 (is_first x xs) in absurd (omega (arith, none.1))
  ascending_once (x ∷ xs) (y ∷ ys) xs_up ys_up same =
      let firsts : x ≡ y = elim (first_or_later y x ys ((same x).0 (is_first x xs))) [
        | inl e ↦ sym e
        | inr x_later ↦ elim (first_or_later x y xs ((same y).1 (is_first y ys))) [
          | inl e ↦ e
          | inr y_later ↦ absurd (one_way x y (first_before x y xs xs_up y_later) (first_before y x ys ys_up x_later))
        ]
      ] in
      let rests : xs ≡ ys = ascending_once xs ys (later_ascend x xs xs_up) (later_ascend y ys ys_up) (λ z. (
        (λ at. still_later x z xs ys xs_up at (subst (λ (w : X). Contains (w ∷ ys) z) (sym firsts) ((same z).0 (is_later x z xs at)))),
        (λ at. still_later y z ys xs ys_up at (subst (λ (w : X). Contains (w ∷ xs) z) firsts ((same z).1 (is_later y z ys at)))),
      )) in
      ap (λ (w : X). w ∷ xs) firsts ∙ ap (λ (zs : List X). y ∷ zs) rests

-- the same of numbers
pub same_numbers : (a b : List ℕ) → IsStrictlyIncreasing a → IsStrictlyIncreasing b → ((y : ℕ) → Contains a y ↔ Contains b y) → a ≡ b
same_numbers a b up_a up_b same = ascending_once (λ (x y : ℕ). x < y) (λ x y less more. omega arith) 0 a b (rises a up_a) (rises b up_b) same

-- lists have one copy in order
pub copy_once : (lists a b : List (List ℕ)) → IsOrderedCopy a lists → IsOrderedCopy b lists → a ≡ b
copy_once lists a b x y = ext_get_or [] a b (x.count ∙ sym y.count) (λ k lt.
    same_numbers (get_or a k []) (get_or b k []) (x.ascending k) (y.ascending k) (λ z. (
      (λ at. (y.same k z).1 ((x.same k z).0 at)),
      (λ at. (x.same k z).1 ((y.same k z).0 at)),
    )))
