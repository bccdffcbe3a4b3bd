-- Numbers from 0 on, and numbers written at listed places.
use Rattle.std.proofs.Common.{◌≡◌, ◌≢◌, inl, inr, ℕ, ◌+◌, ◌<◌, List, [], ◌∷◌, ◌++◌, length, take, set, get_or, ap, sym, ◌∙◌, arith, refl, subst, get_or-set_other, get_or-set_same}
use Rattle.std.specs.Prelude.{Contains, slice_index}
use Rattle.std.specs.List.Sorted.{IsStrictlyIncreasing}
use Rattle.std.proofs.Math.ListN.{length-set}
use Rattle.std.proofs.lemmas.Bool.{cases_eq}
use Rattle.std.proofs.lemmas.List.{take_more}
use Rattle.std.proofs.lemmas.List.Elements.{Contains-push, Contains-push_cases, Contains-append_left}

-- the numbers from 0 on ascend
pub all-ascend : (n : ℕ) (all : List ℕ) → length all ≡ n → ((x : ℕ) → x < n → get_or all x 0 ≡ x) → IsStrictlyIncreasing all
all-ascend n all count items k within =
    let here = items k (omega arith) in
    let next = items (k + 1) (omega arith) in
    omega arith

-- the number stands at the first i listed places, and nothing else has changed
pub record IsPut (before cells : List ℕ) (i number : ℕ) (place : List ℕ) : Type 0 where
  pub width : length place ≡ length before
  pub inside : (x : ℕ) → Contains (take i cells) x → slice_index place x ≡ number
  pub outside : (x : ℕ) → ¬ Contains (take i cells) x → slice_index place x ≡ slice_index before x

pub put_none : (before cells : List ℕ) (number : ℕ) → IsPut before cells 0 number before
put_none before cells number = record { width = refl; inside = λ x c. absurd (omega (arith, c.1)); outside = λ x c. refl }

pub put_more : (before cells : List ℕ) (i number : ℕ) (place : List ℕ) → IsPut before cells i number place → i < length cells
    → get_or cells i 0 < length before → IsPut before cells (i + 1) number (set place (get_or cells i 0) number)
put_more before cells i number place is below within =
    let x = get_or cells i 0 in
    let more : take (i + 1) cells ≡ take i cells ++ x ∷ [] = take_more cells i 0 below in
    let in_place : x < length place = omega (arith, is.width) in
    record {
      width = length-set place x number ∙ is.width;
      inside = λ y c. elim (cases_eq y x) [
        | inl same ↦ subst (λ (n : ℕ). slice_index (set place x number) n ≡ number) (sym same) (get_or-set_same place x number 0 in_place)
        | inr other ↦ elim (Contains-push_cases (take i cells) x y (subst (λ (xs : List ℕ). Contains xs y) more c)) [
          | inl old ↦ get_or-set_other place x y number 0 other ∙ is.inside y old
          | inr e ↦ absurd (other (sym e))
        ]
      ];
      outside = λ y none.
          let other : y ≢ x = λ e. none (subst (λ (xs : List ℕ). Contains xs y) (sym more)
          (subst (Contains (take i cells ++ x ∷ [])) (sym e) (Contains-push (take i cells) x))) in
          get_or-set_other place x y number 0 other
          ∙ is.outside y (λ c. none (subst (λ (xs : List ℕ). Contains xs y) (sym more) (Contains-append_left (take i cells) (x ∷ []) y c)));
    }
