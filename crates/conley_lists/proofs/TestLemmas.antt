-- Tests, and what they say of values that may be none.
use Rattle.std.proofs.Common.{◌≡◌, ◌≢◌, ◌<◌, ◌==◌, ◌∙◌, ℕ, Bool, true, false, List, length, get_or, Option, Some, None, refl, sym}
use Rattle.std.specs.Prelude.{is_some, Contains}
use Rattle.std.proofs.lemmas.Bool.{eq-eqb, ne_eqb, true≢false}
use Rattle.std.proofs.lemmas.List.{get_or_default}
use Rattle.std.proofs.lemmas.List.Folds.{list_any_at, list_any_none}
use Rattle.conley_lists.specs.Lists.{is_listed}
use Rattle.conley_lists.proofs.ListLemmas.{place_of}

-- tests that say the same
pub same_tests : (a b : Bool) → (a ≡ true → b ≡ true) → (b ≡ true → a ≡ true) → a ≡ b
same_tests true b there back = sym (there refl)
same_tests false true there back = back refl
same_tests false false there back = refl

pub none_from_test : (o : Option ℕ) → is_some o ≡ false → o ≡ None
none_from_test None e = refl
none_from_test (Some x) e = cc

-- a number that stands nowhere in a list isn't listed
pub not_listed : (list : List ℕ) (x : ℕ) → ((i : ℕ) → i < length list → get_or list i 0 ≢ x) → is_listed list x ≡ false
not_listed list x never = list_any_none (λ y. y == x) list (λ k d below. ne_eqb (get_or list k d) x
    (λ same. never k below (get_or_default list k 0 d below ∙ same)))

-- and one that isn't listed isn't contained
pub not_contained : (list : List ℕ) (x : ℕ) → is_listed list x ≡ false → ¬ Contains list x
not_contained list x none at =
    let p = place_of list x at in
    true≢false (sym (list_any_at (λ y. y == x) list p.0 0 p.1 (eq-eqb (get_or list p.0 0) x p.2)) ∙ none)
