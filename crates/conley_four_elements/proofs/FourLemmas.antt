-- What whole numbers stand for in the field with four elements.
use Rattle.std.specs.Prelude.{unsigned_abs}
use Rattle.std.proofs.Common.{◌≡◌, ℕ, zero, suc, ◌+◌, ◌<◌, ◌%◌, ◌==◌, ap, sym, ◌∙◌, arith, refl, ℤ, pos, negsuc}
use Rattle.std.proofs.lemmas.Bool.{eqb-true}
use Rattle.std.proofs.lemmas.Nat.{mod_below}
use Rattle.std.proofs.Math.Nat.{mod-add-mod, mod-eq_of_lt}
use Rattle.conley_field.specs.Arithmetic.{ones, code_of_int}
use Rattle.conley_field.specs.SmallTests.{all_below-at}
use Rattle.conley_four_elements.specs.FourElements.{four, sum_code}

-- one and one are zero
ones-four : (n : ℕ) → ones four n ≡ n % 2
ones-four zero = refl
ones-four (suc n) =
    ap (λ (k : ℕ). sum_code (k % 4) 1) (ones-four n)
    ∙ eqb-true _ _ (all_below-at 2 (λ r. sum_code (r % 4) 1 == (r + 1) % 2) refl (n % 2) (mod_below n 2 (omega arith)))
    ∙ mod-add-mod n 2 1 ∙ ap (λ (k : ℕ). k % 2) (omega arith)

pub code_of_int-four : (r : ℕ) (n : ℤ) → r ≡ unsigned_abs n % 2 → r ≡ code_of_int four n
code_of_int-four r (pos n) is = is ∙ sym (ones-four n)
code_of_int-four r (negsuc n) is =
    is ∙ sym (ap (λ (k : ℕ). k % 4) (ones-four (suc n)) ∙ mod-eq_of_lt (let h : suc n % 2 < 2 = mod_below (suc n) 2 (omega arith) in omega arith))
