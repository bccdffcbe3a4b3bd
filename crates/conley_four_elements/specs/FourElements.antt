-- The field with four elements: a + b·w has the code a + 2·b, where w·w is w + 1, and a and b are 0 or 1.
--     four             its arithmetic, which reads a number as its code modulo four
--     four-IsField     the laws of it, each by trying all codes
use Rattle.std.specs.Prelude.{◌≡◌, ℕ, ◌+◌, ◌*◌, ◌/◌, ◌%◌, ◌<◌, Bool, true, ◌==◌, ◌||◌, nat_lt, refl}
use Rattle.std.proofs.Common.{◌∙◌, arith}
use Rattle.std.proofs.lemmas.Bool.{eqb-true, ne_eqb, ltb-true}
use Rattle.std.proofs.lemmas.Nat.{mod_below}
use Rattle.std.proofs.Math.Nat.{mod-eq_of_lt}
use Rattle.conley_field.specs.Arithmetic.{Arithmetic, IsField}
use Rattle.conley_field.specs.SmallTests.{all_below, all_below-at, all_pairs, all_pairs-at, all_triples, all_triples-at, or-second}

-- the code of a + b·w
abbrev pub code_of : ℕ → ℕ → ℕ
code_of a b = a % 2 + 2 * (b % 2)

abbrev pub sum_code : ℕ → ℕ → ℕ
sum_code x y = code_of (x % 2 + y % 2) (x / 2 + y / 2)

-- (a + b·w)(c + d·w) is ac + bd + (ad + bc + bd)·w
abbrev pub product_code : ℕ → ℕ → ℕ
product_code x y = code_of (x % 2 * (y % 2) + x / 2 * (y / 2)) (x % 2 * (y / 2) + x / 2 * (y % 2) + x / 2 * (y / 2))

abbrev pub four : Arithmetic
four = record {
  order = 4;
  add = λ x y. sum_code (x % 4) (y % 4);
  neg = λ x. x % 4;
  mul = λ x y. product_code (x % 4) (y % 4);
  inv = λ x. product_code (x % 4) (x % 4);
}

low : (x : ℕ) → x % 4 < 4
low x = mod_below x 4 (omega arith)

-- a test of all codes, at the codes that numbers are read as
one-at : (t : ℕ → Bool) → all_below 4 t ≡ true → (x : ℕ) → t (x % 4) ≡ true
one-at t h x = all_below-at 4 t h (x % 4) (low x)

two-at : (t : ℕ → ℕ → Bool) → all_pairs 4 t ≡ true → (x y : ℕ) → t (x % 4) (y % 4) ≡ true
two-at t h x y = all_pairs-at 4 t h (x % 4) (y % 4) (low x) (low y)

three-at : (t : ℕ → ℕ → ℕ → Bool) → all_triples 4 t ≡ true → (x y z : ℕ) → t (x % 4) (y % 4) (z % 4) ≡ true
three-at t h x y z = all_triples-at 4 t h (x % 4) (y % 4) (z % 4) (low x) (low y) (low z)

pub four-IsField : IsField four
four-IsField = record {
  one_below = omega arith;
  add_below = λ x y. ltb-true _ 4 (two-at (λ a b. nat_lt (sum_code a b) 4) refl x y);
  neg_below = low;
  mul_below = λ x y. ltb-true _ 4 (two-at (λ a b. nat_lt (product_code a b) 4) refl x y);
  inv_below = λ x. ltb-true _ 4 (one-at (λ a. nat_lt (product_code a a) 4) refl x);
  add_assoc = λ x y z. eqb-true _ _ (three-at (λ a b c. sum_code (sum_code a b % 4) c == sum_code a (sum_code b c % 4)) refl x y z);
  add_comm = λ x y. eqb-true _ _ (two-at (λ a b. sum_code a b == sum_code b a) refl x y);
  add_zero = λ x below. eqb-true _ _ (one-at (λ a. sum_code a 0 == a) refl x) ∙ mod-eq_of_lt below;
  add_neg = λ x. eqb-true _ _ (one-at (λ a. sum_code a (a % 4) == 0) refl x);
  mul_assoc = λ x y z. eqb-true _ _ (three-at (λ a b c. product_code (product_code a b % 4) c == product_code a (product_code b c % 4)) refl x y z);
  mul_comm = λ x y. eqb-true _ _ (two-at (λ a b. product_code a b == product_code b a) refl x y);
  mul_one = λ x below. eqb-true _ _ (one-at (λ a. product_code a 1 == a) refl x) ∙ mod-eq_of_lt below;
  mul_add = λ x y z. eqb-true _ _ (three-at (λ a b c. product_code a (sum_code b c % 4) == sum_code (product_code a b % 4) (product_code a c % 4)) refl x y z);
  mul_inv = λ x positive below. inverse x positive below;
} where
  inverse : (x : ℕ) → 0 < x → x < 4 → product_code (x % 4) (product_code (x % 4) (x % 4) % 4) ≡ 1
  inverse x positive below =
      eqb-true _ 1 (or-second (x % 4 == 0) _ (ne_eqb (x % 4) 0 (let e = mod-eq_of_lt below in omega (arith, e)))
      (one-at (λ a. (a == 0) || (product_code a (product_code a a % 4) == 1)) refl x))
