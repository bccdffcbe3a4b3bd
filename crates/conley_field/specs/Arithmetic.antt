-- Arithmetic on codes, and what makes it a field.
--     Arithmetic            the order of a field and its operations on codes
--     IsField F             the laws of a field
--     ones F n              the sum of n ones
--     code_of_int F n       the sum of n ones, or the negative of the sum of -n ones
use Rattle.std.specs.Prelude.{◌≡◌, ℕ, suc, zero, ◌<◌, ℤ, pos, negsuc}

-- the number of elements, and the operations on their codes: 0 is zero and 1 is one
pub record Arithmetic : Type 0 where
  pub order : ℕ
  pub add : ℕ → ℕ → ℕ
  pub neg : ℕ → ℕ
  pub mul : ℕ → ℕ → ℕ
  pub inv : ℕ → ℕ

-- The elements are the codes below the order. A law that keeps its meaning for every number is asked
-- of every number, since an operation may read a number as the code that it stands for.
pub record IsField (F : Arithmetic) : Type 0 where
  pub one_below : 1 < F.order
  pub add_below : (x y : ℕ) → F.add x y < F.order
  pub neg_below : (x : ℕ) → F.neg x < F.order
  pub mul_below : (x y : ℕ) → F.mul x y < F.order
  pub inv_below : (x : ℕ) → F.inv x < F.order
  pub add_assoc : (x y z : ℕ) → F.add (F.add x y) z ≡ F.add x (F.add y z)
  pub add_comm : (x y : ℕ) → F.add x y ≡ F.add y x
  pub add_zero : (x : ℕ) → x < F.order → F.add x 0 ≡ x
  pub add_neg : (x : ℕ) → F.add x (F.neg x) ≡ 0
  pub mul_assoc : (x y z : ℕ) → F.mul (F.mul x y) z ≡ F.mul x (F.mul y z)
  pub mul_comm : (x y : ℕ) → F.mul x y ≡ F.mul y x
  pub mul_one : (x : ℕ) → x < F.order → F.mul x 1 ≡ x
  pub mul_add : (x y z : ℕ) → F.mul x (F.add y z) ≡ F.add (F.mul x y) (F.mul x z)
  pub mul_inv : (x : ℕ) → 0 < x → x < F.order → F.mul x (F.inv x) ≡ 1

-- the sum of n ones
abbrev pub ones : Arithmetic → ℕ → ℕ
ones F zero = 0
ones F (suc n) = F.add (ones F n) 1

-- the code of an integer
abbrev pub code_of_int : Arithmetic → ℤ → ℕ
code_of_int F (pos n) = ones F n
code_of_int F (negsuc n) = F.neg (ones F (suc n))
