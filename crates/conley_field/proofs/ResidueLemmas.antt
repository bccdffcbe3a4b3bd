-- What the residues modulo a number compute.
use Rattle.std.specs.Prelude.{unsigned_abs}
use Rattle.std.specs.Int.Signed.{lt_z}
use Rattle.std.proofs.Common.{◌≡◌, ℕ, zero, suc, ◌<◌, ◌+◌, ◌*◌, ◌%◌, ◌^◌, true, false, ap, sym, ◌∙◌, arith, add-one, ℤ, pos, negsuc}
use Rattle.std.proofs.lemmas.Bool.{ltb-true}
use Rattle.std.proofs.lemmas.Nat.{mul-mod_first}
use Rattle.std.proofs.Math.Nat.{mod-add-mod, pow-suc}
use Rattle.conley_field.specs.Arithmetic.{ones, code_of_int}
use Rattle.conley_field.specs.Prime.{residues}

-- a sum of ones is a remainder
pub ones-residues : (p n : ℕ) → 1 < p → ones (residues p) n ≡ n % p
ones-residues p zero above = omega arith
ones-residues p (suc n) above = ap (λ k. (k + 1) % p) (ones-residues p n above) ∙ mod-add-mod n p 1 ∙ ap (λ k. k % p) (omega arith)

-- a power with one factor more
pub power-step : (p a k : ℕ) → (a ^ k % p * a) % p ≡ a ^ (k + 1) % p
power-step p a k = mul-mod_first (a ^ k) a p ∙ ap (λ n. n % p) (rw add-one (sym (pow-suc a k)))

-- the code of a number that isn't negative
pub code-not_negative : (p r : ℕ) (n : ℤ) → 1 < p → lt_z n (pos 0) ≡ false → r ≡ unsigned_abs n % p → r ≡ code_of_int (residues p) n
code-not_negative p r (pos n) above sign is = is ∙ sym (ones-residues p n above)
code-not_negative p r (negsuc n) above sign is = cc

-- and of a negative one
pub code-negative : (p r : ℕ) (n : ℤ) → 1 < p → lt_z n (pos 0) ≡ true → r ≡ unsigned_abs n % p → (residues p).neg r ≡ code_of_int (residues p) n
code-negative p r (pos n) above sign is = absurd (omega (arith, ltb-true n 0 sign))
code-negative p r (negsuc n) above sign is = ap (residues p).neg (is ∙ sym (ones-residues p (suc n) above))
