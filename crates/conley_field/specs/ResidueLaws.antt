-- Residues modulo a prime of the table are a field: the laws that an implementation cites.
--     residues-IsField p    the laws, for each order of the table
use Rattle.std.specs.Prelude.{IsTrue, nat_lt}
use Rattle.std.specs.List.{list_any, list_all}
use Rattle.std.proofs.Common.{◌≡◌, ℕ, ◌<◌, ◌+◌, ◌-◌, ◌*◌, ◌%◌, ◌^◌, ◌==◌, ◌||◌, Bool, true, List, [], ◌∷◌, ap, sym, ◌∙◌, arith, inl, inr, refl}
use Rattle.std.proofs.lemmas.Bool.{cases_eq, eqb-true, ne_eqb, ltb-true}
use Rattle.std.proofs.lemmas.Nat.{mul-mod_first, mul-mod_second, mod_below}
use Rattle.std.proofs.Math.Nat.{mod-add-mod, add-mod-mod, mod-eq_of_lt, mod_self, add_comm, add_assoc, mul_comm, mul_assoc, mul-one, mul-add}
use Rattle.conley_field.specs.Arithmetic.{IsField}
use Rattle.conley_field.specs.Prime.{prime_orders, is_prime_order, residues}
use Rattle.conley_field.specs.SmallTests.{all_below, all_below-at, and-first, and-second, or-second}

-- whether each residue other than 0 has its inverse
abbrev has_inverses : ℕ → Bool
has_inverses p = all_below p (λ x. (x == 0) || ((x * (x ^ (p - 2) % p)) % p == 1))

all_have_inverses : list_all has_inverses prime_orders ≡ true
all_have_inverses = refl

all_above_one : list_all (λ p. nat_lt 1 p) prime_orders ≡ true
all_above_one = refl

-- what holds of each of a list holds of the one that a test finds
listed : (t : ℕ → Bool) (qs : List ℕ) (p : ℕ) → list_any (λ q. q == p) qs ≡ true → list_all t qs ≡ true → t p ≡ true
listed t [] p found all = cc
listed t (q ∷ qs) p found all = elim (cases_eq q p) [
  | inl same ↦ ap t (sym same) ∙ and-first (t q) (list_all t qs) all
  | inr other ↦ listed t qs p (or-second (q == p) (list_any (λ q. q == p) qs) (ne_eqb q p other) found) (and-second (t q) (list_all t qs) all)
]

inverse-at : (p x : ℕ) → has_inverses p ≡ true → 0 < x → x < p → (x * (x ^ (p - 2) % p)) % p ≡ 1
inverse-at p x h positive below =
    let tested = all_below-at p (λ x. (x == 0) || ((x * (x ^ (p - 2) % p)) % p == 1)) h x below in
    eqb-true _ 1 (or-second (x == 0) _ (ne_eqb x 0 (omega arith)) tested)

residue_laws : (p : ℕ) → 1 < p → has_inverses p ≡ true → IsField (residues p)
residue_laws p above inverses = record {
  one_below = above;
  add_below = λ x y. mod_below (x + y) p (omega arith);
  neg_below = λ x. mod_below (p - x % p) p (omega arith);
  mul_below = λ x y. mod_below (x * y) p (omega arith);
  inv_below = λ x. mod_below (x ^ (p - 2)) p (omega arith);
  add_assoc = λ x y z. mod-add-mod (x + y) p z ∙ ap (λ n. n % p) (add_assoc x y z) ∙ sym (add-mod-mod x (y + z) p);
  add_comm = λ x y. ap (λ n. n % p) (add_comm x y);
  add_zero = λ x below. mod-eq_of_lt (omega arith) ∙ omega arith;
  add_neg = λ x. add-mod-mod x (p - x % p) p ∙ sym (mod-add-mod x p (p - x % p)) ∙ ap (λ n. n % p) (whole x) ∙ mod_self p;
  mul_assoc = λ x y z. mul-mod_first (x * y) z p ∙ ap (λ n. n % p) (mul_assoc x y z) ∙ sym (mul-mod_second x (y * z) p);
  mul_comm = λ x y. ap (λ n. n % p) (mul_comm x y);
  mul_one = λ x below. ap (λ n. n % p) (mul-one x) ∙ mod-eq_of_lt below;
  mul_add = λ x y z. mul-mod_second x (y + z) p ∙ ap (λ n. n % p) (mul-add x y z) ∙ sym (add-mod-mod (x * y % p) (x * z) p ∙ mod-add-mod (x * y) p (x * z));
  mul_inv = λ x positive below. inverse-at p x inverses positive below;
} where
  whole : (x : ℕ) → x % p + (p - x % p) ≡ p
  whole x = let below : x % p < p = mod_below x p (omega arith) in omega arith

pub residues-IsField : (p : ℕ) → IsTrue (is_prime_order p) → IsField (residues p)
residues-IsField p h = residue_laws p (ltb-true 1 p (listed (λ q. nat_lt 1 q) prime_orders p h all_above_one))
    (listed has_inverses prime_orders p h all_have_inverses)
