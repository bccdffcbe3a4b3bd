-- The fields of prime order of the table.
--     prime_orders          the orders of the table, ascending
--     is_prime_order p      whether p is one of them
--     residues p            arithmetic on the residues modulo p
use Rattle.std.specs.Prelude.{ℕ, ◌+◌, ◌-◌, ◌*◌, ◌%◌, ◌^◌, Bool, ◌==◌, List, [], ◌∷◌}
use Rattle.std.specs.List.{list_any}
use Rattle.conley_field.specs.Arithmetic.{Arithmetic}

-- the orders
abbrev pub prime_orders : List ℕ
prime_orders = 2 ∷ 3 ∷ 5 ∷ 7 ∷ 11 ∷ 13 ∷ 17 ∷ 19 ∷ 23 ∷ 29 ∷ 31 ∷ []

-- whether the table has a field of this order
abbrev pub is_prime_order : ℕ → Bool
is_prime_order p = list_any (λ q. q == p) prime_orders

-- residues modulo p: the inverse of x is its power p - 2, as Fermat has it
abbrev pub residues : ℕ → Arithmetic
residues p = record {
  order = p;
  add = λ x y. (x + y) % p;
  neg = λ x. (p - x % p) % p;
  mul = λ x y. (x * y) % p;
  inv = λ x. x ^ (p - 2) % p;
}
