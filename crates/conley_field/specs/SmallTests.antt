-- Tests of the numbers below a bound, which a law over a small field is computed by.
--     all_below n t              whether each number below n passes t
--     all_below-at               then each of them does
--     all_pairs, all_triples     the same for pairs and for triples of numbers below n
use Rattle.std.proofs.Common.{◌≡◌, ℕ, zero, suc, ◌<◌, Bool, true, false, ◌&&◌, ◌||◌, ap, ◌∙◌, arith, inl, inr, refl}
use Rattle.std.proofs.lemmas.Bool.{cases_eq}

-- whether each number below n passes
abbrev pub all_below : ℕ → (ℕ → Bool) → Bool
all_below zero t = true
all_below (suc n) t = t n && all_below n t

pub and-first : (a b : Bool) → (a && b) ≡ true → a ≡ true
and-first true b h = refl
and-first false b h = h

pub and-second : (a b : Bool) → (a && b) ≡ true → b ≡ true
and-second true b h = h
and-second false b h = cc

pub or-second : (a b : Bool) → a ≡ false → (a || b) ≡ true → b ≡ true
or-second true b e h = cc
or-second false b e h = h

-- what a test below n says of each number
pub all_below-at : (n : ℕ) (t : ℕ → Bool) → all_below n t ≡ true → (k : ℕ) → k < n → t k ≡ true
all_below-at zero t h k below = absurd (omega arith)
all_below-at (suc n) t h k below = elim (cases_eq k n) [
  | inl same ↦ ap t same ∙ and-first (t n) (all_below n t) h
  | inr other ↦ all_below-at n t (and-second (t n) (all_below n t) h) k (omega arith)
]

-- whether each pair of numbers below n passes
abbrev pub all_pairs : ℕ → (ℕ → ℕ → Bool) → Bool
all_pairs n t = all_below n (λ x. all_below n (λ y. t x y))

pub all_pairs-at : (n : ℕ) (t : ℕ → ℕ → Bool) → all_pairs n t ≡ true → (x y : ℕ) → x < n → y < n → t x y ≡ true
all_pairs-at n t h x y x_below y_below = all_below-at n (λ j. t x j) (all_below-at n (λ i. all_below n (λ j. t i j)) h x x_below) y y_below

-- whether each triple of numbers below n passes
abbrev pub all_triples : ℕ → (ℕ → ℕ → ℕ → Bool) → Bool
all_triples n t = all_below n (λ x. all_pairs n (λ y z. t x y z))

pub all_triples-at : (n : ℕ) (t : ℕ → ℕ → ℕ → Bool) → all_triples n t ≡ true → (x y z : ℕ) → x < n → y < n → z < n → t x y z ≡ true
all_triples-at n t h x y z x_below y_below z_below =
    all_pairs-at n (λ j k. t x j k) (all_below-at n (λ i. all_pairs n (λ j k. t i j k)) h x x_below) y z y_below z_below
