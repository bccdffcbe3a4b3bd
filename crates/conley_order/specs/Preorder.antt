-- Preorders of the numbers below a count, as tests.
--     IsTransitive n below      what is below something that is below a third is below that, among the numbers below n
--     IsPreorder n below        the test is reflexive and transitive on the numbers below n
--     IsBelow n below a b       a is at or below b, for any two numbers: those that aren't below n are only at themselves
-- The wording is this project's own.
use Rattle.std.specs.Prelude.{◌≡◌, ◌⊎◌, ◌<◌, ℕ, Bool, true}

abbrev pub IsTransitive : ℕ → (ℕ → ℕ → Bool) → Type 0
IsTransitive n below = (a b c : ℕ) → a < n → b < n → c < n → below a b ≡ true → below b c ≡ true → below a c ≡ true

pub record IsPreorder (n : ℕ) (below : ℕ → ℕ → Bool) : Type 0 where
  pub reflexive : (a : ℕ) → a < n → below a a ≡ true
  pub transitive : IsTransitive n below

-- equal, or both below the count with a true test
abbrev pub IsBelow : ℕ → (ℕ → ℕ → Bool) → ℕ → ℕ → Type 0
IsBelow n below a b = (a ≡ b) ⊎ ((a < n) × (b < n) × (below a b ≡ true))
