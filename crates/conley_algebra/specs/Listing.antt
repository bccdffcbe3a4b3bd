-- Lists of numbers that have a property.
--     HoldBelow r P values      P holds of each of the first r values
--     IsListing n Q r list      the first r of the list are the numbers below n of which Q holds, each once
use Rattle.std.specs.Prelude.{◌≡◌, ℕ, ◌<◌}

-- P holds of each of the first r values
abbrev pub HoldBelow : {T : Type 0} → ℕ → (T → Type 0) → (ℕ → T) → Type 0
HoldBelow r P values = (i : ℕ) → i < r → P (values i)

-- the numbers below n of which Q holds, listed once each
pub record IsListing (n : ℕ) (Q : ℕ → Type 0) (r : ℕ) (list : ℕ → ℕ) : Type 0 where
  pub within : (i : ℕ) → i < r → list i < n
  pub holds : HoldBelow r Q list
  pub distinct : (i j : ℕ) → i < r → j < r → list i ≡ list j → i ≡ j
  pub all : (g : ℕ) → g < n → Q g → (i : ℕ) × ((i < r) × (list i ≡ g))
