-- Answers of a search for the first place at which something holds.
--     FindsFirst P answer          the answer is the first pair of numbers at which P holds, or none where there is none
--     FindsFirstPlace n P answer   the same of one number below n
--     FindsFirstNumber P answer    the same of any number
-- The wording is this project's own.
use Rattle.std.specs.Prelude.{◌<◌, ℕ, [], ◌∷◌, Option, Some, None}
use Rattle.conley_first.specs.First.{Precedes}

abbrev pub FindsFirst : (ℕ → ℕ → Type 0) → Option (ℕ × ℕ) → Type 0
FindsFirst P None = (l q : ℕ) → ¬ P l q
FindsFirst P (Some p) = P p.0 p.1 × ((l q : ℕ) → Precedes (l ∷ q ∷ []) (p.0 ∷ p.1 ∷ []) → ¬ P l q)

abbrev pub FindsFirstPlace : ℕ → (ℕ → Type 0) → Option ℕ → Type 0
FindsFirstPlace n P None = (j : ℕ) → j < n → ¬ P j
FindsFirstPlace n P (Some k) = (k < n) × P k × ((j : ℕ) → j < k → ¬ P j)

abbrev pub FindsFirstNumber : (ℕ → Type 0) → Option ℕ → Type 0
FindsFirstNumber P None = (j : ℕ) → ¬ P j
FindsFirstNumber P (Some k) = P k × ((j : ℕ) → j < k → ¬ P j)
