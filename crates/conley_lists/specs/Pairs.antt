-- Pairs of numbers in ascending order.
--     pair_at pairs k        the k-th pair
--     IsPairBefore a b       by the first number, then by the second
--     AreAscending pairs     each pair is before the next ones
use Rattle.std.specs.Prelude.{◌≡◌, ◌⊎◌, ◌<◌, ℕ, List, length, slice_index_or}

abbrev pub pair_at : List (ℕ × ℕ) → ℕ → ℕ × ℕ
pair_at pairs k = slice_index_or pairs k (0, 0)

abbrev pub IsPairBefore : ℕ × ℕ → ℕ × ℕ → Type 0
IsPairBefore a b = (a.0 < b.0) ⊎ ((a.0 ≡ b.0) × (a.1 < b.1))

abbrev pub AreAscending : List (ℕ × ℕ) → Type 0
AreAscending pairs = (i j : ℕ) → i < j → j < length pairs → IsPairBefore (pair_at pairs i) (pair_at pairs j)
