-- The unit squares with corners from 0 to k.
--     unit_pair n       the pair (n, n + 1)
--     unit_square i j   the square from (i, j) to (i + 1, j + 1)
--     unit_squares k    those with corners from 0 to k
-- The wording is this project's own.
use Rattle.std.specs.Prelude.{◌+◌, ℕ, ℤ, pos, List, [], ◌∷◌, map}
use Rattle.std.specs.List.{flat_map, range_with_len}

abbrev pub unit_pair : ℕ → ℤ × ℤ
unit_pair n = (pos n, pos (n + 1))

abbrev pub unit_square : ℕ → ℕ → List (ℤ × ℤ)
unit_square i j = unit_pair i ∷ unit_pair j ∷ []

abbrev pub unit_squares : ℕ → List (List (ℤ × ℤ))
unit_squares k = flat_map (λ i. map (unit_square i) (range_with_len 0 k)) (range_with_len 0 k)
