-- Reach as a test that computes, and the classes of mutual reach by it.
--     is_step P x y        y is directly under the cell x, or in its part
--     reaches P x y        x reaches y
--     recurs P x y         x and y reach each other
--     least_of P x         the least cell of the class of x
--     has_two_parts P x    the class of x has two or more parts
use Rattle.std.specs.Prelude.{ℕ, Bool, ◌==◌, ◌||◌, ◌&&◌, not, nat_lt, [], slice_index_or}
use Rattle.conley_lists.specs.Lists.{is_listed}
use Rattle.conley_certificate.specs.Tests.{any_below, first_pass, leads}
use Rattle.conley_certificate.specs.Problem.{Problem, cell_count, part_at}

abbrev pub is_step : Problem → ℕ → ℕ → Bool
is_step P x y = is_listed (slice_index_or P.complex.faces x []) y || (nat_lt x (cell_count P) && (nat_lt y (cell_count P) && (part_at P x == part_at P y)))

abbrev pub reaches : Problem → ℕ → ℕ → Bool
reaches P = leads (is_step P) (cell_count P)

abbrev pub recurs : Problem → ℕ → ℕ → Bool
recurs P x y = reaches P x y && reaches P y x

abbrev pub least_of : Problem → ℕ → ℕ
least_of P x = first_pass x (λ y. recurs P y x)

abbrev pub has_two_parts : Problem → ℕ → Bool
has_two_parts P x = any_below (cell_count P) (λ y. recurs P x y && not (part_at P y == part_at P x))
