-- What the laws on sets, order and index compare.
--     place_of C x           1 plus the number of the set that has cell x, or 0
--     is_wanted P C x        the class of x has two or more parts, or its least cell is in a set
--     wanted_place P C x     1 plus the number of wanted classes with a lesser least cell, or 0 for a class that isn't wanted
--     set_reaches P C p q    set p reaches set q
--     is_cover P C p q       p and q differ, p reaches q, and no third set lies between
--     is_listed_pair C p q   the pair stands in `order`
--     is_one_part P C i      the cells of set i are those of one part
--     generators_at C i k    how many generators name set i and have dimension k
--     is_named C i           a generator names set i
--     number_of t            1 where a test passes, else 0
use Rattle.std.specs.Prelude.{ℕ, suc, Bool, true, false, ◌==◌, ◌||◌, ◌&&◌, not, nat_lt, if◌then◌else◌}
use Rattle.std.specs.List.{list_any}
use Rattle.conley_lists.specs.Lists.{is_listed}
use Rattle.conley_transitions.specs.Morse.{set_at}
use Rattle.conley_certificate_file.specs.Certificate.{Certificate}
use Rattle.conley_certificate.specs.Tests.{any_below, count_below, first_pass}
use Rattle.conley_certificate.specs.Problem.{Problem, cell_count, part_at}
use Rattle.conley_certificate.specs.Certificate.{set_count, generator_count, set_of, dim_of, first_cell}
use Rattle.conley_certificate.specs.Reach.{reaches, least_of, has_two_parts}

abbrev pub place_of : Certificate → ℕ → ℕ
place_of C x = let i = first_pass (set_count C) (λ i. is_listed (set_at C.morse i) x) in if nat_lt i (set_count C) then suc i else 0

abbrev pub is_wanted : Problem → Certificate → ℕ → Bool
is_wanted P C x = has_two_parts P x || not (place_of C (least_of P x) == 0)

abbrev pub wanted_place : Problem → Certificate → ℕ → ℕ
wanted_place P C x = if is_wanted P C x then suc (count_below (least_of P x) (λ y. (least_of P y == y) && is_wanted P C y)) else 0

abbrev pub set_reaches : Problem → Certificate → ℕ → ℕ → Bool
set_reaches P C p q = reaches P (first_cell C p) (first_cell C q)

abbrev pub is_cover : Problem → Certificate → ℕ → ℕ → Bool
is_cover P C p q = (not (p == q) && set_reaches P C p q)
    && not (any_below (set_count C) (λ r. (not (r == p) && not (r == q)) && (set_reaches P C p r && set_reaches P C r q)))

abbrev pub is_listed_pair : Certificate → ℕ → ℕ → Bool
is_listed_pair C p q = list_any (λ pair. (pair.0 == p) && (pair.1 == q)) C.order

abbrev pub is_one_part : Problem → Certificate → ℕ → Bool
is_one_part P C i = not (any_below (cell_count P) (λ x. not (if is_listed (set_at C.morse i) x
    then part_at P x == part_at P (first_cell C i) else not (part_at P x == part_at P (first_cell C i)))))

abbrev pub generators_at : Certificate → ℕ → ℕ → ℕ
generators_at C i k = count_below (generator_count C) (λ g. (set_of C g == i) && (dim_of C g == k))

abbrev pub is_named : Certificate → ℕ → Bool
is_named C i = any_below (generator_count C) (λ g. set_of C g == i)

abbrev pub number_of : Bool → ℕ
number_of true = 1
number_of false = 0
