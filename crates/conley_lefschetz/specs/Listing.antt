-- What a complex is made from: labels, dimensions, and incidences as triples of two cells and their scalar.
--     bytes_of labels                the texts of labels
--     dim_in dims x                  the dimension of cell x
--     incidence_of incidences x y    the scalar of cells x and y, zero where the list has none
--     square_at F incidences n x z   the sum over the n cells y of the incidences of x and y times those of y and z
-- After Mrozek and Wanner; the wording is this project's own.
use Rattle.std.specs.Prelude.{ℕ, List, [], ◌∷◌, ◌==◌, ◌&&◌, map, String, string_bytes, slice_index_or, if◌then◌else◌}
use Rattle.std.specs.declared.alloc.Global.{Global}
use Rattle.conley_field.specs.Arithmetic.{Arithmetic}
use Rattle.conley_algebra.specs.Sum.{sum_below}

-- a triple (x, y, a): a is the code of the incidence of x and y
pub record Listing : Type 0 where
  pub labels : List (List ℕ)
  pub dims : List ℕ
  pub incidences : List (ℕ × ℕ × ℕ)

abbrev pub bytes_of : List (String Global) → List (List ℕ)
bytes_of labels = map string_bytes labels

-- zero for a number that is no cell
abbrev pub dim_in : List ℕ → ℕ → ℕ
dim_in dims x = slice_index_or dims x 0

-- of several triples of these cells the first counts
abbrev pub incidence_of : List (ℕ × ℕ × ℕ) → ℕ → ℕ → ℕ
incidence_of [] x y = 0
incidence_of (i ∷ is) x y = if (x == i.0) && (y == i.1) then i.2 else incidence_of is x y

abbrev pub square_at : Arithmetic → List (ℕ × ℕ × ℕ) → ℕ → ℕ → ℕ → ℕ
square_at F incidences n x z = sum_below F n (λ y. F.mul (incidence_of incidences x y) (incidence_of incidences y z))
