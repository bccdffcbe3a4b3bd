-- The limits of a file, each by the most that it allows.
--     most_cells        listed cells, or vertices
--     most_listed       listed incidences, simplices or cubes
--     most_sets         named sets
--     most_dimension    the dimension of a listed cell, or the length of a simplex's list less one
--     most_bytes        the bytes of the label of a listed cell or vertex, or of the name of a set
--     most_generated    the cells that simplices or cubes generate
-- The wording is this project's own.
use Rattle.std.specs.Prelude.{ℕ}

abbrev pub most_cells : ℕ
most_cells = 20000

abbrev pub most_listed : ℕ
most_listed = 400000

abbrev pub most_sets : ℕ
most_sets = 256

abbrev pub most_dimension : ℕ
most_dimension = 15

abbrev pub most_bytes : ℕ
most_bytes = 64

abbrev pub most_generated : ℕ
most_generated = 20000
