-- Tests of the dimensions of entries.
--     joins degree row column    a map of this degree may join a row of the first dimension and a column of the second
use Rattle.std.specs.Prelude.{ℕ, ◌+◌, ◌==◌, Bool}
use Rattle.conley_checker.specs.declared.filters.Degree.{Degree}
use Rattle.conley_checker.specs.declared.filters.Degree.TheVariants.{Down, Level, Up}

abbrev pub joins : Degree → ℕ → ℕ → Bool
joins Down row column = column == row + 1
joins Level row column = row == column
joins Up row column = row == column + 1
