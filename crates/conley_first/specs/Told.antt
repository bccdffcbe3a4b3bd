-- A fault as it is told.
--     kept told        the numbers that it keeps, in order
--     words_of told    its name, which is a letter and a number, then each kept number
-- The wording is this project's own.
use Rattle.std.specs.Prelude.{ℕ, List, ◌∷◌, map, take, decimal}
use Rattle.conley_first.specs.declared.told.Told.{Told}

-- the numbers that it keeps, in order
abbrev pub kept : Told → List ℕ
kept told = take told.count told.numbers

-- its name, then each kept number
abbrev pub words_of : Told → List (List ℕ)
words_of told = (told.letter ∷ decimal told.number) ∷ map decimal (kept told)
