-- How a refusal of a file is told.
--     name number            E and the number of a refusal
--     words_of_file fault    the name of a refusal, then the numbers that it keeps
-- The wording is this project's own.
use Rattle.std.specs.Prelude.{ℕ, List, [], ◌∷◌, ◌++◌, codes, decimal}
use Rattle.conley_input.specs.declared.error.FileFault.{FileFault}
use Rattle.conley_input.specs.declared.error.FileFault.TheVariants.{NotJson, BadShape, UnknownField, TooMany, BadLabel, DuplicateLabel, BadIncidence, BadSimplex, BadAxes, BadCube, TooManyCells, NotBoundary, UnknownCell, RepeatedCell, EmptyPart, NotLocallyClosed}

abbrev pub name : ℕ → List ℕ
name number = codes "E" ++ decimal number

-- for generated cells the kind stands before the kept number
abbrev pub words_of_file : FileFault → List (List ℕ)
words_of_file NotJson = name 1 ∷ []
words_of_file (BadShape member) = name 2 ∷ decimal member ∷ []
words_of_file (UnknownField order) = name 3 ∷ decimal order ∷ []
words_of_file (TooMany limit least) = name 4 ∷ decimal limit ∷ decimal least ∷ []
words_of_file (BadLabel k) = name 5 ∷ decimal k ∷ []
words_of_file (DuplicateLabel i j) = name 6 ∷ decimal i ∷ decimal j ∷ []
words_of_file (BadIncidence k why) = name 7 ∷ decimal k ∷ decimal why ∷ []
words_of_file (BadSimplex k) = name 8 ∷ decimal 1 ∷ decimal k ∷ []
words_of_file (BadAxes axes) = name 8 ∷ decimal 2 ∷ decimal axes ∷ []
words_of_file (BadCube k) = name 8 ∷ decimal 3 ∷ decimal k ∷ []
words_of_file (TooManyCells least) = name 8 ∷ decimal 4 ∷ decimal least ∷ []
words_of_file (NotBoundary x z) = name 9 ∷ decimal x ∷ decimal z ∷ []
words_of_file (UnknownCell list at) = name 10 ∷ decimal list ∷ decimal at ∷ []
words_of_file (RepeatedCell list at) = name 11 ∷ decimal list ∷ decimal at ∷ []
words_of_file (EmptyPart k) = name 12 ∷ decimal k ∷ []
words_of_file (NotLocallyClosed k x y z) = name 13 ∷ decimal k ∷ decimal x ∷ decimal y ∷ decimal z ∷ []
