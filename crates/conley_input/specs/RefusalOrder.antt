-- Where a refusal stands among all.
--     number fault     its number; of several that hold, the one with the least is told
--     place fault      and of one number the one with the least place, number by number
-- The wording is this project's own.
use Rattle.std.specs.Prelude.{ℕ, List, [], ◌∷◌}
use Rattle.conley_input.specs.declared.error.FileFault.{FileFault}
use Rattle.conley_input.specs.declared.error.FileFault.TheVariants.{NotJson, BadShape, UnknownField, TooMany, BadLabel, DuplicateLabel, BadIncidence, BadSimplex, BadAxes, BadCube, TooManyCells, NotBoundary, UnknownCell, RepeatedCell, EmptyPart, NotLocallyClosed}

-- the number of a refusal
abbrev pub number : FileFault → ℕ
number NotJson = 1
number (BadShape member) = 2
number (UnknownField order) = 3
number (TooMany limit least) = 4
number (BadLabel k) = 5
number (DuplicateLabel i j) = 6
number (BadIncidence k why) = 7
number (BadSimplex k) = 8
number (BadAxes axes) = 8
number (BadCube k) = 8
number (TooManyCells least) = 8
number (NotBoundary x z) = 9
number (UnknownCell list at) = 10
number (RepeatedCell list at) = 11
number (EmptyPart k) = 12
number (NotLocallyClosed k x y z) = 13

-- where it stands among those of its number
abbrev pub place : FileFault → List ℕ
place NotJson = []
place (BadShape member) = member ∷ []
place (UnknownField order) = []
place (TooMany limit least) = limit ∷ []
place (BadLabel k) = k ∷ []
place (DuplicateLabel i j) = j ∷ i ∷ []
place (BadIncidence k why) = k ∷ why ∷ []
place (BadSimplex k) = 1 ∷ k ∷ []
place (BadAxes axes) = 2 ∷ axes ∷ []
place (BadCube k) = 3 ∷ k ∷ []
place (TooManyCells least) = 4 ∷ least ∷ []
place (NotBoundary x z) = x ∷ z ∷ []
place (UnknownCell list at) = list ∷ at ∷ []
place (RepeatedCell list at) = list ∷ at ∷ []
place (EmptyPart k) = k ∷ []
place (NotLocallyClosed k x y z) = k ∷ x ∷ y ∷ z ∷ []
