-- The problem that is made for a number k: a field of vectors over the k·k unit squares, drawn at random.
--     IsTrialProblem k problem    scalars modulo 2, the complex of the squares, the hull of the pairs, and no named sets
--     TrialProblemIsOne           at most one sound problem is made for a number
-- The wording is this project's own.
use Rattle.std.specs.Prelude.{◌≡◌, ℕ, []}
use Rattle.conley_field.specs.Prime.{residues}
use Rattle.conley_cubical.specs.Cubical.{IsCubicalComplex}
use Rattle.conley_hull.specs.Hull.{IsHull}
use Rattle.conley_input.specs.Problem.{Problem, IsSound}
use Rattle.conley_trial.specs.Pairs.{pairs_of}
use Rattle.conley_trial.specs.Squares.{unit_squares}

pub record IsTrialProblem (k : ℕ) (problem : Problem) : Type 0 where
  pub scalars : problem.order ≡ 2
  pub complex : IsCubicalComplex (residues 2) (unit_squares k) problem.complex
  pub parts : IsHull problem.complex.faces (pairs_of k problem.complex) problem.part_of
  pub sets : problem.sets ≡ []

abbrev pub TrialProblemIsOne : Type 0
TrialProblemIsOne = (k : ℕ) (p q : Problem) → IsSound p → IsSound q → IsTrialProblem k p → IsTrialProblem k q → p ≡ q
