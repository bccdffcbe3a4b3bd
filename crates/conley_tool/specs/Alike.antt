-- What two things that can be due for the same words have in common.
--     AreAlike a b     equal, or texts of analyses of one problem, or summaries of such analyses
-- The wording is this project's own.
use Rattle.std.specs.Prelude.{◌≡◌, ◌⊎◌}
use Rattle.conley_input.specs.Problem.{Problem}
use Rattle.conley_tool.specs.Due.{Due}
use Rattle.conley_tool.specs.Analyze.{PrintsAnalysis}
use Rattle.conley_tool.specs.Trial.{PrintsSummary}

-- a problem can have several connection matrices, so several texts can be due
abbrev pub AreAlike : Due → Due → Type 0
AreAlike a b =
    (a ≡ b)
    ⊎ (((problem : Problem) × PrintsAnalysis problem a × PrintsAnalysis problem b)
    ⊎ ((problem : Problem) × PrintsSummary problem a × PrintsSummary problem b))
