-- What is due for `analyze FILE`.
--     in_full problem              the problem with its scalars, as an analysis has it
--     PrintsAnalysis problem what  the text of an analysis of the problem, and a line feed; it has at most 2,000 sets
--     AnalysisIsDue problem what   that, or more than 2,000 Morse sets are refused
-- The wording is this project's own.
use Rattle.std.specs.Prelude.{◌≡◌, ◌⊎◌, ◌≤◌, ℕ, List, [], ◌∷◌, ◌++◌, length}
use Rattle.conley_field.specs.Prime.{residues}
use Rattle.conley_certificate.specs.Problem as certificate
use Rattle.conley_analysis.specs.Text.{IsAnalysisText}
use Rattle.conley_input.specs.Problem.{Problem}
use Rattle.conley_tool.specs.Due.{Due, prints}
use Rattle.conley_tool.specs.Morse.{RefusesSets}

abbrev pub in_full : Problem → certificate.Problem
in_full problem = certificate.problem_of (residues problem.order) problem.complex problem.part_of

abbrev pub PrintsAnalysis : Problem → Due → Type 0
PrintsAnalysis problem what =
    (text : List ℕ) × (analysis : IsAnalysisText (in_full problem) text) × (length analysis.certificate.morse ≤ 2000) × (what ≡ prints (text ++ (10 ∷ [])))

abbrev pub AnalysisIsDue : Problem → Due → Type 0
AnalysisIsDue problem what = RefusesSets problem what ⊎ PrintsAnalysis problem what
