-- What is due for `trial K`.
--     IsMade word problem            the problem is the one that is made for the number which the word says
--     OnMade word Next what          what is due of the problem that is made
--     summary_lines summary          the lines of a summary
--     PrintsSummary problem what     the summary of the problem and of an analysis of it; it has at most 2,000 sets, and its matrix keeps no zero
--     SummaryIsDue problem what      that, or more than 2,000 Morse sets are refused
-- The wording is this project's own.
use Rattle.std.specs.Prelude.{◌≡◌, ◌⊎◌, ◌≤◌, ℕ, List, [], ◌∷◌, All, map, length, Some, codes, decimal}
use Rattle.std.specs.Fmt.{signed_decimal}
use Rattle.conley_texts.specs.Line.{text_of}
use Rattle.conley_chains.specs.Chain.{IsChain}
use Rattle.conley_certificate_file.specs.Certificate.{Certificate}
use Rattle.conley_certificate.specs.Analysis.{IsAnalysis}
use Rattle.conley_input.specs.Problem.{Problem, IsSound}
use Rattle.conley_trial.specs.Trial.{IsTrialProblem}
use Rattle.conley_trial.specs.Summary.{summary_of}
use Rattle.conley_trial.specs.declared.summary.Summary.{Summary}
use Rattle.conley_tool.specs.Due.{Due, prints}
use Rattle.conley_tool.specs.Words.{number_of}
use Rattle.conley_tool.specs.Analyze.{in_full}
use Rattle.conley_tool.specs.Morse.{RefusesSets}

abbrev pub IsMade : List ℕ → Problem → Type 0
IsMade word problem = (k : ℕ) × (number_of word ≡ Some k) × IsTrialProblem k problem × IsSound problem

abbrev pub OnMade : List ℕ → (Problem → Due → Type 0) → Due → Type 0
OnMade word Next what = (problem : Problem) × IsMade word problem × Next problem what

abbrev pub summary_lines : Summary → List (List (List ℕ))
summary_lines summary =
    (codes "cells" ∷ decimal summary.cells ∷ [])
    ∷ (codes "morse" ∷ decimal summary.morse ∷ [])
    ∷ (codes "index" ∷ map decimal summary.index)
    ∷ (codes "euler" ∷ signed_decimal summary.euler ∷ [])
    ∷ (codes "entries" ∷ decimal summary.entries ∷ [])
    ∷ []

abbrev pub PrintsSummary : Problem → Due → Type 0
PrintsSummary problem what =
    (C : Certificate) × IsAnalysis (in_full problem) C × (length C.morse ≤ 2000) × All IsChain C.matrix.columns
    × (what ≡ prints (text_of (summary_lines (summary_of problem.complex C))))

abbrev pub SummaryIsDue : Problem → Due → Type 0
SummaryIsDue problem what = RefusesSets problem what ⊎ PrintsSummary problem what
