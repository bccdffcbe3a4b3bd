-- What is due for `sets FILE`.
--     index_words index                 whether a set is isolated, with its index where it is
--     set_words labels name told        the words of the line of a set, by what a report tells of it
--     IsSetLine problem named words     the words are those of a named set
--     AreSetLines problem sets lines    a line for each set, in their order
--     SetsAreDue problem what           the text of the lines of all named sets
-- The wording is this project's own.
use Rattle.std.specs.Prelude.{◌≡◌, ℕ, List, [], ◌∷◌, ◌++◌, Option, Some, None, map, codes, decimal}
use Rattle.conley_field.specs.Prime.{residues}
use Rattle.conley_texts.specs.Line.{text_of}
use Rattle.conley_texts.specs.Words.{labels_of}
use Rattle.conley_isolation.specs.Report.{Findings, IsReport}
use Rattle.conley_input.specs.Problem.{Problem, NamedSet}
use Rattle.conley_tool.specs.Due.{Due, prints}

abbrev pub index_words : Option (List ℕ) → List (List ℕ)
index_words None = codes "no" ∷ []
index_words (Some numbers) = codes "yes" ∷ codes "index" ∷ map decimal numbers

abbrev pub set_words : List (List ℕ) → List ℕ → Findings → List (List ℕ)
set_words labels name told = codes "set" ∷ name ∷ codes "isolated" ∷ (index_words told.index ++ (codes "invariant" ∷ labels_of labels told.invariant))

abbrev pub IsSetLine : Problem → NamedSet → List (List ℕ) → Type 0
IsSetLine problem named words =
    (told : Findings) × IsReport (residues problem.order) problem.complex problem.part_of named.cells told
    × (words ≡ set_words problem.complex.labels named.name told)

abbrev pub AreSetLines : Problem → List NamedSet → List (List (List ℕ)) → Type 0
AreSetLines problem [] [] = Unit {0}
AreSetLines problem (named ∷ sets) (words ∷ lines) = IsSetLine problem named words × AreSetLines problem sets lines
AreSetLines problem sets lines = ⊥

abbrev pub SetsAreDue : Problem → Due → Type 0
SetsAreDue problem what = (lines : List (List (List ℕ))) × AreSetLines problem problem.sets lines × (what ≡ prints (text_of lines))
