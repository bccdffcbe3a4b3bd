-- What is due for `classes FILE`.
--     IsClassesText problem text     the text is a line for each recurrence class, which has the labels of its cells
--     ClassesAreDue problem what     the text of the recurrence classes
-- The wording is this project's own.
use Rattle.std.specs.Prelude.{◌≡◌, ℕ, List, map}
use Rattle.conley_texts.specs.Line.{text_of}
use Rattle.conley_texts.specs.Words.{labels_of}
use Rattle.conley_transitions.specs.Classes.{AreRecurrenceClasses}
use Rattle.conley_input.specs.Problem.{Problem}
use Rattle.conley_tool.specs.Due.{Due, prints}

abbrev pub IsClassesText : Problem → List ℕ → Type 0
IsClassesText problem text =
    (classes : List (List ℕ)) × AreRecurrenceClasses problem.complex.faces problem.part_of classes
    × (text ≡ text_of (map (labels_of problem.complex.labels) classes))

abbrev pub ClassesAreDue : Problem → Due → Type 0
ClassesAreDue problem what = (text : List ℕ) × IsClassesText problem text × (what ≡ prints text)
