-- each refusal is told by its words
use Rattle.std.proofs.Common.{ap, sym, ◌∙◌}
use Rattle.conley_input.specs.Told.{words_of_file}
use Rattle.conley_input.proofs.error.FileFault.told.Goals as goal

pub returns-in-NotJson : goal.returns-in-NotJson
returns-in-NotJson c = c.new.ensures ∙ ap words_of_file (sym c.in-NotJson.is)

pub returns-in-BadShape : goal.returns-in-BadShape
returns-in-BadShape c = c.new-in-BadShape.ensures ∙ ap words_of_file (sym c.in-BadShape.is)

pub returns-in-UnknownField : goal.returns-in-UnknownField
returns-in-UnknownField c = c.new-in-UnknownField.ensures ∙ ap words_of_file (sym c.in-UnknownField.is)

pub returns-in-TooMany : goal.returns-in-TooMany
returns-in-TooMany c = c.new-in-TooMany.ensures ∙ ap words_of_file (sym c.in-TooMany.is)

pub returns-in-BadLabel : goal.returns-in-BadLabel
returns-in-BadLabel c = c.new-in-BadLabel.ensures ∙ ap words_of_file (sym c.in-BadLabel.is)

pub returns-in-DuplicateLabel : goal.returns-in-DuplicateLabel
returns-in-DuplicateLabel c = c.new-in-DuplicateLabel.ensures ∙ ap words_of_file (sym c.in-DuplicateLabel.is)

pub returns-in-BadIncidence : goal.returns-in-BadIncidence
returns-in-BadIncidence c = c.new-in-BadIncidence.ensures ∙ ap words_of_file (sym c.in-BadIncidence.is)

pub returns-in-BadSimplex : goal.returns-in-BadSimplex
returns-in-BadSimplex c = c.new-in-BadSimplex.ensures ∙ ap words_of_file (sym c.in-BadSimplex.is)

pub returns-in-BadAxes : goal.returns-in-BadAxes
returns-in-BadAxes c = c.new-in-BadAxes.ensures ∙ ap words_of_file (sym c.in-BadAxes.is)

pub returns-in-BadCube : goal.returns-in-BadCube
returns-in-BadCube c = c.new-in-BadCube.ensures ∙ ap words_of_file (sym c.in-BadCube.is)

pub returns-in-TooManyCells : goal.returns-in-TooManyCells
returns-in-TooManyCells c = c.new-in-TooManyCells.ensures ∙ ap words_of_file (sym c.in-TooManyCells.is)

pub returns-in-NotBoundary : goal.returns-in-NotBoundary
returns-in-NotBoundary c = c.new-in-NotBoundary.ensures ∙ ap words_of_file (sym c.in-NotBoundary.is)

pub returns-in-UnknownCell : goal.returns-in-UnknownCell
returns-in-UnknownCell c = c.new-in-UnknownCell.ensures ∙ ap words_of_file (sym c.in-UnknownCell.is)

pub returns-in-RepeatedCell : goal.returns-in-RepeatedCell
returns-in-RepeatedCell c = c.new-in-RepeatedCell.ensures ∙ ap words_of_file (sym c.in-RepeatedCell.is)

pub returns-in-EmptyPart : goal.returns-in-EmptyPart
returns-in-EmptyPart c = c.new-in-EmptyPart.ensures ∙ ap words_of_file (sym c.in-EmptyPart.is)

pub returns-in-NotLocallyClosed : goal.returns-in-NotLocallyClosed
returns-in-NotLocallyClosed c = c.new-in-NotLocallyClosed.ensures ∙ ap words_of_file (sym c.in-NotLocallyClosed.is)
