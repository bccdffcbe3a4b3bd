use Rattle.std.proofs.Common.{◌≡◌, ℕ, List}
use Rattle.conley_texts.specs.Line.{text_of}
use Rattle.conley_input.specs.ProblemMeaning.{meaning_of}
use Rattle.conley_tool.proofs.PartLineLemmas.{AreLinesBefore}
use Rattle.conley_tool.proofs.field.field_text.Given as goal

abbrev pub invariant-loop-p : goal.invariant-loop-p
invariant-loop-p l = (lines : List (List (List ℕ))) × AreLinesBefore (meaning_of l.problem) l.p lines × (l.text.items ≡ text_of lines)
