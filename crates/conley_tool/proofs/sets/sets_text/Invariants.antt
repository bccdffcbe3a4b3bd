use Rattle.std.proofs.Common.{◌≡◌, ℕ, List, take}
use Rattle.conley_texts.specs.Line.{text_of}
use Rattle.conley_input.specs.ProblemMeaning.{meaning_of}
use Rattle.conley_tool.specs.Sets.{AreSetLines}
use Rattle.conley_tool.proofs.sets.sets_text.Given as goal

abbrev pub invariant-loop-named : goal.invariant-loop-named
invariant-loop-named l = (lines : List (List (List ℕ))) × AreSetLines (meaning_of l.problem) (take l.named-index (meaning_of l.problem).sets) lines
    × (l.text.items ≡ text_of lines)
