use Rattle.std.proofs.Common.{◌≡◌, map, take}
use Rattle.conley_lists.specs.Lists.{items_of}
use Rattle.conley_texts.specs.Line.{text_of}
use Rattle.conley_texts.specs.Words.{labels_of}
use Rattle.conley_tool.proofs.classes.classes_text.Given as goal

abbrev pub invariant-loop-k : goal.invariant-loop-k
invariant-loop-k l = l.text.items ≡ text_of (map (labels_of l.problem.complex.1.labels) (take l.k (items_of l.classes.items)))
