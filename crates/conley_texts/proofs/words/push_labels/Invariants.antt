use Rattle.std.proofs.Common.{◌≡◌, ◌++◌, take}
use Rattle.std.specs.Prelude.{◌||◌}
use Rattle.conley_texts.specs.Words.{labels_of, joined, is_some}
use Rattle.conley_texts.proofs.words.push_labels.Given as goal

abbrev pub invariant-loop-x : goal.invariant-loop-x
invariant-loop-x l = record {
  text : l.text.items ≡ l.initial.text.items ++ joined l.initial.some (labels_of l.complex.1.labels (take l.x-index l.cells));
  some : l.some ≡ l.initial.some || is_some (labels_of l.complex.1.labels (take l.x-index l.cells));
}
