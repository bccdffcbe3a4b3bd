use Rattle.std.proofs.Common.{◌≡◌, ◌++◌, take, false}
use Rattle.std.specs.List.{flat_map}
use Rattle.conley_texts.specs.Words.{words_of, joined, is_some}
use Rattle.conley_texts.proofs.words.push_parts.Given as goal

abbrev pub invariant-loop-part : goal.invariant-loop-part
invariant-loop-part l = record {
  text : l.text.items ≡ l.initial.text.items ++ joined false (flat_map words_of (take l.part-index l.parts));
  some : l.some ≡ is_some (flat_map words_of (take l.part-index l.parts));
}
