use Rattle.std.proofs.Common.{◌≡◌, ◌++◌, map, take}
use Rattle.std.specs.Prelude.{◌||◌, decimal}
use Rattle.conley_texts.specs.Words.{joined, is_some}
use Rattle.conley_texts.proofs.words.push_numbers.Given as goal

abbrev pub invariant-loop-number : goal.invariant-loop-number
invariant-loop-number l = record {
  text : l.text.items ≡ l.initial.text.items ++ joined l.initial.some (map decimal (take l.number-index l.numbers));
  some : l.some ≡ l.initial.some || is_some (map decimal (take l.number-index l.numbers));
}
