use Rattle.std.proofs.Common.{◌≡◌, ◌≤◌}
use Rattle.conley_tool.specs.Words.{number_of}
use Rattle.conley_tool.proofs.WordLemmas.{found_from}
use Rattle.conley_tool.proofs.words.number_of.Given as goal

abbrev pub invariant-loop-number : goal.invariant-loop-number
invariant-loop-number l = record {
  found : number_of l.word ≡ found_from l.word l.number;
  some : 1 ≤ l.number;
}
