use Rattle.std.proofs.Common.{◌≡◌, ◌+◌, ◌/◌, ℕ, length, vec_len, take}
use Rattle.std.specs.Prelude.{◌↔◌}
use Rattle.conley_lists.specs.Lists.{IsMarked}
use Rattle.conley_order.specs.ClassRows.{word_bit}
use Rattle.conley_order.proofs.words.words_of.Given as goal

abbrev pub invariant-loop-b : goal.invariant-loop-b
invariant-loop-b l = record {
  width : vec_len l.words ≡ length l.marks / 64 + 1;
  bits : (k : ℕ) → (word_bit l.words.items k ≡ 1) ↔ IsMarked (take l.b l.marks) k;
}
