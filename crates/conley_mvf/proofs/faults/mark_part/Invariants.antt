use Rattle.std.proofs.Common.{◌≡◌, ◌<◌, ℕ, length}
use Rattle.conley_mvf.specs.Making.{IsKnown, MarksFirst}
use Rattle.conley_mvf.proofs.faults.mark_part.Given as goal

abbrev pub invariant-loop-k : goal.invariant-loop-k
invariant-loop-k l = record {
  width : length l.seen.items ≡ length l.initial.seen.items;
  none : (j : ℕ) → j < l.k → IsKnown l.initial.seen.items l.part j → ⊥;
  marks : MarksFirst l.part l.k l.initial.seen.items l.seen.items;
}
