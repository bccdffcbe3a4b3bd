use Rattle.std.proofs.Common.{◌≡◌, ◌<◌, ℕ, get_or}
use Rattle.conley_morse.proofs.counting.lies_in_one_part.Given as goal

abbrev pub invariant-loop-x : goal.invariant-loop-x
invariant-loop-x l = (k : ℕ) → k < l.x-index → get_or l.partition (get_or l.class k 0) 0 ≡ l.part
