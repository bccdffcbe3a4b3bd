use Rattle.std.proofs.Common.{◌≡◌, ◌<◌, ℕ, get_or}
use Rattle.conley_lefschetz.proofs.square.first_not_zero.Given as goal

abbrev pub invariant-loop-z : goal.invariant-loop-z
invariant-loop-z l = (j : ℕ) → j < l.z → get_or l.sums j 0 ≡ 0
