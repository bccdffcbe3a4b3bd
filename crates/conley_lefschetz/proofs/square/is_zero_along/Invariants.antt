use Rattle.std.proofs.Common.{◌≡◌, ◌<◌, ℕ, get_or}
use Rattle.conley_lefschetz.proofs.square.is_zero_along.Given as goal

abbrev pub invariant-loop-e : goal.invariant-loop-e
invariant-loop-e l = (k : ℕ) (d : ℕ × ℕ) → k < l.e-index → get_or l.sums (get_or l.chain k d).0 0 ≡ 0
