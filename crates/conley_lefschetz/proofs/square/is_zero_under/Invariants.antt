use Rattle.std.proofs.Common.{◌≡◌, ◌≢◌, ◌<◌, ℕ, [], get_or}
use Rattle.conley_chains.specs.Matrix.{entry}
use Rattle.conley_lefschetz.proofs.square.is_zero_under.Given as goal

abbrev pub invariant-loop-e : goal.invariant-loop-e
invariant-loop-e l = (k : ℕ) (d : ℕ × ℕ) (z : ℕ) → k < l.e-index → entry l.matrix z (get_or (get_or l.matrix.columns l.x []) k d).0 ≢ 0 → get_or l.sums z 0 ≡ 0
