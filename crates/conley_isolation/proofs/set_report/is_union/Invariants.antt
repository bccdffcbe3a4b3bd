use Rattle.std.proofs.Common.{◌≡◌, ◌<◌, ℕ, get_or}
use Rattle.std.specs.Prelude.{Contains}
use Rattle.conley_mvf.specs.Partition.{IsInPart}
use Rattle.conley_isolation.proofs.set_report.is_union.Given as goal

abbrev pub invariant-loop-i : goal.invariant-loop-i
invariant-loop-i l = (j : ℕ) → j < l.i → get_or l.firsts.items j 0 ≡ j → (y : ℕ) → IsInPart l.partition (get_or l.p-items j 0) y → Contains l.set y
