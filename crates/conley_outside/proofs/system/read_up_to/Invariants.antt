use Rattle.std.proofs.Common.{◌≤◌, ◌-◌, vec_len}
use Rattle.conley_outside.proofs.system.read_up_to.Given as goal

abbrev pub invariant-loop-into : goal.invariant-loop-into
invariant-loop-into g l = vec_len l.into ≤ l.limit

abbrev pub decreases-loop-into : goal.decreases-loop-into
decreases-loop-into g l = l.limit - vec_len l.into
