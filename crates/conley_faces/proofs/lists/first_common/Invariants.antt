use Rattle.std.proofs.Common.{◌<◌, ℕ, get_or}
use Rattle.std.specs.Prelude.{Contains}
use Rattle.conley_faces.proofs.lists.first_common.Given as goal

abbrev pub invariant-loop-z : goal.invariant-loop-z
invariant-loop-z l = (k : ℕ) → k < l.z-index → Contains l.other (get_or l.list k 0) → ⊥
