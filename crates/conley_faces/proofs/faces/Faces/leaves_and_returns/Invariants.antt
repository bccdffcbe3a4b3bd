use Rattle.std.proofs.Common.{◌<◌, ℕ, get_or}
use Rattle.std.specs.Prelude.{Contains}
use Rattle.conley_walk.specs.Walk.{Reaches}
use Rattle.conley_lists.specs.Lists.{ListedStep}
use Rattle.conley_faces.proofs.faces.Faces.leaves_and_returns.Given as goal

abbrev pub invariant-loop-y : goal.invariant-loop-y
invariant-loop-y l = (k : ℕ) → k < l.y-index → (z : ℕ) → (Contains l.set (get_or l.y-items k 0) → ⊥) → Contains l.set z
    → Reaches (ListedStep l.self) (get_or l.y-items k 0) z → ⊥
