use Rattle.std.proofs.Common.{◌<◌, ℕ, get_or}
use Rattle.std.specs.Prelude.{Contains}
use Rattle.conley_walk.specs.Walk.{Reaches}
use Rattle.conley_lists.specs.Lists.{ListedStep}
use Rattle.conley_faces.proofs.faces.Faces.has_gap.Given as goal

abbrev pub invariant-loop-x : goal.invariant-loop-x
invariant-loop-x l = (k : ℕ) → k < l.x-index → (y z : ℕ) → ListedStep l.self (get_or l.set k 0) y → (Contains l.set y → ⊥) → Contains l.set z
    → Reaches (ListedStep l.self) y z → ⊥
