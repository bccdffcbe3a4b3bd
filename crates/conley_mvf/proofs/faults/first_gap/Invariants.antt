use Rattle.std.proofs.Common.{◌<◌, ℕ, [], get_or}
use Rattle.conley_lists.specs.Lists.{items_of}
use Rattle.conley_faces.specs.Face.{IsGap}
use Rattle.conley_mvf.proofs.faults.first_gap.Given as goal

abbrev pub invariant-loop-k : goal.invariant-loop-k
invariant-loop-k l = (j : ℕ) → j < l.k → (x y z : ℕ) → IsGap l.faces (get_or (items_of l.lists) j []) x y z → ⊥
