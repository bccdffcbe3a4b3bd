use Rattle.std.proofs.Common.{◌<◌, ℕ}
use Rattle.std.specs.Prelude.{Contains, ◌↔◌}
use Rattle.conley_lists.specs.Lists.{items_of}
use Rattle.conley_isolation.specs.Making.{Crosses}
use Rattle.conley_isolation.proofs.starts.crossing.Given as goal

abbrev pub invariant-loop-i : goal.invariant-loop-i
invariant-loop-i l = (i : ℕ) → Contains l.starts.items i ↔ ((i < l.i) × Crosses (items_of l.steps) l.parts i)
