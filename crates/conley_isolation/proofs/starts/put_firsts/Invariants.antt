use Rattle.std.proofs.Common.{◌≡◌, ◌⊎◌, ◌<◌, ℕ, get_or}
use Rattle.std.specs.Prelude.{Contains, ◌↔◌}
use Rattle.conley_transitions.specs.Flow.{IsCalledRegular}
use Rattle.conley_graph.specs.Decomposition.{flow_of}
use Rattle.conley_isolation.proofs.starts.put_firsts.Given as goal

abbrev pub invariant-loop-i : goal.invariant-loop-i
invariant-loop-i g l = (i : ℕ) → Contains l.starts.items i ↔ (Contains l.fn.starts.items i
    ⊎ ((i < l.i) × (get_or l.firsts i 0 ≡ i) × ¬ IsCalledRegular (flow_of (g.F.Field.arithmetic l.complex.0) l.complex.1 l.partition) (get_or l.parts i 0)))
