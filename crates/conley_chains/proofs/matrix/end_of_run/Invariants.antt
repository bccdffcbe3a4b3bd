use Rattle.std.proofs.Common.{◌≡◌, ◌-◌, ◌≤◌, ◌<◌, ℕ, length}
use Rattle.conley_chains.specs.Placing.{placed_at}
use Rattle.conley_chains.proofs.matrix.end_of_run.Given as goal

abbrev pub invariant-loop-end : goal.invariant-loop-end
invariant-loop-end l = (l.start ≤ l.end) × (l.end ≤ length l.placed) × ((k : ℕ) → l.start ≤ k → k < l.end → (placed_at l.placed k).column ≡ l.column)

abbrev pub decreases-loop-end : goal.decreases-loop-end
decreases-loop-end l = length l.placed - l.end
