use Rattle.std.proofs.Common.{◌<◌, ◌≤◌, ℕ, List, map, get_or}
use Rattle.conley_input.specs.Meaning.{cell_texts}
use Rattle.conley_input.proofs.limits.any_above.Given as goal

abbrev pub invariant-loop-cell : goal.invariant-loop-cell
invariant-loop-cell l = (j : ℕ) → j < l.cell-index → get_or (map (λ (c : List ℕ × ℕ). c.1) (cell_texts l.cells)) j 0 ≤ l.most
