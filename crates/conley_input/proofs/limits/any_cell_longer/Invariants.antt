use Rattle.std.proofs.Common.{◌<◌, ◌≤◌, ℕ, List, [], map, length, get_or}
use Rattle.conley_input.specs.Meaning.{cell_texts}
use Rattle.conley_input.proofs.limits.any_cell_longer.Given as goal

abbrev pub invariant-loop-cell : goal.invariant-loop-cell
invariant-loop-cell l = (j : ℕ) → j < l.cell-index → length (get_or (map (λ (c : List ℕ × ℕ). c.0) (cell_texts l.cells)) j []) ≤ l.most
