use Rattle.std.proofs.Common.{◌-◌, ◌<◌, ◌≤◌, ℕ, List, map, length, get_or}
use Rattle.conley_lists.specs.Lists.{items_of}
use Rattle.conley_input.proofs.limits.any_larger.Given as goal

abbrev pub invariant-loop-simplex : goal.invariant-loop-simplex
invariant-loop-simplex l = (j : ℕ) → j < l.simplex-index → get_or (map (λ (s : List ℕ). length s - 1) (items_of l.simplices)) j 0 ≤ l.most
