use Rattle.std.proofs.Common.{◌≡◌, ◌≢◌, ◌<◌, ℕ, get_or}
use Rattle.conley_isolation.proofs.starts.crosses.Given as goal

abbrev pub invariant-loop-j : goal.invariant-loop-j
invariant-loop-j l = (k : ℕ) → k < l.j-index → ¬ ((get_or l.class_of (get_or l.heads k 0) 0 ≡ get_or l.class_of l.i 0)
    × (get_or l.parts (get_or l.heads k 0) 0 ≢ get_or l.parts l.i 0))
