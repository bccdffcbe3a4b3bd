-- no code stands from the end on
use Rattle.std.proofs.Common.{◌≡◌, ◌<◌, ◌≤◌, ℕ}
use Rattle.std.specs.Prelude.{slice_index}
use Rattle.conley_homology.specs.Own.{place_in}
use Rattle.conley_homology.proofs.row.end_in.Given as goal

abbrev pub invariant-loop-end : goal.invariant-loop-end
invariant-loop-end l = record {
  within : l.end ≤ l.from;
  past : (k : ℕ) → l.end ≤ k → k < l.from → slice_index l.row (place_in l.set k) ≡ 0;
}

abbrev pub decreases-loop-end : goal.decreases-loop-end
decreases-loop-end l = l.end
