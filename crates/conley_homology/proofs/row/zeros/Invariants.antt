use Rattle.std.proofs.Common.{◌≡◌, ℕ, length, get_or}
use Rattle.conley_homology.proofs.row.zeros.Given as goal

abbrev pub invariant-loop-turn : goal.invariant-loop-turn
invariant-loop-turn l = (length l.row.items ≡ l.turn) × ((x : ℕ) → get_or l.row.items x 0 ≡ 0)
