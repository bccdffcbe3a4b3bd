-- the numbers of the levels so far
use Rattle.std.proofs.Common.{◌≡◌, ◌<◌, ◌==◌, ℕ, cond, length, get_or}
use Rattle.conley_homology.proofs.counting.one_at.Given as goal

abbrev pub invariant-loop-level : goal.invariant-loop-level
invariant-loop-level l = (length l.numbers.items ≡ l.level) × ((k : ℕ) → k < l.level → get_or l.numbers.items k 0 ≡ cond (k == l.dim) 1 0)
