use Rattle.std.proofs.Common.{◌≡◌, ◌<◌, ℕ, length, get_or}
use Rattle.conley_isolation.proofs.places.parts_of.Given as goal

abbrev pub invariant-loop-x : goal.invariant-loop-x
invariant-loop-x l = (length l.parts.items ≡ l.x-index) × ((i : ℕ) → i < l.x-index → get_or l.parts.items i 0 ≡ get_or l.partition (get_or l.set i 0) 0)
