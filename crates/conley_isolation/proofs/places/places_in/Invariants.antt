use Rattle.std.proofs.Common.{◌≡◌, ◌<◌, ℕ, length, get_or}
use Rattle.std.specs.Prelude.{Contains, ◌↔◌}
use Rattle.conley_isolation.proofs.places.places_in.Given as goal

abbrev pub invariant-loop-x : goal.invariant-loop-x
invariant-loop-x l = (i : ℕ) → Contains l.places.items i ↔ ((i < length l.set) × ((k : ℕ) × (k < l.x-index) × (get_or l.cells k 0 ≡ get_or l.set i 0)))
