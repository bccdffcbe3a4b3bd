use Rattle.std.proofs.Common.{◌≡◌, ◌<◌, ℕ, map, take}
use Rattle.conley_lefschetz.specs.Making.{cells_in_triple}
use Rattle.conley_lefschetz.specs.Fault.{IsFault}
use Rattle.conley_lefschetz.proofs.incidences.first_fault.Given as goal

abbrev pub invariant-loop-k : goal.invariant-loop-k
invariant-loop-k l = record {
  places : l.stood.keys ≡ map cells_in_triple (take l.k l.incidences);
  none : (j why : ℕ) → j < l.k → IsFault l.dims l.incidences j why → ⊥;
}
