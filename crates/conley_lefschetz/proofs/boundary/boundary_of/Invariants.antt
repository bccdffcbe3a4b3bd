use Rattle.std.proofs.Common.{◌≡◌, ◌<◌, ℕ, [], length, get_or}
use Rattle.conley_lefschetz.specs.Making.{column_of}
use Rattle.conley_lefschetz.proofs.boundary.boundary_of.Given as goal

abbrev pub invariant-loop-x : goal.invariant-loop-x
invariant-loop-x l = record {
  count : length l.columns.items ≡ l.x;
  columns : (x : ℕ) → x < l.x → get_or l.columns.items x [] ≡ column_of l.incidences x (get_or l.faces x []);
}
