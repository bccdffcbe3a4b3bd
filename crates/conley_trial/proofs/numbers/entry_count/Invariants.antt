use Rattle.std.proofs.Common.{◌≡◌, ◌*◌, ◌≤◌, length, take}
use Rattle.std.specs.Prelude.{sum_by}
use Rattle.conley_trial.proofs.numbers.entry_count.Given as goal

abbrev pub invariant-loop-column : goal.invariant-loop-column
invariant-loop-column l = record {
  count : l.count ≡ sum_by length (take l.column l.matrix.columns);
  few : l.count ≤ l.column * 4294967295;
}
