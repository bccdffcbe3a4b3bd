use Rattle.std.proofs.Common.{◌≡◌, ◌*◌, ◌≤◌, take}
use Rattle.conley_lists.specs.Lists.{items_of}
use Rattle.conley_trial.specs.Numbers as spec
use Rattle.conley_trial.proofs.numbers.index_sum.Given as goal

abbrev pub invariant-loop-row : goal.invariant-loop-row
invariant-loop-row l = record {
  sum : l.sum ≡ spec.index_sum (take l.row-index (items_of l.numbers)) l.k;
  few : l.sum ≤ 4294967295 * l.row-index;
}
