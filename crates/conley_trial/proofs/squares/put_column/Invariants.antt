use Rattle.std.proofs.Common.{◌≡◌, ◌++◌}
use Rattle.std.specs.Prelude.{map}
use Rattle.std.specs.List.{range_with_len}
use Rattle.conley_lists.specs.Lists.{items_of}
use Rattle.conley_trial.specs.Squares.{unit_square}
use Rattle.conley_trial.proofs.squares.put_column.Given as goal

abbrev pub invariant-loop-j : goal.invariant-loop-j
invariant-loop-j l = items_of l.squares.items ≡ items_of l.fn.squares.items ++ map (unit_square l.i) (range_with_len 0 l.j)
