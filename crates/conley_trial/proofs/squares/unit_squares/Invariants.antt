use Rattle.std.proofs.Common.{◌≡◌}
use Rattle.std.specs.Prelude.{map}
use Rattle.std.specs.List.{flat_map, range_with_len}
use Rattle.conley_lists.specs.Lists.{items_of}
use Rattle.conley_trial.specs.Squares.{unit_square}
use Rattle.conley_trial.proofs.squares.unit_squares.Given as goal

abbrev pub invariant-loop-i : goal.invariant-loop-i
invariant-loop-i l = items_of l.squares.items ≡ flat_map (λ i. map (unit_square i) (range_with_len 0 l.k)) (range_with_len 0 l.i)
