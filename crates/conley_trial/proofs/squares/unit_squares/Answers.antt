use Rattle.std.proofs.Common.{◌++◌, ℤ, List, sym, ◌∙◌, ap}
use Rattle.std.specs.Prelude.{map}
use Rattle.std.specs.List.{range_with_len}
use Rattle.conley_trial.specs.Squares.{unit_square}
use Rattle.conley_trial.proofs.RangeLemmas.{flat_range_more}
use Rattle.conley_trial.proofs.squares.unit_squares.Goals as goal

pub loop-i-preserved : goal.loop-i-preserved
loop-i-preserved c =
    let k = c.args.k in
    c.in_ok-put_column.ensures ∙ ap (λ (l : List (List (ℤ × ℤ))). l ++ map (unit_square c.loop-i.i) (range_with_len 0 k)) c.loop-i.invariant
    ∙ sym (flat_range_more (λ i. map (unit_square i) (range_with_len 0 k)) c.loop-i.i)
