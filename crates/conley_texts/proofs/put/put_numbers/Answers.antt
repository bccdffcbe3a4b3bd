use Rattle.std.proofs.Common.{◌∷◌}
use Rattle.std.specs.Prelude.{decimal}
use Rattle.std.proofs.lemmas.Result.{err_from_is_err_and}
use Rattle.conley_texts.proofs.PieceLemmas.{GainsPrefix-piece}
use Rattle.conley_texts.proofs.put.put_numbers.Goals as goal

pub returns-in_err-put_number-clause-err : goal.returns-in_err-put_number-clause-err
returns-in_err-put_number-clause-err g c =
    let p = err_from_is_err_and c.from_residual.result c.from_residual.ensures.1 in
    rw (p.1) (GainsPrefix-piece (λ n. 32 ∷ decimal n) c.args.numbers.now c.loop-number.number-index 0 _ _ _ c.loop-number-test.true
    c.loop-number.invariant.written c.in_err-put_number.ensures.err)
