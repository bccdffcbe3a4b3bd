use Rattle.std.proofs.Common.{ap, sym, ◌∙◌, arith, length, below_more}
use Rattle.std.proofs.lemmas.Bool.{eqb-false}
use Rattle.conley_lists.proofs.ListLemmas.{row_of}
use Rattle.conley_mvf.proofs.faults.first_empty.Goals as goal

pub loop-k-preserved : goal.loop-k-preserved
loop-k-preserved c =
    let row = row_of c.args.lists.now c.loop-k.k c.index-lists-k.result c.loop-k-test.true c.index-lists-k.is in
    let some = eqb-false _ 0 (sym c.if-is_empty.ensures) in
    below_more _ _ c.loop-k.invariant (λ empty. some (omega (arith, ap length (sym row ∙ empty), c.index-lists-k.result.ok.0)))
