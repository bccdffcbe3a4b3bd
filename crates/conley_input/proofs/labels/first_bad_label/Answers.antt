use Rattle.std.proofs.Common.{sym, ◌∙◌, ap, below_more}
use Rattle.conley_lefschetz.proofs.TextLemmas.{label_at}
use Rattle.conley_input.specs.Refusals.{is_label}
use Rattle.conley_input.proofs.labels.first_bad_label.Goals as goal

pub loop-k-preserved : goal.loop-k-preserved
loop-k-preserved c =
    let e = label_at c.args.labels.now c.loop-k.k c.index-labels-k.result c.loop-k-test.true c.index-labels-k.is in
    below_more _ _ c.loop-k.invariant (ap is_label (e ∙ sym c.as_str.ensures.value) ∙ sym c.is_label.ensures ∙ c.if-not-is_label.false)
