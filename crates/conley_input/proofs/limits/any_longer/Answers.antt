use Rattle.std.proofs.Common.{arith, [], length, ◌∙◌, ap, below_more}
use Rattle.std.proofs.lemmas.List.{get_or_default}
use Rattle.conley_lefschetz.specs.Listing.{bytes_of}
use Rattle.conley_lefschetz.proofs.TextLemmas.{label_at, length-bytes_of}
use Rattle.conley_input.proofs.limits.any_longer.Goals as goal

pub loop-label-preserved : goal.loop-label-preserved
loop-label-preserved c =
    let e = label_at c.args.labels.now c.loop-label.label-index c.label-item.result c.loop-label-test.true c.label-item.is in
    below_more _ _ c.loop-label.invariant (omega (arith, ap length e, c.len.ensures, c.if-len-most.false))

pub returns : goal.returns
returns c = (
  (λ t. cc),
  (λ a. absurd (omega (
    arith,
    a.4,
    c.loop-label.invariant a.0 (omega (arith, a.2, length-bytes_of c.args.labels.now)),
    ap length (get_or_default (bytes_of c.args.labels.now) a.0 [] a.1 a.2 ∙ a.3),
  ))),
)
