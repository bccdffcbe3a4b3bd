use Rattle.std.proofs.Common.{ℕ, [], get_or, subst, sym, ◌∙◌, ap, inl, inr, arith}
use Rattle.std.proofs.lemmas.Bool.{cases_eq}
use Rattle.std.proofs.lemmas.List.{get_or_default}
use Rattle.conley_chains.specs.Chain.{IsChain}
use Rattle.conley_chains.proofs.matrix.all_chains.Goals as goal

pub loop-column-preserved : goal.loop-column-preserved
loop-column-preserved c k below = elim (cases_eq k c.loop-column.column-index) [
  | inl last ↦
      let read = c.column-item.is ∙ get_or_default c.args.columns.now c.loop-column.column-index c.column-item.result [] c.loop-column-test.true in
      subst IsChain (read ∙ ap (λ (q : ℕ). get_or c.args.columns.now q []) (sym last)) c.entries.ensures.chain
  | inr before ↦ c.loop-column.invariant k (omega arith)
]

pub returns : goal.returns
returns c k d below = subst IsChain (get_or_default c.args.columns.now k [] d below) (c.loop-column.invariant k (omega arith))
