use Rattle.std.proofs.Common.{◌≢◌, ℕ, length, get_or, ◌∙◌, ap, sym, subst, arith, []}
use Rattle.conley_chains.specs.Matrix.{column_count, entry}
use Rattle.conley_chains.proofs.ChainLemmas.{place_within, entry_of}
use Rattle.conley_lefschetz.proofs.square.is_zero_under.Goals as goal

pub column-requires-in-loop-e : goal.column-requires-in-loop-e
column-requires-in-loop-e c =
    let entries = c.entries-e-items.ensures.entries ∙ c.column.ensures.column in
    let chain = rw c.column.ensures.column at c.entries-e-items.ensures.chain in
    place_within (get_or c.args.matrix.now.columns c.args.x []) (column_count c.args.matrix.now) c.loop-e.e-index c.e-item.result chain
    (λ place beyond. c.column.ensures.keeps_rows place (omega (arith, beyond, c.requires.square)))
    (rw (← entries) c.loop-e-test.true) (rw entries at c.e-item.is)

pub returns : goal.returns
returns c = λ _ y z upper lower.
    let entries = c.entries-e-items.ensures.entries ∙ c.column.ensures.column in
    let at = entry_of (get_or c.args.matrix.now.columns c.args.x []) y upper in
    c.loop-e.invariant at.0 (0, 0) z (omega (arith, at.1.0, c.loop-e-test.false, ap length entries))
    (subst (λ (q : ℕ). entry c.args.matrix.now z q ≢ 0) (sym (at.1.1 (0, 0))) lower)
