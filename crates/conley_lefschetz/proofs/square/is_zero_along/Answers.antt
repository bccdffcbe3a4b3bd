use Rattle.std.proofs.Common.{ℕ, length, get_or, ◌∙◌, ap, sym, arith}
use Rattle.conley_chains.proofs.ChainLemmas.{place_within, entry_of}
use Rattle.conley_lefschetz.proofs.square.is_zero_along.Goals as goal

pub bounds-sums-e : goal.bounds-sums-e
bounds-sums-e c =
    let entries = c.entries-e-items.ensures.entries in
    place_within c.args.chain.now (length c.args.sums.now) c.loop-e.e-index c.e-item.result c.entries-e-items.ensures.chain c.requires
    (rw (← entries) c.loop-e-test.true) (rw entries at c.e-item.is)

pub returns : goal.returns
returns c = λ _ place some.
    let entries = c.entries-e-items.ensures.entries in
    let at = entry_of c.args.chain.now place some in
    ap (λ (z : ℕ). get_or c.args.sums.now z 0) (sym (at.1.1 (0, 0))) ∙ c.loop-e.invariant at.0 (0, 0)
    (omega (arith, at.1.0, c.loop-e-test.false, ap length entries))
