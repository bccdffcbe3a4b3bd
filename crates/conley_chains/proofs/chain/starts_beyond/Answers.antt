use Rattle.std.proofs.Common.{◌<◌, ◌-◌, ℕ, length, arith, subst}
use Rattle.std.proofs.lemmas.Bool.{ltb-true}
use Rattle.conley_chains.proofs.AppendLemmas.{last_place-most}
use Rattle.conley_chains.proofs.chain.starts_beyond.Goals as goal

pub returns-clause-beyond : goal.returns-clause-beyond
returns-clause-beyond c is =
    let last = c.index-others-count.result in
    let below : last.0 < c.next_place-first.result = ltb-true _ _ is in
    last_place-most c.args.others.now last _ c.requires (length c.args.others.now - 1) (omega arith) c.index-others-count.is
    (subst (λ (n : ℕ). last.0 < n) c.next_place-first.ensures.place below)
