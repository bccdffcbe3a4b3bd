use Rattle.std.proofs.Common.{◌≡◌, ◌∙◌, sym, refl, length, None, rules}
use Rattle.conley_chains.specs.Faults.{triple_at, own_fault_within}
use Rattle.conley_chains.proofs.ReadingLemmas.{placed_more}
use Rattle.conley_chains.proofs.placing.place_triples.Goals as goal

pub loop-k-preserved : goal.loop-k-preserved
loop-k-preserved c =
    let none : c.own_fault-fault.result ≡ None = search rules in
    rw c.in_ok-push.ensures.items (placed_more (length c.args.entries.now) (triple_at c.args.entries.now)
    (own_fault_within c.args.rows c.args.columns c.args.order c.args.entries.now)
    c.loop-k.k c.loop-k.placed.items _ c.loop-k.invariant c.loop-k-test.true refl (rw c.lies_outside.ensures at (sym c.own_fault-fault.ensures ∙ none)))
