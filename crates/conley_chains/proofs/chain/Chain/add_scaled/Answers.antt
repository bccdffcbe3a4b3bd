use Rattle.std.proofs.Common.{◌≡◌, ◌<◌, ◌≤◌, ◌^◌, ℕ, List, length, get_or, ap, sym, ◌∙◌, subst}
use Rattle.conley_chains.specs.Chain.{first_place}
use Rattle.conley_chains.proofs.ChainLemmas.{first_place-drop}
use Rattle.conley_chains.proofs.AppendLemmas.{cut-beyond, cut-sum}
use Rattle.conley_chains.proofs.chain.Chain.add_scaled.Goals as goal

pub append-requires-clause-beyond : goal.append-requires-clause-beyond
append-requires-clause-beyond g c = (rw (c.entries.ensures.entries, c.entries-2.ensures.entries) at c.starts_beyond.ensures.beyond) c.if-starts_beyond.true

pub split_off-requires : goal.split_off-requires
split_off-requires g c = rw c.entries-4.ensures.entries at c.count_before-before.ensures.within

pub append-requires-2-clause-beyond : goal.append-requires-2-clause-beyond
append-requires-2-clause-beyond g c =
    let first = c.index-entries-0.result in
    let other = c.args.other.now in
    let some = (rw c.entries.ensures.entries at c.starts_beyond.ensures.some) c.if-starts_beyond.false in
    let place = (get_or c.entries-3.result.now 0 first).0 in
    let begins : first_place other ≡ place = first_place-drop other 0 first some.0 (rw c.entries-3.ensures.entries at c.index-entries-0.is)
    ∙ ap (λ (x : ℕ × ℕ). x.0) c.index-entries-0.is in
    let fits : place ≤ 2 ^ 32 = subst (λ (n : ℕ). n ≤ 2 ^ 32) begins (rw c.entries.ensures.entries at c.starts_beyond.ensures.most) in
    rw c.in_ok-rest.ensures.kept (cut-beyond (g.met.F.Field.is_field c.args.field.now) c.args.self c.args.by other c.count_before-before.result place
    c.entries-4.ensures.chain c.entries.ensures.chain
    c.in_ok-sum.sum (rw c.in_ok-rest.ensures.rest at c.in_ok-sum.ensures.sum) fits begins c.in_ok-sum.ensures.chain
    (λ k d within. subst (λ (es : List (ℕ × ℕ)). (get_or es k d).0 < place) c.entries-4.ensures.entries (c.count_before-before.ensures.before k d within))
    (λ k d from within. subst (λ (es : List (ℕ × ℕ)). place ≤ (get_or es k d).0) c.entries-4.ensures.entries
    (c.count_before-before.ensures.after k d from (subst (λ (es : List (ℕ × ℕ)). k < length es) (sym c.entries-4.ensures.entries) within))))

pub returns-clause-sum : goal.returns-clause-sum
returns-clause-sum g c =
    cut-sum (g.met.F.Field.is_field c.args.field.now) c.args.self c.args.by c.args.other.now c.count_before-before.result c.index-entries-0.result.0
    c.entries-4.ensures.chain c.entries.ensures.chain
    c.in_ok-sum.sum (rw c.in_ok-rest.ensures.rest at c.in_ok-sum.ensures.sum) c.requires.codes c.in_ok-sum.ensures.codes c.append-2.new.self
    (rw (c.in_ok-rest.ensures.kept, c.one.ensures) at c.in_ok-append-2.ensures.sum)
