use Rattle.std.proofs.Common.{◌≡◌, ◌∙◌, sym, ap, ℕ, List, arith}
use Rattle.std.proofs.lemmas.List.{get_or_default}
use Rattle.conley_chains.specs.Chain.{coefficient}
use Rattle.conley_chains.proofs.ChainLemmas.{coefficient-at, coefficient-between}
use Rattle.conley_chains.proofs.chain.Chain.entry.Goals as goal
use Rattle.conley_chains.proofs.chain.Chain.entry.Goals.{else-before-entries-via-then-before-entries+else-entries-before, else-before-entries-via-else-before-entries}

pub returns-then-entries-before : goal.returns-then-entries-before
returns-then-entries-before c =
    let es = c.entries-entries.result.now in
    let i = c.count_before-before.result in
    let e = c.index-entries-before-then-entries-before.result in
    let read = c.index-entries-before-then-entries-before.is in
    let here : e.0 ≡ c.args.place = ap (λ (x : ℕ × ℕ). x.0) (read ∙ get_or_default es i e c.index-entries-before.result c.if-before-entries.true)
    ∙ c.if-entries-before.true in
    ap (λ (x : ℕ × ℕ). x.1) (sym read) ∙ sym (coefficient-at es i e (rw c.entries-entries.ensures.entries c.entries-entries.ensures.chain)
    c.if-before-entries.true read)
    ∙ ap (coefficient es) here ∙ ap (λ (xs : List (ℕ × ℕ)). coefficient xs c.args.place) c.entries-entries.ensures.entries

pub returns-else-before-entries : goal.returns-else-before-entries
returns-else-before-entries c =
    c.of.ensures ∙ sym (rw c.entries-entries.ensures.entries at (coefficient-between c.entries-entries.result.now c.count_before-before.result c.args.place
    (rw c.entries-entries.ensures.entries c.entries-entries.ensures.chain)
    c.count_before-before.ensures.before c.count_before-before.ensures.after
    (elim c.else-before-entries.branch [
      | else-before-entries-via-then-before-entries+else-entries-before w ↦
          λ below d same. w.if-entries-before.false (ap (λ (x : ℕ × ℕ). x.0) (get_or_default c.entries-entries.result.now c.count_before-before.result
          w.index-entries-before.result d below) ∙ same)
      | else-before-entries-via-else-before-entries w ↦ λ below d same. absurd (omega (arith, w.if-before-entries.false))
    ])))
