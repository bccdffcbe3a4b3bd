use Rattle.std.proofs.Common.{arith, ◌≡◌, ◌∙◌, ◌==◌, sym, ap, ℕ, List, [], length}
use Rattle.std.proofs.lemmas.Bool.{true≢false}
use Rattle.conley_chains.specs.Chain.{coefficient}
use Rattle.conley_homology.proofs.PlaceLemmas.{chain-empty}
use Rattle.conley_homology.proofs.ColumnLemmas.{chain_read}
use Rattle.conley_homology.proofs.column.Columns.is_free.Goals as goal

pub returns-clause-no : goal.returns-clause-no
returns-clause-no c not_empty free =
    let read = c.entries.ensures.entries ∙ chain_read c.args.self.now.reduced.items c.args.i c.index-2.result.now
    (omega (arith, c.requires.reduced, c.requires.cell)) c.index-2.ensures in
    let empty : c.entries.result.now ≡ [] = chain-empty c.entries.result.now (rw c.entries.ensures.entries c.entries.ensures.chain)
    (λ x. ap (λ (es : List (ℕ × ℕ)). coefficient es x) read ∙ free.1 x) in
    true≢false (sym (c.is_empty.ensures ∙ ap (λ (es : List (ℕ × ℕ)). length es == 0) empty) ∙ not_empty)
