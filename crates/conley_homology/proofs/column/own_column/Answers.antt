use Rattle.std.proofs.Common.{◌<◌, ℕ, get_or, [], List, ap, sym, ◌∙◌, cond}
use Rattle.std.specs.List.{filter}
use Rattle.std.proofs.lemmas.List.{take_all}
use Rattle.std.proofs.lemmas.List.Elements.{All-filter}
use Rattle.conley_lists.specs.Lists.{is_listed}
use Rattle.conley_chains.specs.Chain.{coefficient}
use Rattle.conley_homology.proofs.PlaceLemmas.{coefficient-filter, IsChain-filter}
use Rattle.conley_homology.proofs.column.own_column.Goals as goal

pub from_pairs-requires : goal.from_pairs-requires
from_pairs-requires c =
    let all = c.deref.ensures.value ∙ c.loop-e.invariant ∙ ap (filter (λ (e : ℕ × ℕ). is_listed c.args.set.now e.0))
    (take_all c.loop-e.e-index c.entries-e-items.result.now c.loop-e-test.false) in
    rw all (IsChain-filter (λ e. is_listed c.args.set.now e.0) c.entries-e-items.result.now
    (rw c.entries-e-items.ensures.entries c.entries-e-items.ensures.chain))

pub returns-clause-own : goal.returns-clause-own
returns-clause-own c row =
    let all = c.in_ok-from_pairs.ensures ∙ c.deref.ensures.value ∙ c.loop-e.invariant ∙ ap (filter (λ (e : ℕ × ℕ). is_listed c.args.set.now e.0))
    (take_all c.loop-e.e-index c.entries-e-items.result.now c.loop-e-test.false) in
    ap (λ (es : List (ℕ × ℕ)). coefficient es row) (all ∙ ap (filter (λ (e : ℕ × ℕ). is_listed c.args.set.now e.0))
    (c.entries-e-items.ensures.entries ∙ c.column.ensures.column))
    ∙ coefficient-filter (is_listed c.args.set.now) (get_or c.args.boundary.now.columns c.args.cell []) row
    ∙ sym (ap (λ b. cond (is_listed c.args.set.now row) (cond b (coefficient (get_or c.args.boundary.now.columns c.args.cell []) row) 0) 0) c.requires.listed)

pub returns-clause-codes : goal.returns-clause-codes
returns-clause-codes c n codes =
    let all = c.in_ok-from_pairs.ensures ∙ c.deref.ensures.value ∙ c.loop-e.invariant ∙ ap (filter (λ (e : ℕ × ℕ). is_listed c.args.set.now e.0))
    (take_all c.loop-e.e-index c.entries-e-items.result.now c.loop-e-test.false) in
    rw (all ∙ ap (filter (λ (e : ℕ × ℕ). is_listed c.args.set.now e.0)) (c.entries-e-items.ensures.entries ∙ c.column.ensures.column))
    (All-filter (λ e. is_listed c.args.set.now e.0) (λ (e : ℕ × ℕ). e.1 < n) (get_or c.args.boundary.now.columns c.args.cell []) codes)
