-- one code more is kept
use Rattle.std.proofs.Common.{arith, ◌≡◌, inl, inr, ◌+◌, ◌<◌, ◌≤◌, ℕ, cond, length, get_or, ap, sym, ◌∙◌, subst}
use Rattle.std.proofs.lemmas.Bool.{cases_eq, eq-eqb, ne_eqb}
use Rattle.std.proofs.lemmas.List.{get_or_default}
use Rattle.std.proofs.lemmas.List.Elements.{All-weaker}
use Rattle.conley_chains.specs.Chain.{coefficient}
use Rattle.conley_chains.proofs.RowLemmas.{kept_end}
use Rattle.conley_chains.proofs.chain.Chain.from_row.Goals as goal

pub loop-i-preserved : goal.loop-i-preserved
loop-i-preserved c =
    let i = c.loop-i.i in
    let below : i < length c.args.row.now = omega arith in
    let code = c.index-row-i.result in
    let read : code ≡ get_or c.args.row.now i 0 = c.index-row-i.is ∙ get_or_default c.args.row.now i code 0 below in
    record {
      same = λ place less. c.in_ok-put.ensures.codes place ∙ elim (cases_eq place i) [
        | inl at ↦ ap (λ b. cond b code (coefficient c.loop-i.chain place)) (eq-eqb place i at) ∙ read ∙ ap (λ (j : ℕ). get_or c.args.row.now j 0) (sym at)
        | inr other ↦ ap (λ b. cond b code (coefficient c.loop-i.chain place)) (ne_eqb place i other) ∙ c.loop-i.invariant.same place (omega arith)
      ];
      before = All-weaker (λ (e : ℕ × ℕ). e.0 ≤ i) (λ (e : ℕ × ℕ). e.0 < i + 1) (λ e h. omega arith) c.put.new.self c.in_ok-put.ensures.places;
      codes = λ n all. c.in_ok-put.ensures.below n (subst (λ (t : ℕ). t < n) (sym c.index-row-i.is) (all i code below)) (c.loop-i.invariant.codes n all);
    }

pub returns-clause-places : goal.returns-clause-places
returns-clause-places c = kept_end c.args.row.now c.loop-i.i c.loop-i.chain c.loop-i.invariant (omega arith)

pub returns-clause-codes : goal.returns-clause-codes
returns-clause-codes c = c.loop-i.invariant.codes
