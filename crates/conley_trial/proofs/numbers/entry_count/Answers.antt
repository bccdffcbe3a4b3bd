use Rattle.std.proofs.Common.{◌≡◌, ◌≤◌, ℕ, List, [], length, sym, ◌∙◌, ap, subst, arith}
use Rattle.std.specs.Prelude.{sum_by}
use Rattle.std.proofs.lemmas.List.Sums.{sum_by_more}
use Rattle.conley_chains.specs.Chain.{coefficient}
use Rattle.conley_lists.proofs.ListLemmas.{take_whole}
use Rattle.conley_trial.proofs.ChainLengthLemmas.{chain_short}
use Rattle.conley_trial.proofs.numbers.entry_count.Goals as goal

pub overflow_add-count : goal.overflow_add-count
overflow_add-count c =
    let rows = c.args.matrix.now.rows in
    let none = subst (λ (es : List (ℕ × ℕ)). (row : ℕ) → rows ≤ row → coefficient es row ≡ 0) (sym c.column.ensures.column) c.column.ensures.keeps_rows in
    omega (
      arith,
      ap (λ (es : List (ℕ × ℕ)). length es) c.entries.ensures.entries,
      chain_short c.column.result.now rows c.entries.ensures.chain none,
      c.requires.rows,
      c.requires.columns,
      c.columns-column-end.ensures,
      c.loop-column-test.true,
      c.loop-column.invariant.few,
    )

pub loop-column-preserved : goal.loop-column-preserved
loop-column-preserved c =
    let rows = c.args.matrix.now.rows in
    let columns = c.args.matrix.now.columns in
    let none = subst (λ (es : List (ℕ × ℕ)). (row : ℕ) → rows ≤ row → coefficient es row ≡ 0) (sym c.column.ensures.column) c.column.ensures.keeps_rows in
    let here = ap (λ (es : List (ℕ × ℕ)). length es) (c.entries.ensures.entries ∙ c.column.ensures.column) in
    let more = sum_by_more (λ (es : List (ℕ × ℕ)). length es) columns c.loop-column.column []
    (omega (arith, c.loop-column-test.true, c.columns-column-end.ensures)) in
    record {
      count = omega (arith, more, here, c.loop-column.invariant.count);
      few = omega (
        arith,
        ap (λ (es : List (ℕ × ℕ)). length es) c.entries.ensures.entries,
        chain_short c.column.result.now rows c.entries.ensures.chain none,
        c.requires.rows,
        c.loop-column.invariant.few,
      );
    }

pub returns : goal.returns
returns c = c.loop-column.invariant.count
    ∙ ap (λ (l : List (List (ℕ × ℕ))). sum_by length l) (take_whole c.loop-column.column c.args.matrix.now.columns
    (omega (arith, c.loop-column-test.false, c.columns-column-end.ensures)))
