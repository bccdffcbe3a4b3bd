use Rattle.std.proofs.Common.{arith, ℕ, List, [], map, length, refl, ap, below_more}
use Rattle.conley_input.specs.Meaning.{cell_texts}
use Rattle.conley_input.proofs.LimitLemmas.{any_at, no_any, cell_label_at, length-cells}
use Rattle.conley_input.proofs.limits.any_cell_longer.Goals as goal

pub loop-cell-preserved : goal.loop-cell-preserved
loop-cell-preserved c =
    let at = cell_label_at c.args.cells.now c.loop-cell.cell-index c.cell-item.result c.loop-cell-test.true c.cell-item.is in
    below_more _ _ c.loop-cell.invariant (omega (arith, ap length at, c.len.ensures, c.if-len-most.false))

pub returns-then-len-most : goal.returns-then-len-most
returns-then-len-most c =
    let at = cell_label_at c.args.cells.now c.loop-cell.cell-index c.cell-item.result c.loop-cell-test.true c.cell-item.is in
    let labels = map (λ (cell : List ℕ × ℕ). cell.0) (cell_texts c.args.cells.now) in (
      (λ _. any_at (λ (label : List ℕ). length label) c.args.most labels [] c.loop-cell.cell-index
          (omega (arith, c.loop-cell-test.true, length-cells (λ (cell : List ℕ × ℕ). cell.0) c.args.cells.now))
          (omega (arith, ap length at, c.len.ensures, c.if-len-most.true))),
      (λ _. refl),
    )

pub returns : goal.returns
returns c =
    let labels = map (λ (cell : List ℕ × ℕ). cell.0) (cell_texts c.args.cells.now) in (
      (λ t. cc),
      (λ any. absurd (no_any (λ (label : List ℕ). length label) c.args.most labels [] c.loop-cell.cell-index
          (omega (arith, c.loop-cell-test.false, length-cells (λ (cell : List ℕ × ℕ). cell.0) c.args.cells.now)) c.loop-cell.invariant any)),
    )
