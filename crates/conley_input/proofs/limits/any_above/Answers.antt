use Rattle.std.proofs.Common.{arith, ℕ, List, map, refl, below_more}
use Rattle.conley_input.specs.Meaning.{cell_texts}
use Rattle.conley_input.proofs.LimitLemmas.{any_at, no_any, dim_at, length-cells}
use Rattle.conley_input.proofs.limits.any_above.Goals as goal

pub loop-cell-preserved : goal.loop-cell-preserved
loop-cell-preserved c =
    let at = dim_at c.args.cells.now c.loop-cell.cell-index c.cell-item.result c.loop-cell-test.true c.cell-item.is in
    below_more _ _ c.loop-cell.invariant (omega (arith, at, c.if-cell-most.false))

pub returns-then-cell-most : goal.returns-then-cell-most
returns-then-cell-most c =
    let at = dim_at c.args.cells.now c.loop-cell.cell-index c.cell-item.result c.loop-cell-test.true c.cell-item.is in
    let dims = map (λ (cell : List ℕ × ℕ). cell.1) (cell_texts c.args.cells.now) in (
      (λ _. any_at (λ (dim : ℕ). dim) c.args.most dims 0 c.loop-cell.cell-index (omega (
        arith,
        c.loop-cell-test.true,
        length-cells (λ (cell : List ℕ × ℕ). cell.1) c.args.cells.now,
      )) (omega (arith, at, c.if-cell-most.true))),
      (λ _. refl),
    )

pub returns : goal.returns
returns c =
    let dims = map (λ (cell : List ℕ × ℕ). cell.1) (cell_texts c.args.cells.now) in (
      (λ t. cc),
      (λ any. absurd (no_any (λ (dim : ℕ). dim) c.args.most dims 0 c.loop-cell.cell-index
          (omega (arith, c.loop-cell-test.false, length-cells (λ (cell : List ℕ × ℕ). cell.1) c.args.cells.now)) c.loop-cell.invariant any)),
    )
