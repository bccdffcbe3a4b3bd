use Rattle.std.proofs.Common.{◌≡◌, ◌<◌, ℕ, [], length, get_or, ◌∙◌, ap, sym, arith, List}
use Rattle.std.proofs.lemmas.List.{get_or_default}
use Rattle.std.proofs.Math.ListN.{get_or-eq_default}
use Rattle.conley_chains.specs.Chain.{coefficient}
use Rattle.conley_chains.specs.Matrix.{Table, entry}
use Rattle.conley_chains.proofs.MatrixLemmas.{image-no_row, image-no_code}
use Rattle.conley_chains.proofs.ColumnLemmas.{built_more, built_end, column-no_row}
use Rattle.conley_chains.proofs.matrix.Matrix.product.Goals as goal

pub loop-column-preserved : goal.loop-column-preserved
loop-column-preserved g c =
    let kept = c.self.inside.kept.items in
    let columns : c.deref-column-items.result.now ≡ c.args.right.now.columns = c.deref-column-items.ensures.value
    ∙ ap (λ (t : Table). t.columns) c.right.view_is in
    let below : c.loop-column.column-index < length c.args.right.now.columns = rw (← columns) c.loop-column-test.true in
    let read : c.column-item.result ≡ get_or c.args.right.now.columns c.loop-column.column-index [] =
    (rw columns at c.column-item.is) ∙ get_or_default c.args.right.now.columns c.loop-column.column-index c.column-item.result [] below in
    rw c.in_ok-push.ensures.items (built_more _ _ c.loop-column.column-index c.loop-column.columns.items c.in_ok-apply.field-0 c.loop-column.invariant
    c.in_ok-apply.ensures.codes
    (rw read at c.in_ok-apply.ensures.image)
    (λ row beyond. image-no_row (g.met.F.Field.is_field c.args.field.now) c.args.self.now _ row
    (λ k k_below. ap (λ (t : Table). entry t row k) (sym c.self.view_is) ∙ column-no_row c.self.inside.row_count kept k row c.self.invariant.keeps_rows
    beyond)))

pub returns-clause-product : goal.returns-clause-product
returns-clause-product g c row column =
    let columns : c.deref-column-items.result.now ≡ c.args.right.now.columns = c.deref-column-items.ensures.value
    ∙ ap (λ (t : Table). t.columns) c.right.view_is in
    rw c.from_columns.ensures (built_end _ _ c.loop-column.column-index (length c.args.right.now.columns) c.loop-column.columns.items c.loop-column.invariant
    (rw (← columns) (omega arith))
    (λ r k end. image-no_code (g.met.F.Field.is_field c.args.field.now) c.args.self.now _ r
    (λ l. ap (λ (es : List (ℕ × ℕ)). coefficient es l) (get_or-eq_default c.args.right.now.columns [] end))) row column)
