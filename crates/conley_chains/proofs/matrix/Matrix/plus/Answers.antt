use Rattle.std.proofs.Common.{◌≡◌, ◌<◌, ℕ, List, [], length, get_or, ◌∙◌, ap, arith, sym}
use Rattle.std.proofs.lemmas.List.{get_or_default}
use Rattle.std.proofs.Math.ListN.{get_or-eq_default}
use Rattle.conley_chains.specs.Chain.{coefficient}
use Rattle.conley_chains.specs.Matrix.{Table, entry}
use Rattle.conley_chains.proofs.MatrixLemmas.{no_code}
use Rattle.conley_chains.proofs.ColumnLemmas.{built_more, built_end, column-no_row}
use Rattle.conley_chains.proofs.matrix.Matrix.plus.Goals as goal

pub loop-k-preserved : goal.loop-k-preserved
loop-k-preserved g c =
    let k = c.loop-k.k in
    let kept = c.self.inside.kept.items in
    let others = c.other.inside.kept.items in
    let below : k < length kept = omega arith in
    let count : length others ≡ length kept = ap (λ (t : Table). length t.columns) c.other.view_is ∙ c.requires.columns
    ∙ ap (λ (t : Table). length t.columns) (sym c.self.view_is) in
    let rows : c.other.inside.row_count ≡ c.self.inside.row_count = ap (λ (t : Table). t.rows) c.other.view_is ∙ c.requires.rows
    ∙ ap (λ (t : Table). t.rows) (sym c.self.view_is) in
    let of_self : c.index.result.now ≡ get_or c.args.self.now.columns k [] =
    c.index.ensures ∙ get_or_default kept k c.index.result.now [] below ∙ ap (λ (t : Table). get_or t.columns k []) c.self.view_is in
    let of_other : c.index-in-loop-k.result.now ≡ get_or c.args.other.now.columns k [] =
    c.index-in-loop-k.ensures ∙ get_or_default others k c.index-in-loop-k.result.now [] (omega arith)
    ∙ ap (λ (t : Table). get_or t.columns k []) c.other.view_is in
    rw c.in_ok-push.ensures.items (built_more _ _ k c.loop-k.columns.items c.in_ok-column.column c.loop-k.invariant c.in_ok-column.ensures.codes
    (rw of_other at (rw of_self at c.in_ok-column.ensures.sum))
    (λ row beyond. no_code (g.met.F.Field.is_field c.args.field.now) _ c.args.by _
    (ap (λ (t : Table). entry t row k) (sym c.self.view_is) ∙ column-no_row c.self.inside.row_count kept k row c.self.invariant.keeps_rows beyond)
    (ap (λ (t : Table). entry t row k) (sym c.other.view_is) ∙ column-no_row c.other.inside.row_count others k row c.other.invariant.keeps_rows (omega arith))))

pub returns-clause-sum : goal.returns-clause-sum
returns-clause-sum g c row column =
    let count : length c.self.inside.kept.items ≡ length c.args.self.now.columns = ap (λ (t : Table). length t.columns) c.self.view_is in
    rw c.from_columns.ensures (built_end _ _ c.loop-k.k (length c.args.self.now.columns) c.loop-k.columns.items c.loop-k.invariant (omega arith)
    (λ r k end. no_code (g.met.F.Field.is_field c.args.field.now) _ c.args.by _
    (ap (λ (es : List (ℕ × ℕ)). coefficient es r) (get_or-eq_default c.args.self.now.columns [] end))
    (ap (λ (es : List (ℕ × ℕ)). coefficient es r) (get_or-eq_default c.args.other.now.columns [] (let h = c.requires.columns in omega arith)))) row column)
