use Rattle.std.proofs.Common.{◌≡◌, ◌<◌, ℕ, List, [], length, get_or, ap, sym, subst, ◌∙◌, arith, All}
use Rattle.std.proofs.lemmas.List.{get_or_default}
use Rattle.conley_chains.specs.Matrix.{Table}
use Rattle.conley_chains.proofs.ChainLemmas.{places_within}
use Rattle.conley_chains.proofs.TransposeLemmas.{transposed_more, transposed_keeps}
use Rattle.conley_chains.proofs.matrix.Matrix.transpose.Goals as goal

pub spread-requires-clause-within : goal.spread-requires-clause-within
spread-requires-clause-within c =
    let kept = c.self.inside.kept.items in
    let k = c.loop-k.k in
    let column = c.index.result.now in
    let rows : length c.loop-k.rows.items ≡ c.self.inside.row_count = c.loop-k.invariant.length_is ∙ ap (λ (t : Table). t.rows) (sym c.self.view_is) in
    let read : column ≡ get_or kept k column = c.index.ensures in
    let chain = c.self.invariant.chains k column (omega arith) in
    let keeps = c.self.invariant.keeps_rows k column (omega arith) in
    subst (λ (n : ℕ). All (λ e. e.0 < n) column) (sym rows)
    (subst (λ (es : List (ℕ × ℕ)). All (λ e. e.0 < c.self.inside.row_count) es) (sym read)
    (places_within (get_or kept k column) c.self.inside.row_count chain keeps))

pub loop-k-preserved : goal.loop-k-preserved
loop-k-preserved c =
    let kept = c.self.inside.kept.items in
    let k = c.loop-k.k in
    let below : k < length kept = omega arith in
    let view : kept ≡ c.args.self.now.columns = ap (λ (t : Table). t.columns) c.self.view_is in
    transposed_more c.args.self.now.rows c.args.self.now.columns k c.loop-k.rows.items c.spread.new.rows.items c.index.result.now c.loop-k.invariant
    (subst (λ (xs : List (List (ℕ × ℕ))). k < length xs) view below)
    (c.index.ensures ∙ get_or_default kept k c.index.result.now [] below ∙ ap (λ (xs : List (List (ℕ × ℕ))). get_or xs k []) view)
    c.in_ok-spread.ensures.count c.in_ok-spread.ensures.entries c.in_ok-spread.ensures.places c.in_ok-spread.ensures.codes

pub from_columns-requires : goal.from_columns-requires
from_columns-requires c =
    let view : c.self.inside.kept.items ≡ c.args.self.now.columns = ap (λ (t : Table). t.columns) c.self.view_is in
    let all : c.loop-k.k ≡ length c.args.self.now.columns = (let e = ap length view in omega arith) in
    let count : c.len.result ≡ length c.args.self.now.columns = (let e = ap length view in omega arith) in
    rw count (transposed_keeps c.args.self.now.rows c.args.self.now.columns c.loop-k.k c.loop-k.rows.items c.loop-k.invariant all)

pub returns-clause-table : goal.returns-clause-table
returns-clause-table c = λ K codes.
    let view : c.self.inside.kept.items ≡ c.args.self.now.columns = ap (λ (t : Table). t.columns) c.self.view_is in
    let all : c.loop-k.k ≡ length c.args.self.now.columns = (let e = ap length view in omega arith) in
    let count : c.len.result ≡ length c.args.self.now.columns = (let e = ap length view in omega arith) in
    rw c.from_columns.ensures (record {
      rows = count;
      columns = c.loop-k.invariant.length_is;
      codes = c.loop-k.invariant.codes K.order codes;
      keeps_rows = rw count (transposed_keeps c.args.self.now.rows c.args.self.now.columns c.loop-k.k c.loop-k.rows.items c.loop-k.invariant all);
    })
