use Rattle.std.proofs.Common.{◌≡◌, ◌<◌, ℕ, [], List, length, get_or, sym, subst, ◌∙◌, All, arith}
use Rattle.std.proofs.lemmas.List.{get_or_default}
use Rattle.conley_chains.proofs.TransposeLemmas.{PutsAt, spread_start, spread_before, spread_more}
use Rattle.conley_chains.proofs.transposing.spread.Goals as goal

pub loop-e-init : goal.loop-e-init
loop-e-init c = spread_start c.args.place c.args.column.now c.entries-e-items.ensures.chain c.args.rows.now.items c.requires.before

-- the row of an entry is one of the rows
row_within : (column : List (ℕ × ℕ)) (k m n : ℕ) (e : ℕ × ℕ) → All (λ x. x.0 < m) column → k < length column → e ≡ get_or column k e → n ≡ m → e.0 < n
row_within column k m n e all below read same = (let h : e.0 < m = subst (λ (x : ℕ × ℕ). x.0 < m) (sym read) (all k e below) in omega arith)

pub put-requires : goal.put-requires
put-requires c =
    let e = c.e-item.result in
    let entries = c.entries-e-items.ensures.entries in
    let below : c.loop-e.e-index < length c.args.column.now = rw (← entries) c.loop-e-test.true in
    let read : e ≡ get_or c.args.column.now c.loop-e.e-index e = rw entries at c.e-item.is in
    let within : e.0 < length c.loop-e.rows.items = row_within c.args.column.now c.loop-e.e-index (length c.args.rows.now.items) (length c.loop-e.rows.items) e
    c.requires.within below read c.loop-e.invariant.count in
    subst (λ (es : List (ℕ × ℕ)). All (λ x. x.0 < c.args.place) es) (sym (c.index_mut.ensures.value
    ∙ get_or_default c.loop-e.rows.items e.0 c.index_mut.result.now [] within))
    (spread_before c.args.place c.args.column.now c.entries-e-items.ensures.chain c.args.rows.now.items c.loop-e.e-index c.loop-e.rows.items e
    c.loop-e.invariant below read)

pub loop-e-preserved : goal.loop-e-preserved
loop-e-preserved c =
    let e = c.e-item.result in
    let rows = c.loop-e.rows.items in
    let entries = c.entries-e-items.ensures.entries in
    let below : c.loop-e.e-index < length c.args.column.now = rw (← entries) c.loop-e-test.true in
    let read : e ≡ get_or c.args.column.now c.loop-e.e-index e = rw entries at c.e-item.is in
    let within : e.0 < length rows = row_within c.args.column.now c.loop-e.e-index (length c.args.rows.now.items) (length rows) e c.requires.within below read
    c.loop-e.invariant.count in
    let old : c.index_mut.result.now ≡ get_or rows e.0 [] = c.index_mut.ensures.value ∙ get_or_default rows e.0 c.index_mut.result.now [] within in
    spread_more c.args.place c.args.column.now c.entries-e-items.ensures.chain c.args.rows.now.items c.loop-e.e-index rows e c.loop-e.invariant below read
    c.put.new.self within
    (subst (λ (es : List (ℕ × ℕ)). PutsAt c.args.place e.1 es c.put.new.self) old (record {
      at = c.in_ok-put.ensures.codes;
      places =
          c.in_ok-put.ensures.places;
      codes = c.in_ok-put.ensures.below;
    }))
