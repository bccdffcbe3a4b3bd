use Rattle.std.proofs.Common.{◌<◌, length, get_or, ◌∙◌, arith, []}
use Rattle.conley_chains.specs.Matrix.{column_count}
use Rattle.conley_chains.proofs.ChainLemmas.{place_within}
use Rattle.conley_lefschetz.proofs.SquareLemmas.{square_start, square_more, square_end}
use Rattle.conley_lefschetz.proofs.square.add_column.Goals as goal

pub loop-e-init : goal.loop-e-init
loop-e-init g c = square_start (g.met.F.Field.is_field c.args.field.now) c.args.matrix.now c.args.x c.args.sums.now c.requires.width c.requires.zero

pub column-requires-in-loop-e : goal.column-requires-in-loop-e
column-requires-in-loop-e g c =
    let entries = c.entries-e-items.ensures.entries ∙ c.column.ensures.column in
    let chain = rw c.column.ensures.column at c.entries-e-items.ensures.chain in
    place_within (get_or c.args.matrix.now.columns c.args.x []) (column_count c.args.matrix.now) c.loop-e.e-index c.e-item.result chain
    (λ place beyond. c.column.ensures.keeps_rows place (omega (arith, beyond, c.requires.square)))
    (rw (← entries) c.loop-e-test.true) (rw entries at c.e-item.is)

pub loop-e-preserved : goal.loop-e-preserved
loop-e-preserved g c =
    let entries = c.entries-e-items.ensures.entries ∙ c.column.ensures.column in
    let chain = rw c.column.ensures.column at c.entries-e-items.ensures.chain in
    let below : c.loop-e.e-index < length (get_or c.args.matrix.now.columns c.args.x []) = rw (← entries) c.loop-e-test.true in
    let read = rw entries at c.e-item.is in
    let within = place_within (get_or c.args.matrix.now.columns c.args.x []) (column_count c.args.matrix.now) c.loop-e.e-index c.e-item.result chain
    (λ place beyond. c.column.ensures.keeps_rows place (omega (arith, beyond, c.requires.square))) below read in
    square_more (g.met.F.Field.is_field c.args.field.now) c.args.matrix.now c.args.x c.loop-e.e-index c.loop-e.sums c.add_multiple.new.sums c.e-item.result
    chain below read within c.loop-e.invariant
    (rw c.column-in-loop-e.ensures.column at c.add_multiple.ensures)

pub returns : goal.returns
returns g c =
    let entries = c.entries-e-items.ensures.entries ∙ c.column.ensures.column in
    square_end (g.met.F.Field.is_field c.args.field.now) c.args.matrix.now c.args.x c.loop-e.e-index c.loop-e.sums c.loop-e.invariant
    (rw (← entries) (omega (arith, c.loop-e-test.false)))
