-- one entry more is added to its place in the row
use Rattle.std.proofs.Common.{arith, ◌≡◌, ◌<◌, length, get_or, sym, subst, ◌∙◌}
use Rattle.std.proofs.lemmas.List.{get_or_default}
use Rattle.conley_chains.proofs.ChainLemmas.{HasCodes-at, place_within}
use Rattle.conley_chains.proofs.RowLemmas.{plus_start, plus_more, plus_end}
use Rattle.conley_chains.proofs.chain.Chain.add_to.Goals as goal

pub loop-e-init : goal.loop-e-init
loop-e-init g c = plus_start (g.met.F.Field.is_field c.args.field.now) c.args.row.now c.args.by c.args.self.now c.entries-e-items.ensures.chain
    c.requires.row_codes

pub bounds-row-place : goal.bounds-row-place
bounds-row-place g c =
    let entries = c.entries-e-items.ensures.entries in
    let within = place_within c.args.self.now (length c.args.row.now) c.loop-e.e-index c.e-item.result c.entries-e-items.ensures.chain c.requires.within
    (rw (← entries) c.loop-e-test.true) (rw entries at c.e-item.is) in
    omega (arith, within, c.loop-e.invariant.width)

pub bounds-row-place-in-loop-e : goal.bounds-row-place-in-loop-e
bounds-row-place-in-loop-e g c =
    let entries = c.entries-e-items.ensures.entries in
    let within = place_within c.args.self.now (length c.args.row.now) c.loop-e.e-index c.e-item.result c.entries-e-items.ensures.chain c.requires.within
    (rw (← entries) c.loop-e-test.true) (rw entries at c.e-item.is) in
    omega (arith, within, c.loop-e.invariant.width)

pub times-requires-clause-below : goal.times-requires-clause-below
times-requires-clause-below g c =
    let entries = c.entries-e-items.ensures.entries in
    HasCodes-at (g.F.Field.arithmetic c.args.field.now) c.args.self.now c.loop-e.e-index c.e-item.result c.requires.codes (rw (← entries) c.loop-e-test.true)
    (rw entries at c.e-item.is)

pub add-requires-clause-a_below : goal.add-requires-clause-a_below
add-requires-clause-a_below g c =
    let entries = c.entries-e-items.ensures.entries in
    let within = place_within c.args.self.now (length c.args.row.now) c.loop-e.e-index c.e-item.result c.entries-e-items.ensures.chain c.requires.within
    (rw (← entries) c.loop-e-test.true) (rw entries at c.e-item.is) in
    let inside : c.e-item.result.0 < length c.loop-e.row = omega (arith, within, c.loop-e.invariant.width) in
    subst (λ t. t < (g.F.Field.arithmetic c.args.field.now).order) (sym c.index-row-place.is)
    (c.loop-e.invariant.codes c.e-item.result.0 c.index-row-place.result inside)

pub loop-e-preserved : goal.loop-e-preserved
loop-e-preserved g c =
    let entries = c.entries-e-items.ensures.entries in
    let below : c.loop-e.e-index < length c.args.self.now = rw (← entries) c.loop-e-test.true in
    let read = rw entries at c.e-item.is in
    let within = place_within c.args.self.now (length c.args.row.now) c.loop-e.e-index c.e-item.result c.entries-e-items.ensures.chain c.requires.within below
    read in
    let inside : c.e-item.result.0 < length c.loop-e.row = omega (arith, within, c.loop-e.invariant.width) in
    let old : c.index-row-place.result ≡ get_or c.loop-e.row c.e-item.result.0 0 = c.index-row-place.is
    ∙ get_or_default c.loop-e.row c.e-item.result.0 c.index-row-place.result 0 inside in
    rw (c.add.ensures, c.times.ensures, old)
    (plus_more (g.met.F.Field.is_field c.args.field.now) c.args.row.now c.args.by c.args.self.now c.entries-e-items.ensures.chain c.requires.row_codes
    c.loop-e.e-index c.loop-e.row c.e-item.result c.loop-e.invariant below read inside)

pub returns-clause-sum : goal.returns-clause-sum
returns-clause-sum g c =
    plus_end (g.met.F.Field.is_field c.args.field.now) c.args.row.now c.args.by c.args.self.now c.entries-e-items.ensures.chain c.requires.row_codes
    c.loop-e.e-index c.loop-e.row c.loop-e.invariant
    (rw (← c.entries-e-items.ensures.entries) (omega arith))
