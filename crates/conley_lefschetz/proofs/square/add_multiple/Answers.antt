use Rattle.std.proofs.Common.{◌≡◌, ◌<◌, ℕ, length, get_or, sym, ◌∙◌, ap, subst, arith}
use Rattle.std.proofs.lemmas.List.{get_or_default}
use Rattle.conley_chains.proofs.ChainLemmas.{place_within}
use Rattle.conley_lefschetz.proofs.SquareLemmas.{adds_start, adds_more, adds_end}
use Rattle.conley_lefschetz.proofs.square.add_multiple.Goals as goal

pub loop-e-init : goal.loop-e-init
loop-e-init g c = adds_start (g.met.F.Field.is_field c.args.field.now) c.args.sums.now c.args.by c.requires.sums_codes

-- the place of an entry stands in the row
pub bounds-sums-place : goal.bounds-sums-place
bounds-sums-place g c =
    let entries = c.entries-e-items.ensures.entries in
    let within = place_within c.args.chain.now (length c.args.sums.now) c.loop-e.e-index c.e-item.result c.entries-e-items.ensures.chain c.requires.places
    (rw (← entries) c.loop-e-test.true) (rw entries at c.e-item.is) in
    omega (arith, within, c.loop-e.invariant.count)

pub bounds-sums-place-in-loop-e : goal.bounds-sums-place-in-loop-e
bounds-sums-place-in-loop-e g c =
    let entries = c.entries-e-items.ensures.entries in
    let within = place_within c.args.chain.now (length c.args.sums.now) c.loop-e.e-index c.e-item.result c.entries-e-items.ensures.chain c.requires.places
    (rw (← entries) c.loop-e-test.true) (rw entries at c.e-item.is) in
    omega (arith, within, c.loop-e.invariant.count)

pub add-requires-clause-a_below : goal.add-requires-clause-a_below
add-requires-clause-a_below g c =
    let entries = c.entries-e-items.ensures.entries in
    let within = place_within c.args.chain.now (length c.args.sums.now) c.loop-e.e-index c.e-item.result c.entries-e-items.ensures.chain c.requires.places
    (rw (← entries) c.loop-e-test.true) (rw entries at c.e-item.is) in
    subst (λ (t : ℕ). t < (g.F.Field.arithmetic c.args.field.now).order) (sym c.index-sums-place.is)
    (c.loop-e.invariant.codes c.e-item.result.0 c.index-sums-place.result (omega (arith, within, c.loop-e.invariant.count)))

pub loop-e-preserved : goal.loop-e-preserved
loop-e-preserved g c =
    let F = g.F.Field.arithmetic c.args.field.now in
    let entries = c.entries-e-items.ensures.entries in
    let below : c.loop-e.e-index < length c.args.chain.now = rw (← entries) c.loop-e-test.true in
    let read : c.e-item.result ≡ get_or c.args.chain.now c.loop-e.e-index c.e-item.result = rw entries at c.e-item.is in
    let place = place_within c.args.chain.now (length c.args.sums.now) c.loop-e.e-index c.e-item.result c.entries-e-items.ensures.chain c.requires.places below
    read in
    let within : c.e-item.result.0 < length c.loop-e.sums = omega (arith, place, c.loop-e.invariant.count) in
    let sum : c.index-sums-place.result ≡ get_or c.loop-e.sums c.e-item.result.0 0 = c.index-sums-place.is
    ∙ get_or_default c.loop-e.sums c.e-item.result.0 c.index-sums-place.result 0 within in
    adds_more (g.met.F.Field.is_field c.args.field.now) c.args.sums.now c.loop-e.sums c.args.by c.args.chain.now c.loop-e.e-index c.e-item.result c.add.result
    c.requires.sums_codes c.entries-e-items.ensures.chain below read within c.loop-e.invariant
    (c.add.ensures ∙ ap (λ (t : ℕ). F.add t c.mul.result) sum ∙ ap (F.add (get_or c.loop-e.sums c.e-item.result.0 0)) c.mul.ensures)

pub returns : goal.returns
returns g c = adds_end (g.met.F.Field.is_field c.args.field.now) c.args.sums.now c.loop-e.sums c.args.by c.args.chain.now c.loop-e.e-index c.loop-e.invariant
    (rw (← c.entries-e-items.ensures.entries) (omega (arith, c.loop-e-test.false)))
