use Rattle.std.proofs.Common.{◌≡◌, ◌<◌, length, get_or}
use Rattle.conley_chains.proofs.AppendLemmas.{appended_start, appended_more}
use Rattle.conley_chains.proofs.chain.Chain.append.Goals as goal

pub loop-e-init : goal.loop-e-init
loop-e-init g c = appended_start (g.met.F.Field.is_field c.args.field.now) c.args.self.now c.args.by c.args.other.now c.entries-e-items.ensures.chain
    c.requires.beyond c.requires.codes

pub loop-e-preserved : goal.loop-e-preserved
loop-e-preserved g c =
    let e = c.e-item.result in
    let entries = c.entries-e-items.ensures.entries in
    let below : c.loop-e.e-index < length c.args.other.now = rw (← entries) c.loop-e-test.true in
    let read : e ≡ get_or c.args.other.now c.loop-e.e-index e = rw entries at c.e-item.is in
    appended_more (g.met.F.Field.is_field c.args.field.now) c.args.self.now c.args.by c.args.other.now c.entries-e-items.ensures.chain c.requires.beyond
    c.loop-e.e-index c.loop-e.self e c.loop-e.invariant below read
    c.put.new.self (rw (← c.times.ensures) (record {
      codes = c.in_ok-put.ensures.below _ (rw c.times.ensures ((g.met.F.Field.is_field c.args.field.now).mul_below _ _)) c.loop-e.invariant.codes;
      at = c.in_ok-put.ensures.codes;
      places = c.in_ok-put.ensures.places;
    }))
