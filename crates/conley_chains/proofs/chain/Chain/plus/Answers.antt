use Rattle.std.proofs.Common.{◌≡◌, ◌<◌, ◌^◌, length, drop, arith}
use Rattle.conley_chains.specs.Chain.{first_place}
use Rattle.conley_chains.proofs.ChainLemmas.{first_place-drop, HasCodes-at}
use Rattle.conley_chains.proofs.PlusLemmas.{sum_start, sum_left, sum_right, sum_both, all_further}
use Rattle.conley_chains.proofs.chain.Chain.plus.Goals as goal
use Rattle.conley_chains.proofs.chain.Chain.plus.Goals.{then-i-a, else-i-a+then-j-b}

pub loop-i-init : goal.loop-i-init
loop-i-init g c =
    rw c.in_ok-sum.ensures (sum_start (g.met.F.Field.is_field c.args.field.now) c.args.by c.entries-a.result.now c.entries-b.result.now
    (rw c.entries-a.ensures.entries c.entries-a.ensures.chain) (rw c.entries-b.ensures.entries c.entries-b.ensures.chain))

pub put-requires : goal.put-requires
put-requires g c =
    let here = first_place-drop c.entries-a.result.now c.loop-i.i c.index-a-i.result (c.next_place-p.ensures.within.0 (omega arith)) c.index-a-i.is in
    all_further c.loop-i.sum (first_place (drop c.loop-i.i c.entries-a.result.now)) c.index-a-i.result.0 (omega (arith, here)) c.loop-i.invariant.out_before_a

pub loop-i-preserved-then-p-q : goal.loop-i-preserved-then-p-q
loop-i-preserved-then-p-q g c =
    let a = c.entries-a.result.now in
    let e = c.index-a-i.result in
    let below : c.loop-i.i < length a = c.next_place-p.ensures.within.0 (omega arith) in
    let here = first_place-drop a c.loop-i.i e below c.index-a-i.is in
    let code : e.1 < (g.F.Field.arithmetic c.args.field.now).order = HasCodes-at (g.F.Field.arithmetic c.args.field.now) a c.loop-i.i e
    (rw c.entries-a.ensures.entries c.requires.codes) below c.index-a-i.is in
    sum_left (g.met.F.Field.is_field c.args.field.now) c.args.by a c.entries-b.result.now
    (rw c.entries-a.ensures.entries c.entries-a.ensures.chain) (rw c.entries-b.ensures.entries c.entries-b.ensures.chain)
    c.loop-i.i c.loop-i.j c.loop-i.sum c.put.new.self e c.loop-i.invariant below c.index-a-i.is (omega (arith, here, c.next_place-p.ensures.place)) code
    (omega (arith, c.next_place-p.ensures.place, c.next_place-q.ensures.place))
    (record { codes = c.in_ok-put.ensures.below _ code c.loop-i.invariant.codes; at = c.in_ok-put.ensures.codes; places = c.in_ok-put.ensures.places })

pub loop-i-preserved-then-q-p : goal.loop-i-preserved-then-q-p
loop-i-preserved-then-q-p g c =
    let b = c.entries-b.result.now in
    let f = c.index-b-j.result in
    let below : c.loop-i.j < length b = c.next_place-q.ensures.within.0 (omega arith) in
    let here = first_place-drop b c.loop-i.j f below c.index-b-j.is in
    sum_right (g.met.F.Field.is_field c.args.field.now) c.args.by c.entries-a.result.now b
    (rw c.entries-a.ensures.entries c.entries-a.ensures.chain) (rw c.entries-b.ensures.entries c.entries-b.ensures.chain)
    c.loop-i.i c.loop-i.j c.loop-i.sum c.put-then-q-p.new.self f c.loop-i.invariant below c.index-b-j.is (omega (arith, here, c.next_place-q.ensures.place))
    (omega (arith, c.next_place-p.ensures.place, c.next_place-q.ensures.place))
    (rw (← c.times.ensures) (record {
      codes = c.in_ok-put-2.ensures.below _ (rw c.times.ensures ((g.met.F.Field.is_field c.args.field.now).mul_below _ _)) c.loop-i.invariant.codes;
      at = c.in_ok-put-2.ensures.codes;
      places = c.in_ok-put-2.ensures.places;
    }))

pub loop-i-preserved : goal.loop-i-preserved
loop-i-preserved g c =
    let a = c.entries-a.result.now in
    let b = c.entries-b.result.now in
    let e = c.index-a-i-else-q-p.result in
    let f = c.index-b-j-else-q-p.result in
    let level : c.next_place-p.result ≡ c.next_place-q.result = omega arith in
    let e_below : c.loop-i.i < length a = elim c.if-i-a.branch [
      | then-i-a w ↦ omega arith
      | else-i-a+then-j-b w ↦ c.next_place-p.ensures.within.0 (let within : c.next_place-q.result < 2 ^ 32 = c.next_place-q.ensures.within.1 (omega arith) in
          omega arith)
    ] in
    let f_below : c.loop-i.j < length b = c.next_place-q.ensures.within.0 (let within : c.next_place-p.result < 2 ^ 32 =
    c.next_place-p.ensures.within.1 e_below in omega arith) in
    let e_here = first_place-drop a c.loop-i.i e e_below c.index-a-i-else-q-p.is in
    let f_here = first_place-drop b c.loop-i.j f f_below c.index-b-j-else-q-p.is in
    let e_fits : e.0 < 2 ^ 32 = (let within : c.next_place-p.result < 2 ^ 32 = c.next_place-p.ensures.within.1 e_below in
    omega (arith, e_here, c.next_place-p.ensures.place)) in
    let f_fits : f.0 < 2 ^ 32 = (let within : c.next_place-q.result < 2 ^ 32 = c.next_place-q.ensures.within.1 f_below in
    omega (arith, f_here, c.next_place-q.ensures.place)) in
    sum_both (g.met.F.Field.is_field c.args.field.now) c.args.by a b
    (rw c.entries-a.ensures.entries c.entries-a.ensures.chain) (rw c.entries-b.ensures.entries c.entries-b.ensures.chain)
    c.loop-i.i c.loop-i.j c.loop-i.sum c.put-else-q-p.new.self e f c.loop-i.invariant
    e_below c.index-a-i-else-q-p.is e_fits f_below c.index-b-j-else-q-p.is f_fits
    (omega (arith, c.next_place-p.ensures.place, c.next_place-q.ensures.place))
    (rw (← c.times-else-q-p.ensures, ← c.add.ensures) (record {
      codes = c.in_ok-put-3.ensures.below _ (rw c.add.ensures ((g.met.F.Field.is_field c.args.field.now).add_below _ _)) c.loop-i.invariant.codes;
      at = c.in_ok-put-3.ensures.codes;
      places = c.in_ok-put-3.ensures.places;
    }))
