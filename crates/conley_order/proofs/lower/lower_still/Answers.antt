use Rattle.std.proofs.Common.{arith, ◌≡◌, ◌≤◌, ◌*◌, ◌∙◌, ℕ, [], length, get_or, ap, subst}
use Rattle.std.proofs.lemmas.Bool.{iff_false}
use Rattle.conley_lists.specs.Lists.{items_of}
use Rattle.conley_lists.proofs.ListLemmas.{row_of, lent_whole, length-items_of}
use Rattle.conley_order.proofs.LowerRowLemmas.{StillSoFar, still_same, still_more}
use Rattle.conley_order.proofs.lower.lower_still.Goals.{then-has_bit, else-has_bit}
use Rattle.conley_order.proofs.lower.lower_still.Goals as goal

pub has_bit-requires : goal.has_bit-requires
has_bit-requires c =
    let row = row_of c.args.lower.now c.args.p c.index-lower-p.result c.requires.place c.index-lower-p.is in
    let wide = c.requires.wide c.args.p (omega (arith, c.requires.place, length-items_of c.args.lower.now)) in
    omega (arith, wide, ap length row, ap length c.deref.ensures.value, length-items_of c.args.lower.now, c.loop-r-test.true)

pub join_row-requires : goal.join_row-requires
join_row-requires c =
    let row = row_of c.args.lower.now c.loop-r.r c.index-lower-r.result c.loop-r-test.true c.index-lower-r.is in
    let wide = c.requires.wide c.loop-r.r (omega (arith, c.loop-r-test.true, length-items_of c.args.lower.now)) in
    omega (
      arith,
      wide,
      ap length row,
      ap length c.deref-then-has_bit.ensures.value,
      ap length c.deref_mut.ensures.value,
      length-items_of c.args.lower.now,
      c.loop-r.invariant.width,
    )

pub loop-r-preserved : goal.loop-r-preserved
loop-r-preserved c =
    let lists = items_of c.args.lower.now in
    let own = get_or lists c.args.p [] in
    let row = row_of c.args.lower.now c.args.p c.index-lower-p.result c.requires.place c.index-lower-p.is in
    let bit = rw (c.deref.ensures.value, ← row) at c.has_bit.ensures in
    elim c.if-has_bit.branch [
      | then-has_bit w ↦
          let other = row_of c.args.lower.now c.loop-r.r w.index-lower-r.result c.loop-r-test.true w.index-lower-r.is in
          let old = c.loop-r.words.items in
          let new = w.join_row.new.words in
          let joins = rw (w.deref_mut.ensures.value, w.deref-then-has_bit.ensures.value, ← other) at w.join_row.ensures in
          let wide : length lists ≤ 64 * length old = omega (arith, c.loop-r.invariant.width, length-items_of c.args.lower.now) in
          let whole : length old ≡ c.loop-r.words.len = omega (arith, c.loop-r.words.ok.0) in
          rw (w.words-is, lent_whole new old c.loop-r.words.len (joins.count ∙ whole) whole) (record {
            width = omega (arith, joins.count, c.loop-r.invariant.width);
            bits = still_more lists own c.loop-r.r old new c.loop-r.invariant.bits (bit.0 w.if-has_bit.true) wide joins;
          })
      | else-has_bit w ↦
          rw w.words-is (record {
            width = c.loop-r.invariant.width;
            bits = still_same lists own c.loop-r.r c.loop-r.words.items c.loop-r.invariant.bits (iff_false bit w.if-has_bit.false);
          })
    ]

pub returns-clause-bits : goal.returns-clause-bits
returns-clause-bits c =
    let lists = items_of c.args.lower.now in
    let all : c.loop-r.r ≡ length lists = omega (arith, c.loop-r-test.false, c.loop-r.auto.r-end, length-items_of c.args.lower.now) in
    subst (λ (n : ℕ). StillSoFar lists (get_or lists c.args.p []) n c.loop-r.words.items) all c.loop-r.invariant.bits
