-- one head more
use Rattle.std.proofs.Common.{arith, inl, inr, ◌<◌, length, sym, ◌∙◌, take, ◌≡◌}
use Rattle.std.specs.Prelude.{slice_index}
use Rattle.std.proofs.lemmas.Bool.{false≢true}
use Rattle.std.proofs.lemmas.List.{take_more}
use Rattle.conley_lists.specs.Lists.{items_of}
use Rattle.conley_lists.proofs.ListLemmas.{length-items_of}
use Rattle.conley_digraph.proofs.JoinLemmas.{bits_joined}
use Rattle.conley_digraph.proofs.RowLemmas.{head_step, head_row, joins_more, row_joined, own_bit}
use Rattle.conley_digraph.proofs.rows.join_heads.Goals as goal
use Rattle.conley_digraph.proofs.rows.join_heads.Goals.{then-not-has_bit, else-not-has_bit}

pub bounds-class_of-y : goal.bounds-class_of-y
bounds-class_of-y c =
    let y = slice_index c.deref-y-items.result.now c.loop-y.y-index in
    let step = head_step c.args.steps.now c.args.x c.index-steps-x.result c.deref-y-items.result.now c.loop-y.y-index c.requires.node c.index-steps-x.is
    c.deref-y-items.ensures.value c.loop-y-test.true in
    omega (arith, c.requires.digraph c.args.x y step, c.requires.classes.count)

pub join_row-requires : goal.join_row-requires
join_row-requires c =
    let lists = items_of c.args.steps.now in
    let class_of = c.args.class_of.now in
    let y = slice_index c.deref-y-items.result.now c.loop-y.y-index in
    let step = head_step c.args.steps.now c.args.x c.index-steps-x.result c.deref-y-items.result.now c.loop-y.y-index c.requires.node c.index-steps-x.is
    c.deref-y-items.ensures.value c.loop-y-test.true in
    let within = c.requires.below y 0 (omega (arith, c.requires.digraph c.args.x y step, c.requires.classes.count)) in
    let row = head_row lists class_of c.args.rows.now c.args.x y c.loop-y.row c.index-rows-class.result c.deref.result.now c.requires.rows
    c.loop-y.invariant.row step
    (λ one. false≢true (sym c.if-not-has_bit.true ∙ c.has_bit.ensures.1 one)) within c.index-rows-class.is c.deref.ensures.value in
    omega (arith, row.width, c.loop-y.invariant.row.width)

pub loop-y-preserved : goal.loop-y-preserved
loop-y-preserved c =
    let lists = items_of c.args.steps.now in
    let class_of = c.args.class_of.now in
    let heads = take c.loop-y.y-index c.deref-y-items.result.now in
    let y = slice_index c.deref-y-items.result.now c.loop-y.y-index in
    let step = head_step c.args.steps.now c.args.x c.index-steps-x.result c.deref-y-items.result.now c.loop-y.y-index c.requires.node c.index-steps-x.is
    c.deref-y-items.ensures.value c.loop-y-test.true in
    let count = length-items_of c.args.steps.now in
    let within = c.requires.below y 0 (omega (arith, c.requires.digraph c.args.x y step, c.requires.classes.count)) in
    rw (take_more c.deref-y-items.result.now c.loop-y.y-index 0 c.loop-y-test.true)
    (elim c.if-not-has_bit.branch [
      | then-not-has_bit w ↦
          let row = head_row lists class_of c.args.rows.now c.args.x y c.loop-y.row w.index-rows-class.result w.deref.result.now c.requires.rows
          c.loop-y.invariant.row step
          (λ one. false≢true (sym w.if-not-has_bit.true ∙ c.has_bit.ensures.1 one)) within w.index-rows-class.is w.deref.ensures.value in
          let same : length w.deref.result.now ≡ length c.loop-y.row = row.width ∙ sym c.loop-y.invariant.row.width in
          let joins = bits_joined c.loop-y.row w.deref.result.now w.join_row.new.words same w.join_row.ensures in
          let lx : c.args.x < length lists = omega (arith, c.requires.node, count) in
          rw w.row-is (record {
            row = row_joined lists class_of (length c.args.rows.now) c.args.x c.requires.digraph c.requires.classes lx c.loop-y.row c.loop-y.invariant.row y
                step w.deref.result.now w.join_row.new.words row w.join_row.auto.words joins;
            heads = joins_more c.args.row.now c.loop-y.row w.join_row.new.words class_of heads y c.loop-y.invariant.heads (λ b h. (joins b).1 (inl h))
                ((joins (slice_index class_of y)).1 (inr (own_bit lists class_of (length c.args.rows.now) c.args.x c.requires.digraph c.requires.classes lx
                c.loop-y.row c.loop-y.invariant.row y step w.deref.result.now row)));
          })
      | else-not-has_bit w ↦ rw w.row-is (record {
        row = c.loop-y.invariant.row;
        heads = joins_more c.args.row.now c.loop-y.row c.loop-y.row class_of heads y c.loop-y.invariant.heads (λ b h. h)
            (c.has_bit.ensures.0 w.if-not-has_bit.false);
      })
    ])
