use Rattle.std.proofs.Common.{arith, ◌≡◌, ◌<◌, ◌/◌, length, get_or, ◌∙◌}
use Rattle.std.proofs.lemmas.List.{get_or_default}
use Rattle.conley_order.proofs.BitLemmas.{bits_marked, bits_unmarked}
use Rattle.conley_order.proofs.words.words_of.Goals as goal
use Rattle.conley_order.proofs.words.words_of.Goals.{then-mark, else-mark}

pub loop-b-preserved : goal.loop-b-preserved
loop-b-preserved c = elim c.if-mark.branch [
  | then-mark w ↦
      let in_words : c.loop-b.b / 64 < length c.loop-b.words.items = omega (arith, c.loop-b.invariant.width, c.loop-b.words.ok.0, c.loop-b-test.true) in
      let word : w.index_mut.result.now ≡ get_or c.loop-b.words.items (c.loop-b.b / 64) 0 =
      w.index_mut.ensures.value ∙ get_or_default c.loop-b.words.items (c.loop-b.b / 64) w.index_mut.result.now 0 in_words in
      rw (w.words-is, word) (record {
        width = c.loop-b.invariant.width;
        bits = bits_marked c.loop-b.words.items c.args.marks.now c.loop-b.b in_words c.loop-b-test.true w.if-mark.true c.loop-b.invariant.bits;
      })
  | else-mark w ↦ rw w.words-is (record {
    width = c.loop-b.invariant.width;
    bits = bits_unmarked c.loop-b.words.items c.args.marks.now c.loop-b.b c.loop-b-test.true w.if-mark.false c.loop-b.invariant.bits;
  })
]
