-- one cell more
use Rattle.std.proofs.Common.{arith, ◌≡◌, ◌<◌, length, get_or, ◌∙◌}
use Rattle.std.proofs.lemmas.List.{get_or_default}
use Rattle.conley_mvf.proofs.NumberLemmas.{first_before, numbers-new, numbers-old}
use Rattle.conley_mvf.proofs.numbering.numbers_of.Goals.{then-first-x+in_ok-push, else-first-x+in_ok-push-2}
use Rattle.conley_mvf.proofs.numbering.numbers_of.Goals as goal

pub loop-x-preserved : goal.loop-x-preserved
loop-x-preserved c =
    let least = c.args.least.now in
    let x = c.loop-x.x in
    let part_of = c.loop-x.part_of.items in
    elim c.if-first-x.branch [
      | then-first-x+in_ok-push w ↦
          rw (w.part_of-is, w.next-is, w.in_ok-push.ensures.items)
          (numbers-new least x part_of c.loop-x.next c.loop-x-test.true c.requires.least c.loop-x.invariant w.if-first-x.true)
      | else-first-x+in_ok-push-2 w ↦
          let before : get_or least x 0 < length part_of = omega (
            arith,
            c.loop-x.invariant.count,
            first_before least x part_of c.loop-x.next c.loop-x-test.true c.requires.least c.loop-x.invariant w.if-first-x.false,
          ) in
          let number : w.index-number.result.now ≡ get_or part_of (get_or least x 0) 0 = w.index-number.ensures
          ∙ get_or_default part_of (get_or least x 0) w.index-number.result.now 0 before in
          rw (w.part_of-is, w.next-is, w.in_ok-push-2.ensures.items)
          (numbers-old least x part_of c.loop-x.next c.loop-x-test.true c.requires.least c.loop-x.invariant w.if-first-x.false w.index-number.result.now number)
    ]
