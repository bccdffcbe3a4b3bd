-- one place more
use Rattle.std.proofs.Common.{arith, ◌≡◌, ◌≢◌, length, get_or}
use Rattle.conley_lists.specs.Lists.{items_of}
use Rattle.conley_lists.proofs.ListLemmas.{length-items_of}
use Rattle.conley_lists.proofs.GatherLemmas.{number_below, gathered-new, gathered-old}
use Rattle.conley_lists.proofs.lists.gathered.Goals.{then-number-len+in_ok-vec+in_ok-push, else-number-len+in_ok-put_under}
use Rattle.conley_lists.proofs.lists.gathered.Goals as goal

pub put_under-requires : goal.put_under-requires
put_under-requires c =
    let lists = items_of c.loop-x.lists.items in
    let whole : c.len.result ≡ length lists = omega (arith, c.len.ensures, c.loop-x.lists.ok.0, length-items_of c.loop-x.lists.items) in
    let below = number_below c.args.numbers.now c.loop-x.x c.loop-x-test.true c.requires.in_order lists c.loop-x.invariant
    (λ e. c.if-number-len.false (omega (arith, e, whole))) in
    omega (arith, below, length-items_of c.loop-x.lists.items)

pub loop-x-preserved : goal.loop-x-preserved
loop-x-preserved c =
    let numbers = c.args.numbers.now in
    let lists = items_of c.loop-x.lists.items in
    let whole : c.len.result ≡ length lists = omega (arith, c.len.ensures, c.loop-x.lists.ok.0, length-items_of c.loop-x.lists.items) in
    elim c.if-number-len.branch [
      | then-number-len+in_ok-vec+in_ok-push w ↦
          rw (w.lists-is, w.in_ok-push.ensures.items)
          (gathered-new numbers c.loop-x.x c.loop-x-test.true c.requires.in_order c.loop-x.lists.items w.in_ok-vec.field-0 c.loop-x.invariant
          (w.in_ok-vec.ensures.items) (omega (arith, w.if-number-len.true, whole)))
      | else-number-len+in_ok-put_under w ↦
          let other : get_or numbers c.loop-x.x 0 ≢ length lists = λ e. w.if-number-len.false (omega (arith, e, whole)) in
          rw w.lists-is
          (gathered-old numbers c.loop-x.x c.loop-x-test.true c.requires.in_order lists (items_of w.put_under.new.lists.items) c.loop-x.invariant
          w.in_ok-put_under.ensures.puts
          (number_below numbers c.loop-x.x c.loop-x-test.true c.requires.in_order lists c.loop-x.invariant other))
    ]
