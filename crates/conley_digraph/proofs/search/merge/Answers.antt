-- what is kept is what lies up to the place
use Rattle.std.proofs.Common.{arith, ◌-◌, ◌∙◌}
use Rattle.std.proofs.lemmas.List.{get_or_default}
use Rattle.conley_digraph.proofs.MergeLemmas.{merged}
use Rattle.conley_digraph.proofs.search.merge.Goals as goal
use Rattle.conley_digraph.proofs.search.merge.Goals.{then-loop-kept-test+else-index-place, else-loop-kept-test}

pub returns : goal.returns
returns c = rw c.truncate.ensures.items (merged c.args.bounds.now.items c.requires c.loop-kept.kept c.args.place c.loop-kept.invariant.within
    c.loop-kept.invariant.past (λ some. elim c.loop-kept-test.branch [
      | then-loop-kept-test+else-index-place w ↦
          let at = w.index.ensures ∙ get_or_default c.args.bounds.now.items (c.loop-kept.kept - 1) w.index.result.now 0
          (omega (arith, c.loop-kept.invariant.within)) in
          omega (arith, at, w.if-index-place.false)
      | else-loop-kept-test w ↦ absurd (omega (arith, w.loop-kept-test.false, some))
    ]))
