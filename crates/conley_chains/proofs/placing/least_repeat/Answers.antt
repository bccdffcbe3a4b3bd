use Rattle.conley_chains.proofs.PlacingLemmas.{least_apart, least_more, IfSome-each}
use Rattle.conley_chains.proofs.placing.least_repeat.Goals as goal
use Rattle.conley_chains.proofs.placing.least_repeat.Goals.{then-before-here+then-before-here-2, else-before-here, else-before-here-via-then-before-here+else-before-here-2, else-before-here-via-else-before-here}

pub loop-k-preserved : goal.loop-k-preserved
loop-k-preserved c =
    elim c.if-before-here.branch [
      | then-before-here+then-before-here-2 w ↦
          rw (w.least-is, w.lesser.ensures) (least_more c.args.placed.now c.loop-k.k c.loop-k.least c.loop-k.invariant c.loop-k.auto.k c.loop-k-test.true
          (w.if-before-here.true, w.if-before-here-2.true))
      | else-before-here w ↦
          rw w.least-is (least_apart c.args.placed.now c.loop-k.k c.loop-k.least c.loop-k.invariant c.loop-k.auto.k
          (elim w.else-before-here.branch [
            | else-before-here-via-then-before-here+else-before-here-2 v ↦ λ one. v.if-before-here-2.false one.1
            | else-before-here-via-else-before-here v ↦ λ one. v.if-before-here.false one.0
          ]))
    ]

pub returns-clause-found : goal.returns-clause-found
returns-clause-found c = IfSome-each _ c.loop-k.least (λ n e. let f = c.loop-k.invariant.found n e in (f.0, (f.1.1, f.1.2, f.1.3)))
