use Rattle.std.proofs.Common.{arith, refl, below_more}
use Rattle.conley_lists.proofs.ListLemmas.{place_of}
use Rattle.conley_faces.proofs.GapLemmas.{closed_by_steps}
use Rattle.conley_faces.proofs.faces.Faces.has_gap.Goals as goal

pub loop-x-preserved : goal.loop-x-preserved
loop-x-preserved c = below_more _ _ c.loop-x.invariant (c.if-leaves_and_returns.ensures.no refl)

pub returns-clause-no : goal.returns-clause-no
returns-clause-no c = λ _. closed_by_steps c.args.self.now c.args.set.now (λ x y z h s out back.
    let p = place_of c.args.set.now x h in
    c.loop-x.invariant p.0 (omega (arith, p.1, c.loop-x-test.false)) y z (rw p.2 s) out back)
