use Rattle.std.proofs.Common.{arith, sym, ◌∙◌, below_more}
use Rattle.std.proofs.lemmas.Bool.{false≢true}
use Rattle.conley_lists.proofs.ListLemmas.{length-items_of, step_begins}
use Rattle.conley_faces.proofs.closures.least_below_itself.Goals as goal

pub returns-then-branch-clause-found : goal.returns-then-branch-clause-found
returns-then-branch-clause-found c = record { below = c.in_ok-is_below_itself.ensures.0 c.if-branch.true; least = c.loop-x.invariant }

pub loop-x-preserved : goal.loop-x-preserved
loop-x-preserved c = below_more _ _ c.loop-x.invariant (λ b. false≢true (sym c.if-branch.false ∙ c.in_ok-is_below_itself.ensures.1 b))

pub returns-clause-none : goal.returns-clause-none
returns-clause-none c = λ _ x b. c.loop-x.invariant x (let lt = step_begins _ x b.0 b.1 in
    omega (arith, lt, length-items_of c.args.direct.now, c.loop-x-test.false)) b
