-- reach is a grading that puts faces below
use Rattle.std.proofs.Common.{arith, inl, List, ℕ, ap, length, subst}
use Rattle.conley_lists.specs.Lists.{IsDigraph}
use Rattle.conley_walk.proofs.WalkLemmas.{reaches_by_step}
use Rattle.conley_lists.proofs.ListLemmas.{step_begins}
use Rattle.conley_certificate_tests.proofs.equivalence_tests.is_taken_out.Goals as goal

pub over_reach-requires-clause-digraph : goal.over_reach-requires-clause-digraph
over_reach-requires-clause-digraph c = subst (λ (l : List (List ℕ)). IsDigraph l) c.faces.ensures.faces c.count-cells.ensures.order.digraph

pub over_reach-requires-clause-down : goal.over_reach-requires-clause-down
over_reach-requires-clause-down c x y step =
    let faces = c.in_ok-complex.complex.1.faces in
    let x_cell = step_begins faces x y step in
    let y_cell = subst (λ (l : List (List ℕ)). IsDigraph l) c.faces.ensures.faces c.count-cells.ensures.order.digraph x y step in
    let count = c.in_ok-partition.ensures.closed.count in
    let same = ap length c.faces-2.ensures.faces in
    (c.in_ok-found.ensures.grading y x (omega (arith, y_cell, count, same)) (omega (arith, x_cell, count, same))).1
    (reaches_by_step (inl (record { cell = x_cell; walk = reaches_by_step step })))
