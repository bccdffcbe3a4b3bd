use Rattle.std.proofs.Common.{arith, ◌<◌, length}
use Rattle.conley_lists.proofs.ListLemmas.{All-from_contained}
use Rattle.conley_graph.proofs.RegularLemmas.{regular_same}
use Rattle.conley_isolation.proofs.starts.is_regular_part.Goals as goal

pub is_regular-requires-clause-cells : goal.is_regular-requires-clause-cells
is_regular-requires-clause-cells g c = record {
  ascending = c.cells_of.ensures.ascending;
  cells = All-from_contained (λ x. x < length c.args.complex.now.1.faces) c.cells_of.result.now
      (λ x h. omega (arith, ((c.cells_of.ensures.cells x).0 h).0, c.requires.field.count));
}

pub is_regular-requires-clause-closed : goal.is_regular-requires-clause-closed
is_regular-requires-clause-closed g c = c.requires.field.closed c.args.p c.cells_of.result.now (record { same = c.cells_of.ensures.cells })

pub returns : goal.returns
returns g c = (
  (λ told cells are.
      regular_same c.args.complex.now.1 c.cells_of.result.now cells (λ x. (
        (λ h. (are.same x).1 ((c.cells_of.ensures.cells x).0 h)),
        (λ h. (c.cells_of.ensures.cells x).1 ((are.same x).0 h)),
      ))
      (c.in_ok-answer.ensures.0 told)),
  (λ regular. c.in_ok-answer.ensures.1 (regular c.cells_of.result.now (record { same = c.cells_of.ensures.cells }))),
)
