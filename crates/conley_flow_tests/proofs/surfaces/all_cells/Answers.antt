use Rattle.std.proofs.Common.{arith, ◌<◌, ◌+◌}
use Rattle.std.proofs.lemmas.List.Elements.{All-push, All-weaker}
use Rattle.conley_lists.proofs.ListLemmas.{increasing-push}
use Rattle.conley_flow_tests.proofs.surfaces.all_cells.Goals as goal

pub loop-cell-preserved : goal.loop-cell-preserved
loop-cell-preserved c =
    let cells = c.loop-cell.cells.items in
    let cell = c.loop-cell.cell in
    record {
      ascending = rw c.in_ok-push.ensures.items (increasing-push cells cell c.loop-cell.invariant.ascending c.loop-cell.invariant.below);
      below = rw c.in_ok-push.ensures.items (All-push (λ x. x < cell + 1) cells cell (All-weaker (λ x. x < cell) (λ x. x < cell + 1) (λ x lt. omega arith)
          cells c.loop-cell.invariant.below) (omega arith));
    }
