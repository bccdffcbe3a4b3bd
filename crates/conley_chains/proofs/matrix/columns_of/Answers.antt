use Rattle.conley_chains.proofs.RunLemmas.{run_chain, runs_more}
use Rattle.conley_chains.proofs.matrix.columns_of.Goals as goal

pub from_placed-requires : goal.from_placed-requires
from_placed-requires c =
    run_chain c.args.placed.now c.requires.in_order c.requires.apart c.requires.not_zero c.loop-column.column c.loop-column.start c.end_of_run-end.result
    c.loop-column.columns.items
    c.loop-column.invariant c.end_of_run-end.ensures.from c.end_of_run-end.ensures.within c.end_of_run-end.ensures.own c.end_of_run-end.ensures.other

pub loop-column-preserved : goal.loop-column-preserved
loop-column-preserved c =
    rw c.in_ok-push.ensures.items
    (runs_more c.args.placed.now c.requires.in_order c.requires.apart c.requires.not_zero c.loop-column.column c.loop-column.start c.end_of_run-end.result
    c.loop-column.columns.items
    c.loop-column.invariant c.end_of_run-end.ensures.from c.end_of_run-end.ensures.within c.end_of_run-end.ensures.own c.end_of_run-end.ensures.other
    c.in_ok-from_placed.field-0 c.in_ok-from_placed.ensures)
