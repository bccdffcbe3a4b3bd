use Rattle.std.proofs.Common.{arith, ◌≡◌, Ok, ap, subst}
use Rattle.conley_lists.specs.Lists.{items_of}
use Rattle.conley_lists.proofs.ListLemmas.{length-items_of}
use Rattle.conley_lists.proofs.EntryLemmas.{digraph_same}
use Rattle.conley_faces.specs.Face.{IsLeastBelowItself}
use Rattle.conley_faces.proofs.FaceLemmas.{least_same, below_ordered}
use Rattle.conley_faces.proofs.ClosureLemmas.{closures_whole}
use Rattle.conley_faces.proofs.faces.Faces.new.Goals as goal

pub made_closures-requires-clause-digraph : goal.made_closures-requires-clause-digraph
made_closures-requires-clause-digraph c = rw c.deref.ensures.value (digraph_same _ _ c.in_ok-direct.ensures c.in_default.ensures.none)

pub least_below_itself-requires-clause-digraph : goal.least_below_itself-requires-clause-digraph
least_below_itself-requires-clause-digraph c = rw c.deref-2.ensures.value (digraph_same _ _ c.in_ok-direct.ensures c.in_default.ensures.none)

pub returns-in-Some-2-clause-cycle : goal.returns-in-Some-2-clause-cycle
returns-in-Some-2-clause-cycle c = λ x e.
    let same : c.in-Some-2.cell ≡ x = cc in
    let least = rw (c.deref-2.ensures.value, c.in-Some-2.is) at c.in_ok-cell.ensures.found in
    (c.in_default.ensures.none, subst (IsLeastBelowItself (items_of c.args.lists.now)) same (least_same _ _ c.in_ok-direct.ensures _ least))

pub invariant_of-result : goal.invariant_of-result
invariant_of-result c =
    let digraph = digraph_same _ _ c.in_ok-direct.ensures c.in_default.ensures.none in
    let no_cycle = rw c.deref-2.ensures.value at (c.in_ok-cell.ensures.none (ap Ok c.in_default-2.is)) in
    record {
      order = record {
        few = omega (arith, c.in_ok-direct.ensures.count, c.in_ok-direct.ensures.entries, length-items_of c.args.lists.now, c.requires);
        digraph = digraph;
        ascending = c.in_ok-direct.ensures.ascending;
        no_cycle = no_cycle;
      };
      closures = closures_whole _ _ digraph (rw c.deref.ensures.value at c.in_ok-closures.ensures.state)
          (λ x lt. (rw c.deref.ensures.value at c.in_ok-closures.ensures.stuck) x (rw (length-items_of c.in_ok-direct.direct.items) at lt)) no_cycle;
    }

pub returns-clause-no_cycle : goal.returns-clause-no_cycle
returns-clause-no_cycle c = λ x b.
    let no_cycle = rw c.deref-2.ensures.value at (c.in_ok-cell.ensures.none (ap Ok c.in_default-2.is)) in
    no_cycle x (below_ordered _ _ c.in_ok-direct.ensures x b)
