use Rattle.conley_transitions.specs.Flow.{flow_by}
use Rattle.conley_transitions.proofs.IsolationLemmas.{union_from_isolated, closed_from_isolated, isolates_from_closure}
use Rattle.conley_transitions.proofs.laws.isolated_sets.Goals as goal

pub returns : goal.returns
returns c = record {
  needs_parts = λ lists part_of regular set ok cells has. union_from_isolated (flow_by lists part_of regular) ok set cells has;
  needs_no_gap = λ lists part_of regular set ok cells has. closed_from_isolated (flow_by lists part_of regular) ok set cells has;
  enough = λ lists part_of regular set closure ok cells is union no_gap. isolates_from_closure (flow_by lists part_of regular) ok set cells closure is union
      no_gap;
}
