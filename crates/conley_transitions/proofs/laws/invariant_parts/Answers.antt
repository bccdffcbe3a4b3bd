use Rattle.conley_transitions.specs.Flow.{flow_by}
use Rattle.conley_transitions.proofs.InvariantLemmas.{essential_by_class, invariant_from_between, between_from_invariant}
use Rattle.conley_transitions.proofs.laws.invariant_parts.Goals as goal

pub returns : goal.returns
returns c = record {
  by_class = λ lists part_of regular set cells. essential_by_class (flow_by lists part_of regular) set cells;
  between = λ lists part_of regular set. invariant_from_between (flow_by lists part_of regular) set;
  only = λ lists part_of regular set. between_from_invariant (flow_by lists part_of regular) set;
}
