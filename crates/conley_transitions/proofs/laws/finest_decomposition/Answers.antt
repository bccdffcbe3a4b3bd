use Rattle.conley_transitions.specs.Flow.{flow_by}
use Rattle.conley_transitions.proofs.FinestLemmas.{classes_are_morse, classes_are_finest, reach_is_least, finest_unique}
use Rattle.conley_transitions.proofs.laws.finest_decomposition.Goals as goal

pub returns : goal.returns
returns c = record {
  morse = λ lists part_of regular sets below ok given reach. classes_are_morse (flow_by lists part_of regular) ok sets given below reach;
  finest = λ lists part_of regular sets ok given. classes_are_finest (flow_by lists part_of regular) ok sets given;
  unique = λ lists part_of regular. finest_unique (flow_by lists part_of regular);
  least = λ lists part_of regular sets below ok given. reach_is_least (flow_by lists part_of regular) ok sets given below;
}
