use Rattle.conley_lists.specs.Lists.{items_of}
use Rattle.conley_lists.proofs.EntryLemmas.{none_out_of_range}
use Rattle.conley_transitions.specs.Step.{HasTransitions}
use Rattle.conley_transitions.proofs.HeadLemmas.{transitions_all, transitions_ordered}
use Rattle.conley_transitions.proofs.StepLemmas.{same_reach, transitions_digraph}
use Rattle.conley_transitions.proofs.steps.transitions.Goals.{In-Ok}
use Rattle.conley_transitions.proofs.steps.transitions.Goals as goal

-- the digraph has the transitions
has : (c : In-Ok) → HasTransitions c.args.faces.now c.args.partition.now c.in-Ok.digraph
has c =
    let lists = items_of c.in_ok-lists.lists.items in
    let all = transitions_all c.args.faces.now c.args.partition.now lists c.requires.count c.in_ok-lists.ensures in
    transitions_ordered c.args.faces.now c.args.partition.now c.in-Ok.digraph lists (rw c.deref.ensures.value at c.in-Ok.ensures.ok.1) all

pub returns-in-Ok-clause-steps : goal.returns-in-Ok-clause-steps
returns-in-Ok-clause-steps c = has (goal.at.returns-in-Ok-clause-steps c).In-Ok

pub returns-in-Ok-clause-reach : goal.returns-in-Ok-clause-reach
returns-in-Ok-clause-reach c = same_reach c.args.faces.now c.args.partition.now c.in-Ok.digraph (has (goal.at.returns-in-Ok-clause-reach c).In-Ok)

pub unreachable-requires : goal.unreachable-requires
unreachable-requires c =
    let lists = items_of c.in_ok-lists.lists.items in
    let all = transitions_all c.args.faces.now c.args.partition.now lists c.requires.count c.in_ok-lists.ensures in
    let digraph = transitions_digraph c.args.faces.now c.args.partition.now lists all c.count-order.ensures.order.digraph c.requires.count in
    let first = c.in-Err-Range.ensures.range c.in-Err-Range.field-0-0 (cc) in
    none_out_of_range lists digraph c.in-Err-Range.field-0-0 (rw c.deref.ensures.value at first)
