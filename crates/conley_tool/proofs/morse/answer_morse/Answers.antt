use Rattle.std.proofs.Common.{arith, get_or, ap, subst, inl, inr}
use Rattle.std.proofs.lemmas.List.Elements.{Contains-get_or}
use Rattle.conley_lists.specs.Lists.{items_of}
use Rattle.conley_lists.proofs.ListLemmas.{length-items_of}
use Rattle.conley_field.specs.Arithmetic.{Arithmetic}
use Rattle.conley_input.specs.ProblemMeaning.{meaning_of}
use Rattle.conley_input.proofs.CellLemmas.{arithmetic_of-residues}
use Rattle.conley_transitions.specs.Morse.{set_at}
use Rattle.conley_graph.specs.Decomposition.{IsConleyMorseGraph, HasTooManySets}
use Rattle.conley_tool.specs.Due.{ends, prints}
use Rattle.conley_tool.specs.Morse.{IsMorseGraphOf}
use Rattle.conley_tool.specs.Ends.{graph_of}
use Rattle.conley_tool.specs.declared.outcome.Fault.TheVariants as fault
use Rattle.conley_tool.specs.declared.outcome.Outcome.TheVariants.{Refused}
use Rattle.conley_tool.proofs.morse.answer_morse.Goals as goal

pub returns-in-Err-TooManyMorse-clause-err : goal.returns-in-Err-TooManyMorse-clause-err
returns-in-Err-TooManyMorse-clause-err c =
    let problem = meaning_of c.args.problem.now in
    let many = c.in-Err-TooManyMorse.ensures.too_many c.in-Err-TooManyMorse.count (cc) in
    let sets = subst (λ (F : Arithmetic). HasTooManySets F problem.complex problem.part_of c.in-Err-TooManyMorse.count)
    (arithmetic_of-residues c.args.problem.now.complex.0) many in
    inl (c.in-Err-TooManyMorse.count, sets, ap (λ n. ends (Refused (fault.Morse n))) c.in-Err-TooManyMorse.count-is)

pub morse_text-requires-clause-cells : goal.morse_text-requires-clause-cells
morse_text-requires-clause-cells c = λ m lt k d lt'.
    let sets = items_of c.in-Ok.found.sets.items in
    let at = (c.in-Ok.ensures.graph.sets.classes.all (get_or (set_at sets m) k d)).0 (
      m,
      (
        omega (arith, lt, length-items_of c.in-Ok.found.sets.items),
        Contains-get_or (set_at sets m) k d lt',
      ),
    ) in
    omega (arith, at.0, c.requires.field.count, c.requires.laws.complex.faces_count, c.requires.laws.complex.dims_count)

pub returns-clause-ok : goal.returns-clause-ok
returns-clause-ok c =
    let found = c.in-Ok.found in
    let problem = meaning_of c.args.problem.now in
    let graph : IsMorseGraphOf problem (graph_of found) =
    subst (λ (F : Arithmetic). IsConleyMorseGraph F problem.complex problem.part_of (items_of found.sets.items) (items_of found.numbers.items)
    found.order.items) (arithmetic_of-residues c.args.problem.now.complex.0) c.in-Ok.ensures.graph in
    inr (graph_of found, graph, omega (arith, length-items_of found.sets.items, c.in-Ok.ensures.few), ap prints c.in_ok-morse_text.ensures)
