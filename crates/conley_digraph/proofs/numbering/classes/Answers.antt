-- classes by the order in which they were closed
use Rattle.std.specs.Prelude.{length}
use Rattle.std.proofs.lemmas.Result.{IfOk-weaker}
use Rattle.conley_lists.specs.Lists.{items_of}
use Rattle.conley_digraph.specs.Classes.{AreClasses}
use Rattle.conley_digraph.specs.Numbering.{IsRenumbered}
use Rattle.conley_digraph.proofs.NumberingLemmas.{closing_classes}
use Rattle.conley_digraph.proofs.numbering.classes.Goals as goal

pub returns-clause-classes : goal.returns-clause-classes
returns-clause-classes c =
    let lists = items_of c.args.steps.now in
    let closing = c.in_ok-closing.closing in
    let renumbered = rw c.deref.ensures.value at c.renumbered.ensures in
    IfOk-weaker c.renumbered.result (λ v. IsRenumbered closing.numbers.items v.items (length closing.numbers.items)) (λ v. AreClasses lists v.items)
    (λ v r. closing_classes lists closing.numbers.items closing.roots.items v.items c.in_ok-closing.ensures r) renumbered
