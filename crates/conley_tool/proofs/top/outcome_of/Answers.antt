-- the text that is due was put whole, or in part
use Rattle.std.proofs.Common.{◌≡◌, ◌∙◌, List, ℕ, Option, ap, sym, subst}
use Rattle.conley_outside.specs.Faults.{Rose}
use Rattle.conley_outside.specs.Sink.{gains, GainsPrefix}
use Rattle.conley_tool.specs.Words.{Command}
use Rattle.conley_tool.specs.Headline.{IsDue, IsDueFor}
use Rattle.conley_tool.specs.Outcomes.{HasCause, Gains}
use Rattle.conley_tool.specs.Ends.{due_of}
use Rattle.conley_tool.specs.declared.outcome.Outcome.{Outcome}
use Rattle.conley_tool.proofs.TopLemmas.{answered, answer_gained}
use Rattle.conley_tool.proofs.top.outcome_of.Goals as goal

pub returns-in-Ok-put_whole-clause-cause : goal.returns-in-Ok-put_whole-clause-cause
returns-in-Ok-put_whole-clause-cause g c =
    let Is = IsDueFor (g.D.Depot.files c.args.depot.now) c.args.words.now in
    let due = subst (λ (command : Option Command). IsDue (g.D.Depot.files c.args.depot.now) command (due_of c.in-Ok.answer)) c.in-Some.ensures.command
    c.in-Ok.ensures.ok in
    let read = Rose (g.D.Depot.faults c.args.depot.now) (g.D.Depot.faults c.answer.new.depot) in
    let write = Rose (g.O.Sink.faults c.args.out.now) (g.O.Sink.faults c.put_whole.new.sink) in
    subst (λ (o : Outcome). HasCause Is read write o) (sym c.outcome.ensures) (answered Is read write c.in-Ok.answer due)

pub returns-in-Ok-put_whole-clause-gains : goal.returns-in-Ok-put_whole-clause-gains
returns-in-Ok-put_whole-clause-gains g c =
    let Is = IsDueFor (g.D.Depot.files c.args.depot.now) c.args.words.now in
    let old = g.O.Sink.written c.args.out.now in
    let new = g.O.Sink.written c.put_whole.new.sink in
    let due = subst (λ (command : Option Command). IsDue (g.D.Depot.files c.args.depot.now) command (due_of c.in-Ok.answer)) c.in-Some.ensures.command
    c.in-Ok.ensures.ok in
    let put : new ≡ gains old (due_of c.in-Ok.answer).text = c.in-Ok-put_whole.ensures.ok ∙ ap (gains old) c.text.ensures in
    subst (λ (o : Outcome). Gains Is old new o) (sym c.outcome.ensures) (answer_gained Is old new c.in-Ok.answer due put)

pub returns-clause-gains : goal.returns-clause-gains
returns-clause-gains g c =
    let due = subst (λ (command : Option Command). IsDue (g.D.Depot.files c.args.depot.now) command (due_of c.in-Ok.answer)) c.in-Some.ensures.command
    c.in-Ok.ensures.ok in (
      due_of c.in-Ok.answer,
      due,
      subst (λ (t : List ℕ). GainsPrefix (g.O.Sink.written c.args.out.now) t (g.O.Sink.written c.put_whole.new.sink)) c.text.ensures
          c.in-Err-put_whole.ensures.err,
    )
