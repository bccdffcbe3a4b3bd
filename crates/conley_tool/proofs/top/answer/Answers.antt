use Rattle.std.proofs.Common.{arith, ◌≡◌, ℕ, List, [], get_or, subst}
use Rattle.std.specs.Prelude.{string_bytes}
use Rattle.std.specs.declared.alloc.Global.{Global}
use Rattle.std.proofs.lemmas.List.{get_or-map}
use Rattle.std.proofs.lemmas.Result.{err_from_is_err_and}
use Rattle.conley_outside.specs.Depot.{Files}
use Rattle.conley_outside.specs.Faults.{Rose}
use Rattle.conley_input.specs.ProblemMeaning as read
use Rattle.conley_tool.specs.Words.{reads_file}
use Rattle.conley_tool.specs.CommandMeaning.{meaning_of}
use Rattle.conley_tool.specs.Headline.{IsDueOn}
use Rattle.conley_tool.specs.Ends.{IsNamed, NamedCause, EndCause, due_of}
use Rattle.conley_tool.proofs.NamedLemmas.{due_named, end_named, end_unnamed}
use Rattle.conley_tool.proofs.top.answer.Goals as goal

pub returns-clause-ok : goal.returns-clause-ok
returns-clause-ok g c =
    let files = g.D.Depot.files c.args.depot.now in
    let command = meaning_of c.args.command.now in
    let problem = read.meaning_of c.in_ok-problem.problem in
    let first : get_or command.arguments 0 [] ≡ string_bytes (get_or c.args.command.now.arguments.now 0 c.index-command-0.result) =
    get_or-map (string_bytes {Z = Global}) c.args.command.now.arguments.now 0 c.index-command-0.result [] c.requires.some in
    let named : c.as_str-word.result.now ≡ get_or command.arguments 0 [] = cc (first, c.as_str-word.ensures.value, c.index-command-0.is) in
    let is = subst (λ (word : List ℕ). IsNamed (reads_file command.verb) files word problem) named c.in_ok-problem.ensures.ok in
    let due = subst (λ (fs : Files). IsDueOn command.verb fs command.arguments problem (due_of c.in_ok-answer.answer)) c.named_problem.ensures.same_files
    c.in_ok-answer.ensures.ok in
    due_named files (get_or command.arguments 0 []) (IsDueOn command.verb files command.arguments) (reads_file command.verb) problem
    (due_of c.in_ok-answer.answer) is due

pub returns-in_err-answer-clause-err : goal.returns-in_err-answer-clause-err
returns-in_err-answer-clause-err g c =
    let files = g.D.Depot.files c.args.depot.now in
    let command = meaning_of c.args.command.now in
    let problem = read.meaning_of c.in_ok-problem.problem in
    let first : get_or command.arguments 0 [] ≡ string_bytes (get_or c.args.command.now.arguments.now 0 c.index-command-0.result) =
    get_or-map (string_bytes {Z = Global}) c.args.command.now.arguments.now 0 c.index-command-0.result [] c.requires.some in
    let named : c.as_str-word.result.now ≡ get_or command.arguments 0 [] = cc (first, c.as_str-word.ensures.value, c.index-command-0.is) in
    let stands = subst (λ (word : List ℕ). IsNamed (reads_file command.verb) files word problem) named c.in_ok-problem.ensures.ok in
    let p = err_from_is_err_and c.from_residual-in_err-answer.result c.from_residual-in_err-answer.ensures.1 in
    let early = Rose (g.D.Depot.faults c.named_problem.new.depot) (g.D.Depot.faults c.answer_on.new.depot) in
    let late = Rose (g.D.Depot.faults c.args.depot.now) (g.D.Depot.faults c.answer_on.new.depot) in
    let rose : early → late = λ (h : early). omega (arith, c.named_problem.ensures.later) in
    let is = subst (λ (fs : Files). EndCause (IsDueOn command.verb fs command.arguments problem) early c.in_err-answer.field-0.0)
    c.named_problem.ensures.same_files c.in_err-answer.ensures.err in
    rw (p.1, p.2) (end_named files (get_or command.arguments 0 []) (IsDueOn command.verb files command.arguments) (reads_file command.verb) problem early late
    c.in_err-answer.field-0.0 rose stands is)

pub returns-in_err-problem-clause-err : goal.returns-in_err-problem-clause-err
returns-in_err-problem-clause-err g c =
    let files = g.D.Depot.files c.args.depot.now in
    let command = meaning_of c.args.command.now in
    let first : get_or command.arguments 0 [] ≡ string_bytes (get_or c.args.command.now.arguments.now 0 c.index-command-0.result) =
    get_or-map (string_bytes {Z = Global}) c.args.command.now.arguments.now 0 c.index-command-0.result [] c.requires.some in
    let named : c.as_str-word.result.now ≡ get_or command.arguments 0 [] = cc (first, c.as_str-word.ensures.value, c.index-command-0.is) in
    let p = err_from_is_err_and c.from_residual.result c.from_residual.ensures.1 in
    let read = Rose (g.D.Depot.faults c.args.depot.now) (g.D.Depot.faults c.named_problem.new.depot) in
    let is = subst (λ (word : List ℕ). NamedCause (reads_file command.verb) files word read c.in_err-problem.field-0.0) named c.in_err-problem.ensures.err in
    rw (p.1, p.2) (end_unnamed files (get_or command.arguments 0 []) (IsDueOn command.verb files command.arguments) (reads_file command.verb) read read
    c.in_err-problem.field-0.0 (λ h. h) is)
