use Rattle.std.proofs.Common.{◌≤◌, length, inl, inr, ap, subst}
use Rattle.conley_field.specs.Arithmetic.{Arithmetic}
use Rattle.conley_input.specs.ProblemMeaning.{meaning_of}
use Rattle.conley_input.proofs.CellLemmas.{arithmetic_of-residues}
use Rattle.conley_graph.specs.Decomposition.{HasTooManySets}
use Rattle.conley_certificate.specs.Problem.{problem_of}
use Rattle.conley_analysis.specs.Text.{IsAnalysisText}
use Rattle.conley_tool.specs.Due.{ends, prints}
use Rattle.conley_tool.specs.declared.outcome.Fault.TheVariants as fault
use Rattle.conley_tool.specs.declared.outcome.Outcome.TheVariants.{Refused}
use Rattle.conley_tool.proofs.analyze.answer_analyze.Goals as goal

pub returns-in-Err-TooManyMorse-clause-err : goal.returns-in-Err-TooManyMorse-clause-err
returns-in-Err-TooManyMorse-clause-err c =
    let problem = meaning_of c.args.problem.now in
    let many = c.in-Err-TooManyMorse.ensures.too_many c.in-Err-TooManyMorse.count (cc) in
    let sets = subst (λ (F : Arithmetic). HasTooManySets F problem.complex problem.part_of c.in-Err-TooManyMorse.count)
    (arithmetic_of-residues c.args.problem.now.complex.0) many in
    inl (c.in-Err-TooManyMorse.count, sets, ap (λ n. ends (Refused (fault.Morse n))) c.in-Err-TooManyMorse.count-is)

pub returns-clause-ok : goal.returns-clause-ok
returns-clause-ok c =
    let problem = meaning_of c.args.problem.now in
    let bytes = c.in-Ok.text.items in
    let analysis = subst (λ (F : Arithmetic). (text : IsAnalysisText (problem_of F problem.complex problem.part_of) bytes)
    × (length text.certificate.morse ≤ 2000)) (arithmetic_of-residues c.args.problem.now.complex.0) c.in-Ok.ensures.analysis in
    inr (bytes, analysis.0, analysis.1, ap prints c.in_ok-with_end.ensures)
