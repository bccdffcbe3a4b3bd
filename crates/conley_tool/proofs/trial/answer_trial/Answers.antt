use Rattle.std.proofs.Common.{arith, ◌≤◌, ◌∙◌, length, inl, inr, ap, subst}
use Rattle.conley_lists.proofs.ListLemmas.{length-items_of}
use Rattle.conley_field.specs.AnyField.{arithmetic_of}
use Rattle.conley_field.specs.Arithmetic.{Arithmetic}
use Rattle.conley_input.specs.ProblemMeaning.{meaning_of}
use Rattle.conley_input.proofs.CellLemmas.{arithmetic_of-residues}
use Rattle.conley_graph.specs.Decomposition.{HasTooManySets}
use Rattle.conley_certificate_file.specs.CertificateMeaning as certificate
use Rattle.conley_certificate.specs.Problem.{problem_of}
use Rattle.conley_certificate.specs.Analysis.{IsAnalysis}
use Rattle.conley_texts.specs.Line.{text_of}
use Rattle.conley_tool.specs.Due.{ends, prints}
use Rattle.conley_tool.specs.Trial.{summary_lines}
use Rattle.conley_tool.specs.declared.outcome.Fault.TheVariants as fault
use Rattle.conley_tool.specs.declared.outcome.Outcome.TheVariants.{Refused}
use Rattle.conley_tool.proofs.GeneratorLemmas.{few_generators}
use Rattle.conley_tool.proofs.trial.answer_trial.Goals as goal

pub returns-in-Err-TooManyMorse-clause-err : goal.returns-in-Err-TooManyMorse-clause-err
returns-in-Err-TooManyMorse-clause-err c =
    let problem = meaning_of c.args.problem.now in
    let many = c.in-Err-TooManyMorse.ensures.too_many c.in-Err-TooManyMorse.count (cc) in
    let sets = subst (λ (F : Arithmetic). HasTooManySets F problem.complex problem.part_of c.in-Err-TooManyMorse.count)
    (arithmetic_of-residues c.args.problem.now.complex.0) many in
    inl (c.in-Err-TooManyMorse.count, sets, ap (λ n. ends (Refused (fault.Morse n))) c.in-Err-TooManyMorse.count-is)

pub returns-clause-ok : goal.returns-clause-ok
returns-clause-ok c =
    let problem = meaning_of c.args.problem.now in
    let C = certificate.meaning_of c.in-Ok.certificate in
    let analysis = subst (λ (F : Arithmetic). IsAnalysis (problem_of F problem.complex problem.part_of) C)
    (arithmetic_of-residues c.args.problem.now.complex.0) c.in-Ok.ensures.analysis in
    let few : length C.morse ≤ 2000 = omega (arith, c.in-Ok.ensures.few, length-items_of c.in-Ok.certificate.morse.items) in
    inr (C, analysis, few, c.rows-kept.ensures.kept.chains, ap prints (c.in_ok-summary_text.ensures ∙ ap (λ s. text_of (summary_lines s)) c.of-summary.ensures))

pub of-summary-requires-clause-rows : goal.of-summary-requires-clause-rows
of-summary-requires-clause-rows c =
    let problem = meaning_of c.args.problem.now in
    let P = problem_of (arithmetic_of c.args.problem.now.complex.0) problem.complex problem.part_of in
    let keeps = c.in-Ok.ensures.cells in
    let few = few_generators P (certificate.meaning_of c.in-Ok.certificate) keeps.0 keeps.1 c.in-Ok.ensures.analysis c.in-Ok.ensures.graph in
    omega (arith, few, c.in-Ok.ensures.fits.matrix.rows, c.requires.field.count, c.requires.laws.complex.faces_count, c.requires.laws.complex.few)

pub of-summary-requires-clause-columns : goal.of-summary-requires-clause-columns
of-summary-requires-clause-columns c =
    let problem = meaning_of c.args.problem.now in
    let P = problem_of (arithmetic_of c.args.problem.now.complex.0) problem.complex problem.part_of in
    let keeps = c.in-Ok.ensures.cells in
    let few = few_generators P (certificate.meaning_of c.in-Ok.certificate) keeps.0 keeps.1 c.in-Ok.ensures.analysis c.in-Ok.ensures.graph in
    omega (arith, few, c.in-Ok.ensures.fits.matrix.columns, c.requires.field.count, c.requires.laws.complex.faces_count, c.requires.laws.complex.few)
