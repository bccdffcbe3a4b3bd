use Rattle.std.proofs.Common.{◌≡◌, Some, inr, refl, subst}
use Rattle.conley_field.specs.Arithmetic.{Arithmetic}
use Rattle.conley_input.proofs.CellLemmas.{arithmetic_of-residues}
use Rattle.conley_certificate_file.specs.Certificate.{Certificate}
use Rattle.conley_certificate_file.specs.Reading.{Reads}
use Rattle.conley_certificate.specs.Problem.{problem_of}
use Rattle.conley_certificate.specs.Analysis.{IsAnalysis}
use Rattle.conley_certificate.specs.Laws.{failing}
use Rattle.conley_tool.proofs.check.verdict_on.Goals as goal

pub returns-in-Ok-Err-Rejected-clause-err : goal.returns-in-Ok-Err-Rejected-clause-err
returns-in-Ok-Err-Rejected-clause-err c =
    let complex = c.args.problem.now.complex in
    let part_of = c.args.problem.now.partition in
    let reason = c.in-Ok-Err-Rejected.reason in
    let rejected = c.in-Ok-Err-Rejected.ensures.rejected reason (cc) in
    let in_full = subst (λ (F : Arithmetic). (C : Certificate) × Reads F complex.1 c.args.bytes.now C
    × (failing (problem_of F complex.1 part_of) C ≡ Some reason) × ¬ IsAnalysis (problem_of F complex.1 part_of) C)
    (arithmetic_of-residues complex.0) rejected in
    inr (in_full.0, in_full.1, inr (in_full.3, (reason, in_full.2, refl)))
