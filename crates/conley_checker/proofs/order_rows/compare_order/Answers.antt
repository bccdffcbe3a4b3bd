use Rattle.std.proofs.Common.{arith}
use Rattle.std.proofs.lemmas.Grind.{common_steps}
use Rattle.conley_certificate.specs.Problem.{problem_of}
use Rattle.conley_certificate_file.specs.CertificateMeaning.{meaning_of}
use Rattle.conley_checker.proofs.OrderRows.{order_fine}
use Rattle.conley_checker.proofs.order_rows.compare_order.Goals as goal

pub returns : goal.returns
returns g c =
    let P = problem_of (g.F.Field.arithmetic c.args.complex.now.0) c.args.complex.now.1 c.args.partition.now in
    let C = meaning_of c.args.certificate.now in
    order_fine P C (λ i below. c.loop-i.invariant i (grind (arith, common_steps, c.len-i-end.ensures, below, c.loop-i-test.false)))
