use Rattle.std.proofs.Common.{◌<◌, arith, refl, below_more}
use Rattle.conley_certificate_file.specs.CertificateMeaning.{meaning_of}
use Rattle.conley_certificate.specs.Problem.{problem_of}
use Rattle.conley_checker.specs.Equations.{law_of}
use Rattle.conley_checker.proofs.EquationLemmas.{sides_differ, sides_same, never_fails}
use Rattle.conley_checker.proofs.equations.compare_equation.Goals as goal

pub returns : goal.returns
returns g c =
    let P = problem_of (g.F.Field.arithmetic c.args.complex.now.0) c.args.complex.now.1 c.args.partition.now in
    let C = meaning_of c.args.certificate.now in
    never_fails P C c.args.equation (λ column below. c.loop-column.invariant column (omega
    (arith, below, c.column_count-column-end.ensures, c.loop-column-test.false)))

pub loop-column-preserved : goal.loop-column-preserved
loop-column-preserved g c =
    let P = problem_of (g.F.Field.arithmetic c.args.complex.now.0) c.args.complex.now.1 c.args.partition.now in
    let C = meaning_of c.args.certificate.now in
    let both = c.in_ok-both.both in
    below_more _ _ c.loop-column.invariant (sides_same P c.requires.given.problem C c.requires.given.fits c.args.equation c.loop-column.column both.have
    both.want c.in_ok-both.ensures (c.in-None.ensures.same refl))

pub returns-in-Some : goal.returns-in-Some
returns-in-Some g c =
    let P = problem_of (g.F.Field.arithmetic c.args.complex.now.0) c.args.complex.now.1 c.args.partition.now in
    let C = meaning_of c.args.certificate.now in
    let both = c.in_ok-both.both in
    let d = c.in-Some.d in
    let below : c.loop-column.column < (law_of P C c.args.equation).columns = omega (arith, c.loop-column-test.true, c.column_count-column-end.ensures) in
    rw c.number.ensures (sides_differ P c.requires.given.problem C c.requires.given.fits c.args.equation c.loop-column.column both.have both.want
    c.in_ok-both.ensures d.0 d.1 d.2 below c.in-Some.ensures.first c.loop-column.invariant)
