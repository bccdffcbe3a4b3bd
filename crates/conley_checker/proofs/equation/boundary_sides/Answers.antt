use Rattle.std.proofs.Common.{ℕ, List, ap, ◌∙◌}
use Rattle.conley_algebra.specs.Entries.{product_of}
use Rattle.conley_chains.specs.Chain.{coefficient}
use Rattle.conley_chains.specs.Matrix.{entry}
use Rattle.conley_certificate_file.specs.CertificateMeaning.{meaning_of}
use Rattle.conley_certificate.specs.Problem.{problem_of}
use Rattle.conley_checker.proofs.equation.boundary_sides.Goals as goal

pub returns : goal.returns
returns g c =
    let F = g.F.Field.arithmetic c.args.complex.now.0 in
    let P = problem_of F c.args.complex.now.1 c.args.partition.now in
    let C = meaning_of c.args.certificate.now in
    let ok = c.requires.given.problem in
    let fits = c.requires.given.fits in
    record {
      have = λ row. (rw c.field-field.ensures.field at c.in_ok-have.ensures.product) row ∙ ap (λ (n : ℕ). product_of F n (entry C.matrix) (entry C.matrix) row
          c.args.column) fits.matrix.columns;
      want = λ row. ap (λ (es : List (ℕ × ℕ)). coefficient es row) c.new-want.ensures;
    }
