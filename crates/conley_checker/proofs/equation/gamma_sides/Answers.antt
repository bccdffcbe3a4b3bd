use Rattle.std.proofs.Common.{◌≡◌, ℕ, ap, ◌∙◌}
use Rattle.conley_algebra.specs.Entries.{product_of, identity_of}
use Rattle.conley_chains.specs.Chain.{coefficient}
use Rattle.conley_chains.specs.Matrix.{entry}
use Rattle.conley_certificate_file.specs.CertificateMeaning.{meaning_of}
use Rattle.conley_certificate.specs.Problem.{problem_of, cell_count}
use Rattle.conley_certificate.specs.Certificate.{generator_count}
use Rattle.conley_certificate.proofs.FitsLemmas.{phi_fits, gamma_fits}
use Rattle.conley_checker.proofs.equation.gamma_sides.Goals as goal

pub returns : goal.returns
returns g c =
    let F = g.F.Field.arithmetic c.args.complex.now.0 in
    let P = problem_of F c.args.complex.now.1 c.args.partition.now in
    let C = meaning_of c.args.certificate.now in
    let ok = c.requires.given.problem in
    let fits = c.requires.given.fits in
    let through = c.in_ok-through.through in
    let first = c.in_ok-first.first in
    let second = c.in_ok-second.second in
    let through_is : (row : ℕ) → coefficient through row ≡ product_of F (generator_count C) (entry C.phi) (entry C.psi) row c.args.column =
    λ row. (rw c.field-field.ensures.field at c.in_ok-through.ensures.product) row ∙ ap (λ (n : ℕ). product_of F n (entry C.phi) (entry C.psi) row
    c.args.column) (phi_fits P ok C fits).columns in
    let first_is : (row : ℕ) → coefficient first row ≡ product_of F (cell_count P) (entry P.complex.boundary) (entry C.gamma) row c.args.column =
    λ row. (rw (c.field-field.ensures.field, c.boundary-boundary.ensures.boundary) at c.in_ok-first.ensures.product) row in
    let second_is : (row : ℕ) → coefficient second row ≡ product_of F (cell_count P) (entry C.gamma) (entry P.complex.boundary) row c.args.column =
    λ row. (rw (c.field-field.ensures.field, c.boundary-boundary.ensures.boundary) at c.in_ok-second.ensures.product) row
    ∙ ap (λ (n : ℕ). product_of F n (entry C.gamma) (entry P.complex.boundary) row c.args.column) (gamma_fits P ok C fits).columns in
    record {
      have = λ row. (rw c.field-field.ensures.field at c.in_ok-have.ensures) row
          ∙ ap (λ (x : ℕ). F.add x (F.neg (coefficient through row))) (c.in_ok-identity.ensures.entries (cell_count P) row c.requires.within)
          ∙ ap (λ (x : ℕ). F.add (identity_of (cell_count P) row c.args.column) (F.neg x)) (through_is row);
      want = λ row. (rw c.field-field.ensures.field at c.in_ok-want.ensures) row
          ∙ ap (λ (x : ℕ). F.add x (coefficient second row)) (first_is row)
          ∙ ap (F.add (product_of F (cell_count P) (entry P.complex.boundary) (entry C.gamma) row c.args.column)) (second_is row);
    }
