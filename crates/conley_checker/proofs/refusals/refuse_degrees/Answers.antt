use Rattle.std.proofs.Common.{◌∙◌, ◌∷◌, [], Some}
use Rattle.conley_certificate.specs.Problem.{problem_of}
use Rattle.conley_certificate_file.specs.CertificateMeaning.{meaning_of}
use Rattle.conley_certificate.specs.Laws.{matrix_degree, phi_degree, psi_degree, gamma_degree, gamma2_degree}
use Rattle.conley_certificate.proofs.PlaceLemmas.{first_failing-here, first_failing-later, first_failing-last}
use Rattle.conley_checker.proofs.ReadLemmas.{degree_places}
use Rattle.conley_checker.proofs.refusals.refuse_degrees.Goals as goal

pub returns-in-Some : goal.returns-in-Some
returns-in-Some g c =
    let P = problem_of (g.F.Field.arithmetic c.args.complex.now.0) c.args.complex.now.1 c.args.partition.now in
    let C = meaning_of c.args.certificate.now in
    let d = degree_places P C c.args.read.now c.as_slice-generators.result.now c.dims-cells.result.now c.requires.given c.requires.read
    c.as_slice-generators.ensures.value c.dims-cells.ensures.dims in
    first_failing-here (matrix_degree P C) (phi_degree P C ∷ psi_degree P C ∷ gamma_degree P C ∷ gamma2_degree P C ∷ []) c.in-Some.reason
    (c.in-Some.ensures ∙ d.matrix)

pub returns-in-Some-refuse_degree : goal.returns-in-Some-refuse_degree
returns-in-Some-refuse_degree g c =
    let P = problem_of (g.F.Field.arithmetic c.args.complex.now.0) c.args.complex.now.1 c.args.partition.now in
    let C = meaning_of c.args.certificate.now in
    let d = degree_places P C c.args.read.now c.as_slice-generators.result.now c.dims-cells.result.now c.requires.given c.requires.read
    c.as_slice-generators.ensures.value c.dims-cells.ensures.dims in
    first_failing-later (matrix_degree P C) (phi_degree P C ∷ psi_degree P C ∷ gamma_degree P C ∷ gamma2_degree P C ∷ []) (Some c.in-Some-refuse_degree.reason)
    (c.in-None.ensures ∙ d.matrix)
    (first_failing-here (phi_degree P C) (psi_degree P C ∷ gamma_degree P C ∷ gamma2_degree P C ∷ []) c.in-Some-refuse_degree.reason
    (c.in-Some-refuse_degree.ensures ∙ d.phi))

pub returns-in-Some-refuse_degree-2 : goal.returns-in-Some-refuse_degree-2
returns-in-Some-refuse_degree-2 g c =
    let P = problem_of (g.F.Field.arithmetic c.args.complex.now.0) c.args.complex.now.1 c.args.partition.now in
    let C = meaning_of c.args.certificate.now in
    let d = degree_places P C c.args.read.now c.as_slice-generators.result.now c.dims-cells.result.now c.requires.given c.requires.read
    c.as_slice-generators.ensures.value c.dims-cells.ensures.dims in
    first_failing-later (matrix_degree P C) (phi_degree P C ∷ psi_degree P C ∷ gamma_degree P C ∷ gamma2_degree P C ∷ [])
    (Some c.in-Some-refuse_degree-2.reason) (c.in-None.ensures ∙ d.matrix)
    (first_failing-later (phi_degree P C) (psi_degree P C ∷ gamma_degree P C ∷ gamma2_degree P C ∷ []) (Some c.in-Some-refuse_degree-2.reason)
    (c.in-None-refuse_degree.ensures ∙ d.phi)
    (first_failing-here (psi_degree P C) (gamma_degree P C ∷ gamma2_degree P C ∷ []) c.in-Some-refuse_degree-2.reason
    (c.in-Some-refuse_degree-2.ensures ∙ d.psi)))

pub returns-in-Some-refuse_degree-3 : goal.returns-in-Some-refuse_degree-3
returns-in-Some-refuse_degree-3 g c =
    let P = problem_of (g.F.Field.arithmetic c.args.complex.now.0) c.args.complex.now.1 c.args.partition.now in
    let C = meaning_of c.args.certificate.now in
    let d = degree_places P C c.args.read.now c.as_slice-generators.result.now c.dims-cells.result.now c.requires.given c.requires.read
    c.as_slice-generators.ensures.value c.dims-cells.ensures.dims in
    first_failing-later (matrix_degree P C) (phi_degree P C ∷ psi_degree P C ∷ gamma_degree P C ∷ gamma2_degree P C ∷ [])
    (Some c.in-Some-refuse_degree-3.reason) (c.in-None.ensures ∙ d.matrix)
    (first_failing-later (phi_degree P C) (psi_degree P C ∷ gamma_degree P C ∷ gamma2_degree P C ∷ []) (Some c.in-Some-refuse_degree-3.reason)
    (c.in-None-refuse_degree.ensures ∙ d.phi)
    (first_failing-later (psi_degree P C) (gamma_degree P C ∷ gamma2_degree P C ∷ []) (Some c.in-Some-refuse_degree-3.reason)
    (c.in-None-refuse_degree-2.ensures ∙ d.psi)
    (first_failing-here (gamma_degree P C) (gamma2_degree P C ∷ []) c.in-Some-refuse_degree-3.reason (c.in-Some-refuse_degree-3.ensures ∙ d.gamma))))

pub returns : goal.returns
returns g c =
    let P = problem_of (g.F.Field.arithmetic c.args.complex.now.0) c.args.complex.now.1 c.args.partition.now in
    let C = meaning_of c.args.certificate.now in
    let d = degree_places P C c.args.read.now c.as_slice-generators.result.now c.dims-cells.result.now c.requires.given c.requires.read
    c.as_slice-generators.ensures.value c.dims-cells.ensures.dims in
    first_failing-later (matrix_degree P C) (phi_degree P C ∷ psi_degree P C ∷ gamma_degree P C ∷ gamma2_degree P C ∷ []) c.refuse_degree-5.result
    (c.in-None.ensures ∙ d.matrix)
    (first_failing-later (phi_degree P C) (psi_degree P C ∷ gamma_degree P C ∷ gamma2_degree P C ∷ []) c.refuse_degree-5.result
    (c.in-None-refuse_degree.ensures ∙ d.phi)
    (first_failing-later (psi_degree P C) (gamma_degree P C ∷ gamma2_degree P C ∷ []) c.refuse_degree-5.result (c.in-None-refuse_degree-2.ensures ∙ d.psi)
    (first_failing-later (gamma_degree P C) (gamma2_degree P C ∷ []) c.refuse_degree-5.result (c.in-None-refuse_degree-3.ensures ∙ d.gamma)
    (first_failing-last (gamma2_degree P C) c.refuse_degree-5.result (c.refuse_degree-5.ensures ∙ d.gamma2)))))
