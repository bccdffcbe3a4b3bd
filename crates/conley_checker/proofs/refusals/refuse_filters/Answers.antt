use Rattle.std.proofs.Common.{◌∙◌, ◌∷◌, [], Some}
use Rattle.conley_certificate.specs.Problem.{problem_of}
use Rattle.conley_certificate_file.specs.CertificateMeaning.{meaning_of}
use Rattle.conley_certificate.specs.Laws.{phi_down, psi_down, gamma_down, gamma2_down}
use Rattle.conley_certificate.proofs.PlaceLemmas.{first_failing-here, first_failing-later, first_failing-last}
use Rattle.conley_checker.proofs.ReadLemmas.{filter_places}
use Rattle.conley_checker.proofs.refusals.refuse_filters.Goals as goal

pub returns-in-Some : goal.returns-in-Some
returns-in-Some g c =
    let P = problem_of (g.F.Field.arithmetic c.args.complex.now.0) c.args.complex.now.1 c.args.partition.now in
    let C = meaning_of c.args.certificate.now in
    let d = filter_places P C (g.G.Grading.cell_count c.args.reach.now) (g.G.Grading.is_below c.args.reach.now) c.args.read.now c.as_slice-bases.result.now
    c.as_slice-cells.result.now c.requires.given c.requires.reach c.requires.read c.as_slice-bases.ensures.value c.as_slice-cells.ensures.value in
    first_failing-here (phi_down P C) (psi_down P C ∷ gamma_down P C ∷ gamma2_down P C ∷ []) c.in-Some.reason (c.in-Some.ensures ∙ d.phi)

pub returns-in-Some-refuse_upward : goal.returns-in-Some-refuse_upward
returns-in-Some-refuse_upward g c =
    let P = problem_of (g.F.Field.arithmetic c.args.complex.now.0) c.args.complex.now.1 c.args.partition.now in
    let C = meaning_of c.args.certificate.now in
    let d = filter_places P C (g.G.Grading.cell_count c.args.reach.now) (g.G.Grading.is_below c.args.reach.now) c.args.read.now c.as_slice-bases.result.now
    c.as_slice-cells.result.now c.requires.given c.requires.reach c.requires.read c.as_slice-bases.ensures.value c.as_slice-cells.ensures.value in
    first_failing-later (phi_down P C) (psi_down P C ∷ gamma_down P C ∷ gamma2_down P C ∷ []) (Some c.in-Some-refuse_upward.reason) (c.in-None.ensures ∙ d.phi)
    (first_failing-here (psi_down P C) (gamma_down P C ∷ gamma2_down P C ∷ []) c.in-Some-refuse_upward.reason (c.in-Some-refuse_upward.ensures ∙ d.psi))

pub returns-in-Some-refuse_upward-2 : goal.returns-in-Some-refuse_upward-2
returns-in-Some-refuse_upward-2 g c =
    let P = problem_of (g.F.Field.arithmetic c.args.complex.now.0) c.args.complex.now.1 c.args.partition.now in
    let C = meaning_of c.args.certificate.now in
    let d = filter_places P C (g.G.Grading.cell_count c.args.reach.now) (g.G.Grading.is_below c.args.reach.now) c.args.read.now c.as_slice-bases.result.now
    c.as_slice-cells.result.now c.requires.given c.requires.reach c.requires.read c.as_slice-bases.ensures.value c.as_slice-cells.ensures.value in
    first_failing-later (phi_down P C) (psi_down P C ∷ gamma_down P C ∷ gamma2_down P C ∷ []) (Some c.in-Some-refuse_upward-2.reason)
    (c.in-None.ensures ∙ d.phi)
    (first_failing-later (psi_down P C) (gamma_down P C ∷ gamma2_down P C ∷ []) (Some c.in-Some-refuse_upward-2.reason)
    (c.in-None-refuse_upward.ensures ∙ d.psi)
    (first_failing-here (gamma_down P C) (gamma2_down P C ∷ []) c.in-Some-refuse_upward-2.reason (c.in-Some-refuse_upward-2.ensures ∙ d.gamma)))

pub returns : goal.returns
returns g c =
    let P = problem_of (g.F.Field.arithmetic c.args.complex.now.0) c.args.complex.now.1 c.args.partition.now in
    let C = meaning_of c.args.certificate.now in
    let d = filter_places P C (g.G.Grading.cell_count c.args.reach.now) (g.G.Grading.is_below c.args.reach.now) c.args.read.now c.as_slice-bases.result.now
    c.as_slice-cells.result.now c.requires.given c.requires.reach c.requires.read c.as_slice-bases.ensures.value c.as_slice-cells.ensures.value in
    first_failing-later (phi_down P C) (psi_down P C ∷ gamma_down P C ∷ gamma2_down P C ∷ []) c.refuse_upward-4.result (c.in-None.ensures ∙ d.phi)
    (first_failing-later (psi_down P C) (gamma_down P C ∷ gamma2_down P C ∷ []) c.refuse_upward-4.result (c.in-None-refuse_upward.ensures ∙ d.psi)
    (first_failing-later (gamma_down P C) (gamma2_down P C ∷ []) c.refuse_upward-4.result (c.in-None-refuse_upward-2.ensures ∙ d.gamma)
    (first_failing-last (gamma2_down P C) c.refuse_upward-4.result (c.refuse_upward-4.ensures ∙ d.gamma2))))
