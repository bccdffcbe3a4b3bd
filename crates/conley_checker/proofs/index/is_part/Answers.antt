use Rattle.std.proofs.Common.{◌≡◌, ◌<◌, ℕ, List, arith, sym, ◌∙◌, ap, subst, get_or, length}
use Rattle.std.specs.Prelude.{Contains}
use Rattle.std.proofs.lemmas.Bool.{false≢true}
use Rattle.std.proofs.lemmas.List.Elements.{Contains-get_or}
use Rattle.conley_lists.proofs.ListLemmas.{row_of, length-items_of}
use Rattle.conley_transitions.specs.Morse.{set_at}
use Rattle.conley_certificate.specs.Problem.{problem_of, part_at}
use Rattle.conley_certificate.specs.Certificate.{first_cell}
use Rattle.conley_certificate_file.specs.CertificateMeaning.{meaning_of}
use Rattle.conley_certificate.proofs.WithinLemmas.{parts}
use Rattle.conley_checker.proofs.IndexLemmas.{one_part}
use Rattle.conley_checker.proofs.index.is_part.Goals as goal

pub are_of_set-requires-clause-cells : goal.are_of_set-requires-clause-cells
are_of_set-requires-clause-cells g c k d below =
    let P = problem_of (g.F.Field.arithmetic c.args.complex.now.0) c.args.complex.now.1 c.args.partition.now in
    let cell = (c.cells_of.ensures.cells (get_or c.cells_of.result.now k d)).0 (Contains-get_or c.cells_of.result.now k d below) in
    omega (arith, cell.0, parts P c.requires.given.problem, c.requires.places.count)

pub returns-then-are_of_part : goal.returns-then-are_of_part
returns-then-are_of_part g c =
    let P = problem_of (g.F.Field.arithmetic c.args.complex.now.0) c.args.complex.now.1 c.args.partition.now in
    let C = meaning_of c.args.certificate.now in
    let in_vec : c.args.set < length c.args.certificate.now.morse.items = omega (arith, c.requires.within, length-items_of c.args.certificate.now.morse.items)
    in
    let row : set_at C.morse c.args.set ≡ c.deref.result.now = row_of c.args.certificate.now.morse.items c.args.set c.index.result.now in_vec c.index.ensures
    ∙ sym c.deref.ensures.value in
    let is : c.part_of-part.result ≡ part_at P (first_cell C c.args.set) = c.part_of-part.ensures
    ∙ ap (λ (n : ℕ). get_or c.args.partition.now n 0) c.first_of.ensures in
    one_part P c.requires.given.problem C c.requires.given.fits c.args.place.now c.requires.places c.args.set c.requires.within c.part_of-part.result
    c.are_of_set.result is (
      (λ h. (
        (λ x inside. c.are_of_part.ensures.0 c.if-are_of_part.true x (subst (λ (xs : List ℕ). Contains xs x) row inside)),
        (λ x own. c.are_of_set.ensures.0 h x ((c.cells_of.ensures.cells x).1 own)),
      )),
      (λ both. c.are_of_set.ensures.1 (λ x inside. both.1 x ((c.cells_of.ensures.cells x).0 inside))),
    )

pub returns-else-are_of_part : goal.returns-else-are_of_part
returns-else-are_of_part g c =
    let P = problem_of (g.F.Field.arithmetic c.args.complex.now.0) c.args.complex.now.1 c.args.partition.now in
    let C = meaning_of c.args.certificate.now in
    let in_vec : c.args.set < length c.args.certificate.now.morse.items = omega (arith, c.requires.within, length-items_of c.args.certificate.now.morse.items)
    in
    let row : set_at C.morse c.args.set ≡ c.deref.result.now = row_of c.args.certificate.now.morse.items c.args.set c.index.result.now in_vec c.index.ensures
    ∙ sym c.deref.ensures.value in
    let is : c.part_of-part.result ≡ part_at P (first_cell C c.args.set) = c.part_of-part.ensures
    ∙ ap (λ (n : ℕ). get_or c.args.partition.now n 0) c.first_of.ensures in
    one_part P c.requires.given.problem C c.requires.given.fits c.args.place.now c.requires.places c.args.set c.requires.within c.part_of-part.result
    c.are_of_part.result is (
      (λ h. absurd (false≢true (sym c.if-are_of_part.false ∙ h))),
      (λ both. c.are_of_part.ensures.1 (λ x inside. both.0 x (subst (λ (xs : List ℕ). Contains xs x) (sym row) inside))),
    )
