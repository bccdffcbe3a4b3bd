use Rattle.std.proofs.Common.{◌≡◌, ◌<◌, ℕ, [], List, arith, sym, ◌∙◌, ap, length, get_or, slice_index, Vec, refl}
use Rattle.std.specs.Prelude.{not}
use Rattle.std.specs.declared.alloc.Global.{Global}
use Rattle.std.proofs.lemmas.Bool.{and_from, not_from_false}
use Rattle.conley_lists.specs.Lists.{items_of}
use Rattle.conley_lists.proofs.ListLemmas.{row_of, length-items_of}
use Rattle.conley_certificate_file.specs.Certificate.{Certificate, Fits}
use Rattle.conley_certificate_file.specs.CertificateMeaning.{meaning_of}
use Rattle.conley_certificate.specs.Certificate.{set_count}
use Rattle.conley_certificate.specs.Problem.{Problem, problem_of}
use Rattle.conley_certificate.specs.Values.{is_one_part, is_named}
use Rattle.conley_checker.proofs.IndexLemmas.{number_differs, part_unnamed}
use Rattle.conley_checker.proofs.index.compare_row.Goals as goal

-- the numbers that were read are those of the set
row_is : (rows : List (Vec ℕ Global)) (i n : ℕ) (row : Vec ℕ Global) (slice : List ℕ) → length (items_of rows) ≡ n → i < n → row ≡ get_or rows i row
    → slice ≡ row.items → get_or (items_of rows) i [] ≡ slice
row_is rows i n row slice count below read value = row_of rows i row (omega (arith, count, length-items_of rows)) read ∙ sym value

row_length : (P : Problem) (C : Certificate) (i : ℕ) (slice : List ℕ) → Fits P.scalars P.complex C → i < set_count C → get_or C.index i [] ≡ slice
    → length slice ≡ P.complex.levels
row_length P C i slice fits below is = ap (λ (xs : List ℕ). length xs) (sym is) ∙ fits.index_levels i [] (omega (arith, fits.index_sets))

pub first_unequal-requires-clause-same_length : goal.first_unequal-requires-clause-same_length
first_unequal-requires-clause-same_length g c =
    let P = problem_of (g.F.Field.arithmetic c.args.complex.now.0) c.args.complex.now.1 c.args.partition.now in
    let C = meaning_of c.args.certificate.now in
    let is = row_is c.args.certificate.now.index.items c.args.set (set_count C) c.index.result.now c.as_slice-numbers.result.now
    c.requires.given.fits.index_sets c.requires.within c.index.ensures c.as_slice-numbers.ensures.value in
    row_length P C c.args.set c.as_slice-numbers.result.now c.requires.given.fits c.requires.within is ∙ sym c.requires.width

pub first_unequal-requires-clause-few : goal.first_unequal-requires-clause-few
first_unequal-requires-clause-few g c =
    let P = problem_of (g.F.Field.arithmetic c.args.complex.now.0) c.args.complex.now.1 c.args.partition.now in
    let C = meaning_of c.args.certificate.now in
    let is = row_is c.args.certificate.now.index.items c.args.set (set_count C) c.index.result.now c.as_slice-numbers.result.now
    c.requires.given.fits.index_sets c.requires.within c.index.ensures c.as_slice-numbers.ensures.value in
    omega (arith, row_length P C c.args.set c.as_slice-numbers.result.now c.requires.given.fits c.requires.within is, c.requires.given.few_levels)

pub returns-in-Some-clause-fails : goal.returns-in-Some-clause-fails
returns-in-Some-clause-fails g c before =
    let P = problem_of (g.F.Field.arithmetic c.args.complex.now.0) c.args.complex.now.1 c.args.partition.now in
    let C = meaning_of c.args.certificate.now in
    let d = c.in-Some.d in
    let slice = c.as_slice-numbers.result.now in
    let is = row_is c.args.certificate.now.index.items c.args.set (set_count C) c.index.result.now slice c.requires.given.fits.index_sets c.requires.within
    c.index.ensures c.as_slice-numbers.ensures.value in
    let wide : length slice ≡ P.complex.levels = row_length P C c.args.set slice c.requires.given.fits c.requires.within is in
    let within : d.place < P.complex.levels = omega (arith, wide, c.in-Some.ensures.within) in
    number_differs P C c.args.set c.requires.within before d.place d.have d.want within
    (c.in-Some.ensures.left ∙ ap (λ (xs : List ℕ). slice_index xs d.place) (sym is))
    (c.in-Some.ensures.right ∙ c.requires.counts d.place within)
    c.in-Some.ensures.differ
    (λ k less. ap (λ (xs : List ℕ). slice_index xs k) is ∙ c.in-Some.ensures.before k less ∙ c.requires.counts k (omega arith))

pub returns-then-not-named-clause-fails : goal.returns-then-not-named-clause-fails
returns-then-not-named-clause-fails g c before =
    let P = problem_of (g.F.Field.arithmetic c.args.complex.now.0) c.args.complex.now.1 c.args.partition.now in
    let C = meaning_of c.args.certificate.now in
    let slice = c.as_slice-numbers.result.now in
    let is = row_is c.args.certificate.now.index.items c.args.set (set_count C) c.index.result.now slice c.requires.given.fits.index_sets c.requires.within
    c.index.ensures c.as_slice-numbers.ensures.value in
    let wide : length slice ≡ P.complex.levels = row_length P C c.args.set slice c.requires.given.fits c.requires.within is in
    rw c.levels.ensures.levels (part_unnamed P C c.args.set c.requires.within before
    (and_from (is_one_part P C c.args.set) (not (is_named C c.args.set)) (sym c.is_part-part.ensures ∙ c.if-part.true)
    (not_from_false (is_named C c.args.set) (sym c.requires.named ∙ c.if-not-named.true)))
    (λ k below. ap (λ (xs : List ℕ). slice_index xs k) is ∙ c.in-None.ensures.same refl k (omega (arith, wide)) ∙ c.requires.counts k below))
