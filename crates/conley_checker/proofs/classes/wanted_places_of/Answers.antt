use Rattle.std.proofs.Common.{◌≡◌, ◌<◌, ◌==◌, ◌||◌, Bool, arith, sym, ◌∙◌, ap, length, slice_index, false}
use Rattle.std.specs.Prelude.{not}
use Rattle.std.proofs.lemmas.List.{get_or_default}
use Rattle.conley_certificate.specs.Reach.{has_two_parts}
use Rattle.conley_certificate.specs.Values.{is_wanted}
use Rattle.conley_certificate.specs.Problem.{problem_of}
use Rattle.conley_certificate_file.specs.CertificateMeaning.{meaning_of}
use Rattle.conley_certificate.proofs.TestLemmas.{count_below-most}
use Rattle.conley_checker.proofs.NumberingLemmas.{wanted_more, unwanted_more, wanted_number, unwanted_number, wanted_read}
use Rattle.conley_checker.proofs.classes.wanted_places_of.Goals as goal
use Rattle.conley_checker.proofs.classes.wanted_places_of.Goals.{then-wants+in_ok-push, else-wants+in_ok-push-2}

pub loop-c-preserved : goal.loop-c-preserved
loop-c-preserved g c =
    let P = problem_of (g.F.Field.arithmetic c.args.complex.now.0) c.args.complex.now.1 c.args.partition.now in
    let C = meaning_of c.args.certificate.now in
    let ok = c.requires.given.problem in
    let fits = c.requires.given.fits in
    let leasts = c.args.leasts.now in
    let k = c.loop-c.c in
    let below : k < length leasts = c.loop-c-test.true in
    let l = slice_index leasts k in
    let place = slice_index c.args.place.now l in
    let two_is : c.index.result.now ≡ has_two_parts P l =
    c.index.ensures ∙ get_or_default c.in_ok-two.two.items k c.index.result.now false (omega (arith, below, c.in_ok-two.ensures.width))
    ∙ c.in_ok-two.ensures.two k below in
    let wanted_is : is_wanted P C l ≡ c.wants.result =
    wanted_read P ok C fits c.args.class_of.now c.requires.classes leasts c.requires.leasts k place below
    (c.requires.places.places l (c.requires.leasts.cells k below))
    ∙ ap (λ (b : Bool). b || not (place == 0)) (sym two_is) ∙ sym c.wants.ensures in
    elim c.if-wants.branch [
      | then-wants+in_ok-push w ↦
          let yes_wanted = wanted_is ∙ w.if-wants.true in
          rw (w.wanted-is, w.count-is, w.in_ok-push.ensures.items)
          (wanted_more P C leasts k c.loop-c.count c.loop-c.wanted.items c.loop-c.invariant yes_wanted
          (wanted_number P ok C fits c.args.class_of.now c.requires.classes leasts c.requires.leasts k below yes_wanted))
      | else-wants+in_ok-push-2 w ↦
          let unwanted = wanted_is ∙ w.if-wants.false in
          rw (w.wanted-is, w.count-is, w.in_ok-push-2.ensures.items)
          (unwanted_more P C leasts k c.loop-c.count c.loop-c.wanted.items c.loop-c.invariant unwanted
          (unwanted_number P ok C fits c.args.class_of.now c.requires.classes leasts c.requires.leasts k below unwanted))
    ]

pub overflow_add-count : goal.overflow_add-count
overflow_add-count g c =
    let P = problem_of (g.F.Field.arithmetic c.args.complex.now.0) c.args.complex.now.1 c.args.partition.now in
    let C = meaning_of c.args.certificate.now in
    omega (
      arith,
      c.loop-c.invariant.counted,
      count_below-most c.loop-c.c (λ d. is_wanted P C (slice_index c.args.leasts.now d)),
      c.loop-c-test.true,
      c.requires.leasts.few,
      c.requires.given.few_cells,
    )
