use Rattle.std.proofs.Common.{◌≡◌, ◌<◌, arith, sym, ◌∙◌, below_more, slice_index}
use Rattle.conley_certificate.specs.Problem.{cell_count, problem_of}
use Rattle.conley_certificate.specs.Values.{wanted_place}
use Rattle.conley_certificate_file.specs.CertificateMeaning.{meaning_of}
use Rattle.conley_checker.proofs.NumberingLemmas.{want_read, cell_differs, cells_agree}
use Rattle.conley_checker.proofs.classes.compare_sets.Goals as goal

pub returns-then-place-x : goal.returns-then-place-x
returns-then-place-x g c =
    let P = problem_of (g.F.Field.arithmetic c.args.complex.now.0) c.args.complex.now.1 c.args.partition.now in
    let C = meaning_of c.args.certificate.now in
    let x = c.loop-x.x in
    let cell : x < cell_count P = omega (arith, c.loop-x-test.true, c.requires.classes.count) in
    let want_is : c.index-want.result.now ≡ wanted_place P C x =
    want_read P c.requires.given.problem C c.requires.given.fits c.args.class_of.now c.requires.classes c.in_ok-leasts.leasts.items c.deref.result.now
    c.in_ok-wanted.wanted.items c.in_ok-leasts.ensures c.deref.ensures.value c.in_ok-wanted.ensures.width c.in_ok-wanted.ensures.wanted
    x c.index-want.result.now cell c.index-want.ensures in
    cell_differs P C x (slice_index c.args.place.now x) c.index-want.result.now cell (c.requires.places.places x cell) want_is c.if-place-x.true
    c.loop-x.invariant

pub loop-x-preserved : goal.loop-x-preserved
loop-x-preserved g c =
    let P = problem_of (g.F.Field.arithmetic c.args.complex.now.0) c.args.complex.now.1 c.args.partition.now in
    let C = meaning_of c.args.certificate.now in
    let x = c.loop-x.x in
    let cell : x < cell_count P = omega (arith, c.loop-x-test.true, c.requires.classes.count) in
    let want_is : c.index-want.result.now ≡ wanted_place P C x =
    want_read P c.requires.given.problem C c.requires.given.fits c.args.class_of.now c.requires.classes c.in_ok-leasts.leasts.items c.deref.result.now
    c.in_ok-wanted.wanted.items c.in_ok-leasts.ensures c.deref.ensures.value c.in_ok-wanted.ensures.width c.in_ok-wanted.ensures.wanted
    x c.index-want.result.now cell c.index-want.ensures in
    below_more _ _ c.loop-x.invariant (sym (c.requires.places.places x cell) ∙ c.if-place-x.false ∙ want_is)

pub returns : goal.returns
returns g c =
    let P = problem_of (g.F.Field.arithmetic c.args.complex.now.0) c.args.complex.now.1 c.args.partition.now in
    let C = meaning_of c.args.certificate.now in
    cells_agree P C (λ x cell. c.loop-x.invariant x (omega (arith, cell, c.loop-x-test.false, c.requires.classes.count)))
