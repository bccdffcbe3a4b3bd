use Rattle.std.proofs.Common.{◌≡◌, ◌<◌, ℕ, [], List, false, arith, ap, sym, ◌∙◌, subst, length, get_or, below_more}
use Rattle.std.specs.Prelude.{Contains}
use Rattle.std.proofs.lemmas.Grind.{common_steps}
use Rattle.std.proofs.lemmas.List.{get_or_default}
use Rattle.std.proofs.lemmas.List.Elements.{Contains-get_or}
use Rattle.conley_lists.specs.Lists.{items_of}
use Rattle.conley_lists.proofs.ListLemmas.{row_of, length-items_of}
use Rattle.conley_certificate.specs.Certificate.{set_count}
use Rattle.conley_certificate.specs.Problem.{problem_of}
use Rattle.conley_certificate_file.specs.CertificateMeaning.{meaning_of}
use Rattle.conley_checker.proofs.IndexLemmas.{not_equal, equal_when}
use Rattle.conley_checker.proofs.OrderRows.{pair_differs, row_tells, listed_below}
use Rattle.conley_checker.proofs.order_rows.compare_order_row.Goals as goal

pub marks_of-requires : goal.marks_of-requires
marks_of-requires g c k d below =
    let C = meaning_of c.args.certificate.now in
    let lists = c.args.listed.now in
    let within : c.args.p < length lists = omega (arith, c.requires.upper, c.requires.listed.count, length-items_of lists) in
    let list : get_or (items_of lists) c.args.p [] ≡ c.as_slice-list.result.now = row_of lists c.args.p c.index-listed-p.result within c.index-listed-p.is
    ∙ sym c.as_slice-list.ensures.value in
    let q = get_or c.as_slice-list.result.now k d in
    let q_below = listed_below C (items_of lists) c.requires.listed c.requires.given.fits.order_sets c.args.p q
    (subst (λ (xs : List ℕ). Contains xs q) (sym list) (Contains-get_or c.as_slice-list.result.now k d below)) in
    omega (arith, q_below, c.len.ensures, length-items_of c.args.certificate.now.morse.items)

pub is_next-want-requires-clause-lower : goal.is_next-want-requires-clause-lower
is_next-want-requires-clause-lower g c =
    let C = meaning_of c.args.certificate.now in
    let rows = c.args.lower.now in
    let within : c.args.p < length rows = omega (arith, c.requires.upper, c.requires.lower.height, length-items_of rows) in
    let row : get_or (items_of rows) c.args.p [] ≡ c.as_slice-row.result.now = row_of rows c.args.p c.index-lower-p.result within c.index-lower-p.is
    ∙ sym c.as_slice-row.ensures.value in
    omega (
      arith,
      c.requires.lower.width c.args.p c.requires.upper,
      ap length row,
      c.loop-q-test.true,
      c.len-q-end.ensures,
      c.in_ok-marks.ensures.width,
      c.len.ensures,
      length-items_of c.args.certificate.now.morse.items,
    )

pub returns-then-have-want-clause-fails : goal.returns-then-have-want-clause-fails
returns-then-have-want-clause-fails g c before =
    let P = problem_of (g.F.Field.arithmetic c.args.complex.now.0) c.args.complex.now.1 c.args.partition.now in
    let C = meaning_of c.args.certificate.now in
    let lists = c.args.listed.now in
    let rows = c.args.lower.now in
    let q = c.loop-q.q in
    let marks = c.in_ok-marks.marks.items in
    let a = c.index-have.result.now in
    let b = c.is_next-want.result in
    let in_lists : c.args.p < length lists = omega (arith, c.requires.upper, c.requires.listed.count, length-items_of lists) in
    let in_rows : c.args.p < length rows = omega (arith, c.requires.upper, c.requires.lower.height, length-items_of rows) in
    let in_marks : q < length marks = grind (arith, common_steps, c.len-q-end.ensures, c.loop-q-test.true) in
    let q_below : q < set_count C = omega (arith, in_marks, c.in_ok-marks.ensures.width, c.len.ensures, length-items_of c.args.certificate.now.morse.items) in
    let tells = row_tells P C (items_of lists) (items_of rows) c.requires.listed c.requires.lower c.args.p q c.requires.upper q_below
    c.as_slice-list.result.now c.as_slice-row.result.now c.in_ok-still.still.items marks b
    (row_of lists c.args.p c.index-listed-p.result in_lists c.index-listed-p.is ∙ sym c.as_slice-list.ensures.value)
    (row_of rows c.args.p c.index-lower-p.result in_rows c.index-lower-p.is ∙ sym c.as_slice-row.ensures.value)
    (c.in_ok-marks.ensures.marks q) c.in_ok-still.ensures.bits (rw c.as_slice-words.ensures.value at c.is_next-want.ensures) in
    pair_differs P C c.args.p q a b c.requires.upper q_below (c.index-have.ensures ∙ get_or_default marks q a false in_marks ∙ tells.0) tells.1
    (not_equal a b c.if-have-want.true) before c.loop-q.invariant

pub loop-q-preserved : goal.loop-q-preserved
loop-q-preserved g c =
    let P = problem_of (g.F.Field.arithmetic c.args.complex.now.0) c.args.complex.now.1 c.args.partition.now in
    let C = meaning_of c.args.certificate.now in
    let lists = c.args.listed.now in
    let rows = c.args.lower.now in
    let q = c.loop-q.q in
    let marks = c.in_ok-marks.marks.items in
    let a = c.index-have.result.now in
    let b = c.is_next-want.result in
    let in_lists : c.args.p < length lists = omega (arith, c.requires.upper, c.requires.listed.count, length-items_of lists) in
    let in_rows : c.args.p < length rows = omega (arith, c.requires.upper, c.requires.lower.height, length-items_of rows) in
    let in_marks : q < length marks = grind (arith, common_steps, c.len-q-end.ensures, c.loop-q-test.true) in
    let q_below : q < set_count C = omega (arith, in_marks, c.in_ok-marks.ensures.width, c.len.ensures, length-items_of c.args.certificate.now.morse.items) in
    let tells = row_tells P C (items_of lists) (items_of rows) c.requires.listed c.requires.lower c.args.p q c.requires.upper q_below
    c.as_slice-list.result.now c.as_slice-row.result.now c.in_ok-still.still.items marks b
    (row_of lists c.args.p c.index-listed-p.result in_lists c.index-listed-p.is ∙ sym c.as_slice-list.ensures.value)
    (row_of rows c.args.p c.index-lower-p.result in_rows c.index-lower-p.is ∙ sym c.as_slice-row.ensures.value)
    (c.in_ok-marks.ensures.marks q) c.in_ok-still.ensures.bits (rw c.as_slice-words.ensures.value at c.is_next-want.ensures) in
    let read : a ≡ get_or marks q false = c.index-have.ensures ∙ get_or_default marks q a false in_marks in
    below_more _ _ c.loop-q.invariant (sym (read ∙ tells.0) ∙ equal_when a b c.if-have-want.false ∙ tells.1)

pub returns-clause-fine : goal.returns-clause-fine
returns-clause-fine g c none q q_below =
    c.loop-q.invariant q (omega (
      arith,
      q_below,
      c.loop-q-test.false,
      c.len-q-end.ensures,
      c.in_ok-marks.ensures.width,
      c.len.ensures,
      length-items_of c.args.certificate.now.morse.items,
    ))
