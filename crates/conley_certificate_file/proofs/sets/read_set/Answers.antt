use Rattle.std.proofs.Common.{◌≡◌, ◌∙◌, ◌<◌, ap, sym, subst, arith, length, string_bytes}
use Rattle.std.proofs.lemmas.Bool.{eqb-false, false≢true}
use Rattle.std.proofs.lemmas.List.{length-map}
use Rattle.conley_lists.proofs.ListLemmas.{read_mark}
use Rattle.conley_lefschetz.specs.Listing.{bytes_of}
use Rattle.conley_certificate_file.specs.Making.{ReadsUpTo}
use Rattle.conley_certificate_file.proofs.SetLemmas.{read_more, marked_here, label_here}
use Rattle.conley_certificate_file.proofs.sets.read_set.Goals as goal

pub loop-label-preserved : goal.loop-label-preserved
loop-label-preserved g c =
    let labels = c.args.complex.now.1.labels in
    let found = c.in-Some.ensures.some in
    let here = label_here labels c.args.set.now c.loop-label.label-index c.label-item.result c.as_str.result.now c.in-Some.x c.loop-label-test.true
    c.label-item.is c.as_str.ensures.value found.0 found.1 in
    let width : c.in-Some.x < length c.loop-label.seen.items = omega (arith, found.0, c.loop-label.invariant.width, c.requires) in
    rw c.in_ok-push.ensures.items
    (read_more labels c.cell_of.ensures.laws.distinct (bytes_of c.args.set.now) c.loop-label.label-index c.args.seen.now.items c.loop-label.seen.items
    c.loop-label.cells.items c.loop-label.invariant c.in-Some.x here width
    (λ m. false≢true (sym c.if-index.false ∙ sym (read_mark c.loop-label.seen.items c.in-Some.x c.index.result.now width c.index.ensures) ∙ m)))

pub returns-then-index-clause-none : goal.returns-then-index-clause-none
returns-then-index-clause-none g c =
    let labels = c.args.complex.now.1.labels in
    let found = c.in-Some.ensures.some in
    let here = label_here labels c.args.set.now c.loop-label.label-index c.label-item.result c.as_str.result.now c.in-Some.x c.loop-label-test.true
    c.label-item.is c.as_str.ensures.value found.0 found.1 in
    let width : c.in-Some.x < length c.loop-label.seen.items = omega (arith, found.0, c.loop-label.invariant.width, c.requires) in
    marked_here labels c.cell_of.ensures.laws.distinct (bytes_of c.args.set.now) c.loop-label.label-index c.args.seen.now.items c.loop-label.seen.items
    c.loop-label.cells.items c.loop-label.invariant c.in-Some.x here
    (read_mark c.loop-label.seen.items c.in-Some.x c.index.result.now width c.index.ensures ∙ c.if-index.true)

pub returns-clause-cells : goal.returns-clause-cells
returns-clause-cells g c =
    let set = c.args.set.now in
    let all : c.loop-label.label-index ≡ length (bytes_of set) = omega (
      arith,
      c.loop-label-test.false,
      c.loop-label.auto.label-index-end,
      length-map set string_bytes,
    ) in
    let some = eqb-false _ 0 (sym c.is_empty.ensures ∙ c.if-is_empty.false) in
    record {
      filled = λ empty. some (sym (length-map set string_bytes) ∙ ap length empty);
      read = subst (λ n. ReadsUpTo c.args.complex.now.1.labels (bytes_of set) n c.args.seen.now.items c.loop-label.seen.items c.loop-label.cells.items) all
          c.loop-label.invariant;
    }
