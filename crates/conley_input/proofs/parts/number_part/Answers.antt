-- one more label
use Rattle.std.proofs.Common.{arith, ◌≡◌, ◌<◌, [], None, length, get_or, ap, sym, ◌∙◌, below_more}
use Rattle.std.proofs.lemmas.List.Elements.{All-push}
use Rattle.conley_lefschetz.specs.Listing.{bytes_of}
use Rattle.conley_lefschetz.proofs.TextLemmas.{label_at}
use Rattle.conley_input.specs.Listing.{cell_of}
use Rattle.conley_input.specs.declared.error.FileFault.TheVariants.{UnknownCell}
use Rattle.conley_input.proofs.TextLemmas.{numbers_more}
use Rattle.conley_input.proofs.parts.number_part.Goals as goal

pub returns-in-None-clause-err : goal.returns-in-None-clause-err
returns-in-None-clause-err c = λ fault e.
    let text = label_at c.args.part.now c.loop-place.place c.index-part-place.result c.loop-place-test.true c.index-part-place.is in
    let here : cell_of c.args.complex.now.1.labels (get_or (bytes_of c.args.part.now) c.loop-place.place []) ≡ None =
    ap (λ l. cell_of c.args.complex.now.1.labels l) (text ∙ sym c.as_str.ensures.value) ∙ sym c.cell_of.ensures.cell ∙ c.in-None.is in
    let told : fault ≡ UnknownCell c.args.list c.loop-place.place = cc (c.in_ok-list-in-None.ensures.ok, c.in_ok-place-in-None.ensures.ok) in
    (c.loop-place.place, told, (c.loop-place-test.true, here, c.loop-place.invariant.known))

pub loop-place-preserved : goal.loop-place-preserved
loop-place-preserved c =
    let text = label_at c.args.part.now c.loop-place.place c.index-part-place.result c.loop-place-test.true c.index-part-place.is in
    let some = ap (λ l. cell_of c.args.complex.now.1.labels l) (sym c.as_str.ensures.value) ∙ sym c.cell_of.ensures.cell ∙ c.in-Some.is in
    record {
      cells = rw c.in_ok-keep-in-Some.ensures (numbers_more c.args.complex.now.1.labels (length c.args.complex.now.1.labels) c.args.part.now c.loop-place.place
          c.index-part-place.result c.in-Some.cell c.loop-place.cells.items
          c.loop-place-test.true c.index-part-place.is some c.loop-place.invariant.cells);
      within = rw c.in_ok-keep-in-Some.ensures (All-push (λ x. x < length c.args.complex.now.1.dims) c.loop-place.cells.items c.in-Some.cell
          c.loop-place.invariant.within c.in-Some.ensures.within);
      known = below_more _ _ c.loop-place.invariant.known (λ none. let at = ap (λ l. cell_of c.args.complex.now.1.labels l) text in cc);
    }

pub returns-clause-known : goal.returns-clause-known
returns-clause-known c = λ j lt. c.loop-place.invariant.known j (omega arith)
