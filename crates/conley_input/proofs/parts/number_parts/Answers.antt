-- one more part
use Rattle.std.proofs.Common.{arith, ◌≡◌, ℕ, List, [], Some, None, Err, map, length, get_or, ap, sym, ◌∙◌, inl, inr, subst}
use Rattle.std.proofs.lemmas.Bool.{cases_order}
use Rattle.std.proofs.lemmas.List.{length-map}
use Rattle.std.proofs.lemmas.Result.{err_from_is_err_and}
use Rattle.conley_lefschetz.specs.Listing.{bytes_of}
use Rattle.conley_lefschetz.proofs.TextLemmas.{length-bytes_of}
use Rattle.conley_json.specs.Meaning.{texts}
use Rattle.conley_json.proofs.MeaningLemmas.{texts_at}
use Rattle.conley_first.specs.Places.{FindsFirstPlace}
use Rattle.conley_input.specs.Listing.{cell_of}
use Rattle.conley_input.specs.Refusals.{IsUnknown}
use Rattle.conley_input.specs.declared.error.InputError.TheVariants as InputError
use Rattle.conley_input.proofs.TextLemmas.{unknown_here, known_here, known_past, lists_more, within_more}
use Rattle.conley_input.proofs.parts.number_parts.Goals as goal

pub returns-in_err-cells-clause-err : goal.returns-in_err-cells-clause-err
returns-in_err-cells-clause-err c = λ fault e.
    let p = err_from_is_err_and c.from_residual.result c.from_residual.ensures.1 in
    let q = rw (p.1, p.2) at e in
    let same : c.in_err-cells.field-0.0 ≡ InputError.Bad fault = cc in
    let found = c.in_err-cells.ensures.err fault (ap (λ x. Err x) same) in
    let labels : List (List ℕ) = c.args.complex.now.1.labels in
    let row : List (List ℕ) = bytes_of c.deref.result.now in
    let at : get_or (map texts c.args.parts.now) c.loop-list.list [] ≡ row = texts_at c.args.parts.now c.loop-list.list c.index-parts-list.result
    c.loop-list-test.true c.index-parts-list.is ∙ ap bytes_of (sym c.deref.ensures.value) in
    let found' = subst (λ n. FindsFirstPlace n (λ k. cell_of labels (get_or row k []) ≡ None) (Some found.0)) (sym (length-bytes_of c.deref.result.now))
    found.2 in
    (c.loop-list.list, found.0, found.1, unknown_here labels (map texts c.args.parts.now) c.loop-list.list row at found.0 found' c.loop-list.invariant.known)

pub loop-list-preserved : goal.loop-list-preserved
loop-list-preserved c =
    let labels : List (List ℕ) = c.args.complex.now.1.labels in
    let row : List (List ℕ) = bytes_of c.deref.result.now in
    let at : get_or (map texts c.args.parts.now) c.loop-list.list [] ≡ row = texts_at c.args.parts.now c.loop-list.list c.index-parts-list.result
    c.loop-list-test.true c.index-parts-list.is ∙ ap bytes_of (sym c.deref.ensures.value) in
    let none = subst (λ n. FindsFirstPlace n (λ k. cell_of labels (get_or row k []) ≡ None) None) (sym (length-bytes_of c.deref.result.now))
    c.in_ok-cells.ensures.known in
    let here = known_here labels (map texts c.args.parts.now) c.loop-list.list row at none in
    record {
      lists = rw c.in_ok-keep.ensures (lists_more labels (length labels) c.args.parts.now c.loop-list.list c.index-parts-list.result c.in_ok-cells.cells
          c.loop-list.lists.items c.loop-list-test.true c.index-parts-list.is
          (rw c.deref.ensures.value at c.in_ok-cells.ensures.ok) c.loop-list.invariant.lists);
      within = rw c.in_ok-keep.ensures (within_more (length c.args.complex.now.1.dims) c.loop-list.lists.items c.in_ok-cells.cells c.loop-list.invariant.within
          c.in_ok-cells.ensures.within);
      known = λ j q lt. elim (cases_order j c.loop-list.list) [
        | inl same ↦ subst (λ i. ¬ IsUnknown labels (map texts c.args.parts.now) i q) (sym same) (here q)
        | inr other ↦ elim other [ inl less ↦ c.loop-list.invariant.known j q less | inr more ↦ absurd (omega arith) ]
      ];
    }

pub returns-clause-known : goal.returns-clause-known
returns-clause-known c = known_past _ _ c.loop-list.list (rw length-map (omega (arith, c.loop-list-test.false))) c.loop-list.invariant.known
