use Rattle.std.proofs.Common.{◌≡◌, ◌<◌, ℕ, [], Some, None, Err, length, get_or, refl, sym, ◌∙◌, ap, subst, arith}
use Rattle.std.proofs.lemmas.Result.{err_from_is_err_and}
use Rattle.conley_first.specs.Places.{FindsFirst}
use Rattle.conley_lefschetz.specs.Listing.{Listing, bytes_of}
use Rattle.conley_lefschetz.specs.Making.{column_of, AreFacesOf}
use Rattle.conley_lefschetz.specs.Fault.{IsFault, IsDuplicate, IsFirstFault}
use Rattle.conley_lefschetz.specs.declared.error.ComplexError.{ComplexError}
use Rattle.conley_lefschetz.specs.declared.error.ComplexError.TheVariants.{BadIncidence, NotBoundary}
use Rattle.conley_lefschetz.proofs.TextLemmas.{length-bytes_of}
use Rattle.conley_lefschetz.proofs.FaultLemmas.{first_duplicate, first_incidence, first_square, clear_duplicate, clear_incidence, accepted}
use Rattle.conley_lefschetz.proofs.ComplexLemmas.{scalar_from_stood, all_codes, is_complex, entries, square_finds}
use Rattle.conley_lefschetz.proofs.complex.Complex.new.Goals as goal

pub returns-in_err-names-clause-err : goal.returns-in_err-names-clause-err
returns-in_err-names-clause-err g c = λ error e ne.
    let l : Listing = record { labels = bytes_of c.args.labels.items; dims = c.args.dims.items; incidences = c.args.incidences.now } in
    let p = err_from_is_err_and c.from_residual-in_err-names.result c.from_residual-in_err-names.ensures.1 in
    let q = rw (p.1, p.2) at e in
    let same : c.in_err-names.field-0.0 ≡ error = cc in
    first_duplicate (g.F.Field.arithmetic c.args.field) l error ne (c.in_err-names.ensures.err error (ap (λ x. Err x) same))

pub returns-in-Some-clause-err : goal.returns-in-Some-clause-err
returns-in-Some-clause-err g c = λ error e ne.
    let F = g.F.Field.arithmetic c.args.field in
    let l : Listing = record { labels = bytes_of c.args.labels.items; dims = c.args.dims.items; incidences = c.args.incidences.now } in
    let found = subst (λ ds. FindsFirst (IsFault ds c.args.incidences.now) (Some (c.in-Some.k, c.in-Some.why))) c.deref.ensures.value
    (rw c.in-Some.is at c.in_ok-k.ensures.fault) in
    let same : BadIncidence c.in-Some.k c.in-Some.why ≡ error = cc in
    subst (λ (fault : ComplexError). IsFirstFault F l fault) same (first_incidence F l (clear_duplicate F l c.in_ok-names.ensures.distinct) c.in-Some.k
    c.in-Some.why found)

pub faces_of-requires-clause-faultless : goal.faces_of-requires-clause-faultless
faces_of-requires-clause-faultless g c =
    subst (λ ds. FindsFirst (IsFault ds c.args.incidences.now) None) (c.deref.ensures.value ∙ sym c.deref-2.ensures.value)
    (rw c.in_default.is at c.in_ok-k.ensures.fault)

pub boundary_of-requires-clause-not_zero : goal.boundary_of-requires-clause-not_zero
boundary_of-requires-clause-not_zero g c = λ x y s.
    let clear = rw c.in_default.is at c.in_ok-k.ensures.fault in
    scalar_from_stood c.deref.result.now c.args.incidences.now clear x y ((c.in_ok-faces.ensures.steps x y).0 s)

pub first_in_square-requires-clause-codes : goal.first_in_square-requires-clause-codes
first_in_square-requires-clause-codes g c =
    let clear = subst (λ ds. FindsFirst (IsFault ds c.args.incidences.now) None) (c.deref.ensures.value ∙ sym c.deref-2.ensures.value)
    (rw c.in_default.is at c.in_ok-k.ensures.fault) in
    let count = c.in_ok-faces.ensures.count in
    all_codes c.deref-2.result.now c.args.incidences.now clear c.in_ok-faces.faces c.in_ok-faces.ensures c.in_ok-matrix.matrix
    (c.in_ok-matrix.ensures.rows ∙ count) (c.in_ok-matrix.ensures.columns ∙ count)
    (λ x lt. c.in_ok-matrix.ensures.entries x (omega (arith, lt, count))) (g.F.Field.arithmetic c.args.field) c.requires.codes

pub returns-in-Some-2-clause-err : goal.returns-in-Some-2-clause-err
returns-in-Some-2-clause-err g c = λ error e ne.
    let F = g.F.Field.arithmetic c.args.field in
    let dims = c.args.dims.items in
    let is = c.args.incidences.now in
    let l : Listing = record { labels = bytes_of c.args.labels.items; dims = dims; incidences = is } in
    let clear = subst (λ ds. FindsFirst (IsFault ds is) None) c.deref.ensures.value (rw c.in_default.is at c.in_ok-k.ensures.fault) in
    let are = subst (λ ds. AreFacesOf is (length ds) c.in_ok-faces.faces) c.deref-2.ensures.value c.in_ok-faces.ensures in
    let m = c.in_ok-matrix.matrix in
    let found = rw c.in-Some-2.is at c.in_ok-x.ensures in
    let found' = square_finds dims is clear c.in_ok-faces.faces are m (c.in_ok-matrix.ensures.rows ∙ are.count) (c.in_ok-matrix.ensures.columns ∙ are.count)
    (λ x lt. c.in_ok-matrix.ensures.entries x (omega (arith, lt, are.count))) F (g.met.F.Field.is_field c.args.field) (Some (c.in-Some-2.x, c.in-Some-2.z))
    found in
    let same : NotBoundary c.in-Some-2.x c.in-Some-2.z ≡ error = cc in
    subst (λ (fault : ComplexError). IsFirstFault F l fault) same (first_square F l (clear_incidence F l (clear_duplicate F l c.in_ok-names.ensures.distinct)
    clear) c.in-Some-2.x c.in-Some-2.z found')

pub invariant_of-result : goal.invariant_of-result
invariant_of-result g c =
    let F = g.F.Field.arithmetic c.args.field in
    let dims = c.args.dims.items in
    let is = c.args.incidences.now in
    let clear = subst (λ ds. FindsFirst (IsFault ds is) None) c.deref.ensures.value (rw c.in_default.is at c.in_ok-k.ensures.fault) in
    let are = subst (λ ds. AreFacesOf is (length ds) c.in_ok-faces.faces) c.deref-2.ensures.value c.in_ok-faces.ensures in
    let m = c.in_ok-matrix.matrix in
    let none = rw c.in_default-2.is at c.in_ok-x.ensures in
    let texts = c.in_ok-names.ensures.labels in
    record {
      complex = is_complex dims is clear c.in_ok-faces.faces are m (c.in_ok-matrix.ensures.rows ∙ are.count) (c.in_ok-matrix.ensures.columns ∙ are.count)
          (λ x lt. c.in_ok-matrix.ensures.entries x (omega (arith, lt, are.count))) F (omega
          (arith, c.in_ok-can_number.ensures.few, c.len.ensures, c.requires.count, c.args.labels.ok.0)) c.requires.codes none;
      labels_count = ap length texts ∙ length-bytes_of c.args.labels.items ∙ c.requires.count;
      distinct = subst (λ ls. (i j : ℕ) → IsDuplicate ls i j → ⊥) (sym texts) c.in_ok-names.ensures.distinct;
      levels = rw (← c.deref-3.ensures.value) c.levels_of-levels.ensures;
    }

pub returns-clause-ok : goal.returns-clause-ok
returns-clause-ok g c =
    let F = g.F.Field.arithmetic c.args.field in
    let dims = c.args.dims.items in
    let is = c.args.incidences.now in
    let l : Listing = record { labels = bytes_of c.args.labels.items; dims = dims; incidences = is } in
    let clear = subst (λ ds. FindsFirst (IsFault ds is) None) c.deref.ensures.value (rw c.in_default.is at c.in_ok-k.ensures.fault) in
    let are = subst (λ ds. AreFacesOf is (length ds) c.in_ok-faces.faces) c.deref-2.ensures.value c.in_ok-faces.ensures in
    let m = c.in_ok-matrix.matrix in
    let rows = c.in_ok-matrix.ensures.rows ∙ are.count in
    let count = c.in_ok-matrix.ensures.columns ∙ are.count in
    let columns : (x : ℕ) → x < length dims → get_or m.columns x [] ≡ column_of is x (get_or c.in_ok-faces.faces x []) =
    λ x lt. c.in_ok-matrix.ensures.entries x (omega (arith, lt, are.count)) in
    let none = rw c.in_default-2.is at c.in_ok-x.ensures in
    let none' = square_finds dims is clear c.in_ok-faces.faces are m rows count columns F (g.met.F.Field.is_field c.args.field) None none in
    record {
      accepted = accepted F l (clear_incidence F l (clear_duplicate F l c.in_ok-names.ensures.distinct) clear) none';
      labels = c.in_ok-names.ensures.labels;
      dims = refl;
      boundary = entries dims is clear c.in_ok-faces.faces are m rows count columns;
    }
