use Rattle.std.proofs.Common.{arith, ◌≡◌, inl, inr, ◌<◌, ◌∙◌, ap, sym, subst, ℕ, List, length, get_or}
use Rattle.std.proofs.lemmas.Bool.{cases_eq}
use Rattle.std.proofs.lemmas.List.{get_or_default}
use Rattle.conley_algebra.proofs.SumLemmas as sums
use Rattle.conley_chains.specs.Chain.{coefficient}
use Rattle.conley_lists.proofs.ListLemmas.{lent_whole}
use Rattle.conley_homology.proofs.PlaceLemmas.{listed_place}
use Rattle.conley_homology.proofs.ColumnLemmas.{chain-listed}
use Rattle.conley_homology.proofs.RowLemmas.{row-start}
use Rattle.conley_homology.proofs.row.reduced_as_row.Goals as goal

pub add_to-requires-clause-within : goal.add_to-requires-clause-within
add_to-requires-clause-within g c x beyond = elim (cases_eq (coefficient c.args.column.reduced x) 0) [
  | inl none ↦ none
  | inr some ↦
      let complex = c.requires.complex in
      let at = listed_place c.args.cells.now.set.now x (chain-listed (g.met.F.Field.is_field c.args.field.now) c.args.cells.now.boundary.now
      c.args.cells.now.dims.now c.args.cells.now.set.now complex c.args.i
      c.args.column.kept c.args.column.reduced c.requires.chains x some) in
      let cell = complex.cells at.0 0 at.1.0 in
      absurd (omega (arith, cell, at.1.1, beyond, complex.dims_count, c.in_ok-row.ensures.count, ap length c.deref_mut.ensures.value))
]

pub add_to-requires-clause-row_codes : goal.add_to-requires-clause-row_codes
add_to-requires-clause-row_codes g c =
    rw c.deref_mut.ensures.value (λ k d within.
    subst (λ (t : ℕ). t < (g.F.Field.arithmetic c.args.field.now).order) (sym (get_or_default c.in_ok-row.row.items k d 0 within ∙ c.in_ok-row.ensures.zero k))
    (sums.zero_below (g.met.F.Field.is_field c.args.field.now)))

pub reduced_row-requires : goal.reduced_row-requires
reduced_row-requires g c =
    let F = g.F.Field.arithmetic c.args.field.now in
    let old = c.in_ok-row.row.items in
    let new = c.add_to.new.row in
    let width : length new ≡ length old = c.add_to.auto.row ∙ ap length c.deref_mut.ensures.value in
    let whole : length old ≡ c.in_ok-row.row.len = omega (arith, c.in_ok-row.row.ok.0) in
    rw (c.deref_mut-2.ensures.value, lent_whole new old c.in_ok-row.row.len (width ∙ whole) whole) (record {
      complex = c.requires.complex;
      so_far = c.requires.so_far;
      cell = c.requires.cell;
      row = row-start (g.met.F.Field.is_field c.args.field.now) c.args.cells.now.boundary.now c.args.cells.now.dims.now c.args.cells.now.set.now
          c.requires.complex c.args.i
          c.args.column.kept c.args.column.reduced new c.args.column.end c.requires.chains c.requires.end
          (λ x. c.add_to.ensures.sum x ∙ ap (λ (t : ℕ). F.add t (F.mul c.one.result (coefficient c.args.column.reduced x)))
          (ap (λ (xs : List ℕ). get_or xs x 0) c.deref_mut.ensures.value ∙ c.in_ok-row.ensures.zero x)
          ∙ ap (λ (t : ℕ). F.add 0 (F.mul t (coefficient c.args.column.reduced x))) c.one.ensures)
          (width ∙ c.in_ok-row.ensures.count) c.add_to.ensures.row_codes;
    })
