use Rattle.std.proofs.Common.{arith, ◌≡◌, inl, inr, ◌<◌, ◌≤◌, ◌+◌, ◌-◌, ◌∙◌, ap, sym, subst, ℕ, List, length, get_or, Option}
use Rattle.std.specs.Prelude.{slice_index}
use Rattle.std.proofs.lemmas.Bool.{cases_eq, cases_lt}
use Rattle.std.proofs.lemmas.List.{get_or_default}
use Rattle.conley_chains.specs.Chain.{coefficient}
use Rattle.conley_chains.proofs.ChainLemmas.{coefficient-below}
use Rattle.conley_homology.specs.Reduced.{IsUpTo}
use Rattle.conley_homology.specs.Own.{place_in, owner_at}
use Rattle.conley_homology.proofs.ColumnLemmas.{chain_read, owned, IsOwned}
use Rattle.conley_homology.proofs.RowLemmas.{row-more, row-end}
use Rattle.conley_homology.proofs.row.reduced_row.Given.{Over}
use Rattle.conley_homology.proofs.row.reduced_row.Goals as goal
use Rattle.conley_homology.proofs.row.reduced_row.Goals.{In-Some}

-- what is known of the owner of the place before the end
owned_at : (g : Over) (c : In-Some g) → IsOwned (g.met.F.Field.is_field c.args.field.now) c.args.cells.now.boundary.now c.args.cells.now.dims.now
    c.args.cells.now.set.now c.requires.complex
    c.requires.so_far.chain c.args.columns.now.kept.items c.args.columns.now.reduced.items c.args.i c.loop-source.end c.in-Some.source
owned_at g c =
    owned (g.met.F.Field.is_field c.args.field.now) c.args.cells.now.boundary.now c.args.cells.now.dims.now c.args.cells.now.set.now c.requires.complex
    c.args.columns.now.kept.items c.args.columns.now.reduced.items c.args.columns.now.owner.items c.args.i c.loop-source.end c.in-Some.source
    c.loop-source.invariant.chain (slice_index c.loop-source.row)
    c.requires.so_far c.loop-source.invariant.column c.loop-source.invariant.within
    (λ p end_is. record {
      lead = c.loop-source.invariant.lead p end_is;
      support = λ x some. subst (λ (k : ℕ). IsUpTo (place_in c.args.cells.now.set.now) k x) end_is (c.loop-source.invariant.upto x some);
    }) (
      c.in-Some.ensures.some.0,
      (
        c.in-Some.ensures.some.1.0,
        ap (λ (xs : List (Option ℕ)). owner_at xs c.in-Some.ensures.some.0) (sym c.deref.ensures.value)
            ∙ c.in-Some.ensures.some.1.1,
      ),
    )

cell_within : (g : Over) (c : In-Some g) → get_or c.args.cells.now.set.now (c.loop-source.end - 1) 0 < length c.loop-source.row
cell_within g c =
    let cell = c.requires.complex.cells (owned_at g c).place 0 (owned_at g c).below in
    omega (arith, cell, (owned_at g c).cell, c.requires.complex.dims_count, c.loop-source.invariant.width)

-- the source has no code beyond the cells
ends_within : (g : Over) (c : In-Some g) (es : List (ℕ × ℕ)) → es ≡ get_or c.args.columns.now.reduced.items c.in-Some.source es → (x : ℕ)
    → length c.loop-source.row ≤ x → coefficient es x ≡ 0
ends_within g c es read x beyond = elim (cases_eq (coefficient es x) 0) [
  | inl none ↦ none
  | inr some ↦
      let at = (owned_at g c).source_is.ends.support x (λ none. some (ap (λ (xs : List (ℕ × ℕ)). coefficient xs x)
      (chain_read c.args.columns.now.reduced.items c.in-Some.source es (owned_at g c).reduced_within read) ∙ none)) in
      let cell = c.requires.complex.cells at.0 0 (omega (arith, at.1.0, (owned_at g c).below)) in
      absurd (omega (arith, cell, at.1.1, beyond, c.requires.complex.dims_count, c.loop-source.invariant.width))
]

pub index-other-requires : goal.index-other-requires
index-other-requires g c = omega (
  arith,
  (owned_at g (goal.at.index-other-requires g c).In-Some).source_is.within,
  c.requires.so_far.reduced_count,
  c.args.columns.now.reduced.ok.0,
)

pub multiple_of-by-requires-clause-code_below : goal.multiple_of-by-requires-clause-code_below
multiple_of-by-requires-clause-code_below g c =
    let w = (goal.at.multiple_of-by-requires-clause-code_below g c).In-Some in
    subst (λ (t : ℕ). t < (g.F.Field.arithmetic c.args.field.now).order) (sym c.index-row-cell.is)
    (c.loop-source.invariant.codes (get_or c.args.cells.now.set.now (c.loop-source.end - 1) 0) c.index-row-cell.result (cell_within g w))

pub multiple_of-by-requires-clause-source_below : goal.multiple_of-by-requires-clause-source_below
multiple_of-by-requires-clause-source_below g c =
    let w = (goal.at.multiple_of-by-requires-clause-source_below g c).In-Some in
    rw c.entry.ensures
    (coefficient-below (g.met.F.Field.is_field c.args.field.now) c.index-other.result.now (get_or c.args.cells.now.set.now (c.loop-source.end - 1) 0)
    ((owned_at g w).reduced_codes c.index-other.result.now c.index-other.ensures))

pub multiple_of-by-requires-clause-some : goal.multiple_of-by-requires-clause-some
multiple_of-by-requires-clause-some g c none =
    let w = (goal.at.multiple_of-by-requires-clause-some g c).In-Some in
    (owned_at g w).source_is.ends.lead (
    ap (λ (es : List (ℕ × ℕ)). coefficient es (place_in c.args.cells.now.set.now (owned_at g w).place))
    (sym (chain_read c.args.columns.now.reduced.items c.in-Some.source c.index-other.result.now (owned_at g w).reduced_within c.index-other.ensures))
    ∙ ap (coefficient c.index-other.result.now) (sym (owned_at g w).cell) ∙ sym c.entry.ensures ∙ none)

pub add_to-requires-clause-codes : goal.add_to-requires-clause-codes
add_to-requires-clause-codes g c = (owned_at g (goal.at.add_to-requires-clause-codes g c).In-Some).reduced_codes c.index-other.result.now c.index-other.ensures

pub add_to-requires-clause-within : goal.add_to-requires-clause-within
add_to-requires-clause-within g c = ends_within g (goal.at.add_to-requires-clause-within g c).In-Some c.index-other.result.now c.index-other.ensures

pub index-requires : goal.index-requires
index-requires g c = omega (
  arith,
  (owned_at g (goal.at.index-requires g c).In-Some).source_is.within,
  c.requires.so_far.kept_count,
  c.args.columns.now.kept.ok.0,
)

pub plus-requires-clause-other_codes : goal.plus-requires-clause-other_codes
plus-requires-clause-other_codes g c = (owned_at g (goal.at.plus-requires-clause-other_codes g c).In-Some).kept_codes c.index.result.now c.index.ensures

pub loop-source-preserved : goal.loop-source-preserved
loop-source-preserved g c =
    let w = (goal.at.loop-source-preserved g c).In-Some in
    let F = g.F.Field.arithmetic c.args.field.now in
    let by = c.multiple_of-by.result in
    let kept_is = chain_read c.args.columns.now.kept.items c.in-Some.source c.index.result.now (owned_at g w).kept_within c.index.ensures in
    let reduced_is = chain_read c.args.columns.now.reduced.items c.in-Some.source c.index-other.result.now (owned_at g w).reduced_within c.index-other.ensures
    in
    row-more (g.met.F.Field.is_field c.args.field.now) c.args.cells.now.boundary.now c.args.cells.now.dims.now c.args.cells.now.set.now c.requires.complex
    c.args.i
    c.requires.so_far.chain c.args.columns.now.kept.items c.args.columns.now.reduced.items (owned_at g w).place c.in-Some.source by c.loop-source.kept
    c.in_ok-kept.kept c.loop-source.row c.add_to.new.row
    c.loop-source.end c.end_in-end.result c.requires.cell (owned_at g w).source_is (λ keeps. c.requires.so_far.is_kept keeps c.in-Some.source)
    c.loop-source.invariant (owned_at g w).end_is c.multiple_of-by.ensures.below
    (λ x. c.in_ok-kept.ensures.sum x ∙ ap (λ (es : List (ℕ × ℕ)). F.add (coefficient c.loop-source.kept x) (F.mul by (coefficient es x))) kept_is)
    c.in_ok-kept.ensures.codes
    (λ x. c.add_to.ensures.sum x ∙ ap (λ (es : List (ℕ × ℕ)). F.add (slice_index c.loop-source.row x) (F.mul by (coefficient es x))) reduced_is)
    c.add_to.auto.row c.add_to.ensures.row_codes
    c.end_in-end.ensures.within c.end_in-end.ensures.past c.end_in-end.ensures.lead

pub loop-source-smaller : goal.loop-source-smaller
loop-source-smaller g c =
    let w = (goal.at.loop-source-smaller g c).In-Some in
    let F = g.F.Field.arithmetic c.args.field.now in
    let p = (owned_at g w).place in
    let cell = get_or c.args.cells.now.set.now (c.loop-source.end - 1) 0 in
    let most = c.end_in-end.ensures.within in
    let code : c.index-row-cell.result ≡ slice_index c.loop-source.row cell = c.index-row-cell.is
    ∙ get_or_default c.loop-source.row cell c.index-row-cell.result 0 (cell_within g w) in
    let cleared : slice_index c.add_to.new.row cell ≡ 0 =
    c.add_to.ensures.sum cell ∙ ap (λ (t : ℕ). F.add t (F.mul c.multiple_of-by.result (coefficient c.index-other.result.now cell))) (sym code)
    ∙ ap (λ (t : ℕ). F.add c.index-row-cell.result (F.mul c.multiple_of-by.result t)) (sym c.entry.ensures) ∙ c.multiple_of-by.ensures.clears in
    elim (cases_lt c.end_in-end.result c.loop-source.end) [
      | inl less ↦ less
      | inr more ↦
          let same : c.end_in-end.result ≡ p + 1 = omega (arith, (owned_at g w).end_is) in
          absurd (c.end_in-end.ensures.lead p same (ap (slice_index c.add_to.new.row) (sym (owned_at g w).cell) ∙ cleared))
    ]

pub returns-clause-end : goal.returns-clause-end
returns-clause-end g c =
    row-end (g.met.F.Field.is_field c.args.field.now) c.args.cells.now.boundary.now c.args.cells.now.dims.now c.args.cells.now.set.now c.requires.complex
    c.args.i
    c.loop-source.kept c.in_ok-reduced.reduced c.loop-source.row c.loop-source.end c.loop-source.invariant c.in_ok-reduced.ensures.places
    c.in_ok-reduced.ensures.chain
