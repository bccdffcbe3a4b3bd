use Rattle.std.proofs.Common.{arith, ◌≡◌, ◌<◌, ◌-◌, ◌∙◌, ap, sym, ℕ, List, [], get_or, Option}
use Rattle.conley_chains.specs.Chain.{coefficient, HasCodes}
use Rattle.conley_homology.specs.Own.{place_in, owner_at, IsChainFor}
use Rattle.conley_homology.proofs.ColumnLemmas.{chain-start, chain-more, chain_read, end-smaller, owned, IsOwned, chain-listed}
use Rattle.conley_homology.proofs.column.reduced_column.Given.{Over}
use Rattle.conley_homology.proofs.column.reduced_column.Goals as goal
use Rattle.conley_homology.proofs.column.reduced_column.Goals.{In-Some}

-- what is known of the owner of the place before the end
owned_at : (g : Over) (c : In-Some g) → IsOwned (g.met.F.Field.is_field c.args.field.now) c.args.cells.now.boundary.now c.args.cells.now.dims.now
    c.args.cells.now.set.now c.requires.complex
    c.requires.so_far.chain c.args.columns.now.kept.items c.args.columns.now.reduced.items c.args.i c.loop-source.end c.in-Some.source
owned_at g c =
    owned (g.met.F.Field.is_field c.args.field.now) c.args.cells.now.boundary.now c.args.cells.now.dims.now c.args.cells.now.set.now c.requires.complex
    c.args.columns.now.kept.items c.args.columns.now.reduced.items c.args.columns.now.owner.items c.args.i c.loop-source.end c.in-Some.source
    c.loop-source.invariant.0.chain (coefficient c.loop-source.reduced)
    c.requires.so_far c.loop-source.invariant.0.column c.loop-source.invariant.1.within c.loop-source.invariant.1.at (
      c.in-Some.ensures.some.0,
      (
        c.in-Some.ensures.some.1.0,
        ap (λ (xs : List (Option ℕ)). owner_at xs c.in-Some.ensures.some.0) (sym c.deref.ensures.value)
            ∙ c.in-Some.ensures.some.1.1,
      ),
    )

pub loop-source-init : goal.loop-source-init
loop-source-init g c = (
  chain-start (g.met.F.Field.is_field c.args.field.now) c.args.cells.now.boundary.now c.args.cells.now.dims.now c.args.cells.now.set.now c.requires.complex
      c.args.i c.in_ok-kept.kept c.in_ok-reduced.reduced
      c.requires.cell c.in_ok-kept.ensures.kept c.in_ok-kept.ensures.codes c.in_ok-reduced.ensures.own
      (c.in_ok-reduced.ensures.codes (g.F.Field.arithmetic c.args.field.now).order (c.requires.complex.codes (get_or c.args.cells.now.set.now c.args.i 0) []
      (c.requires.complex.cells c.args.i 0 c.requires.cell))),
  c.end_of-end.ensures,
)

pub index-other-requires : goal.index-other-requires
index-other-requires g c = omega (
  arith,
  (owned_at g (goal.at.index-other-requires g c).In-Some).source_is.within,
  c.requires.so_far.reduced_count,
  c.args.columns.now.reduced.ok.0,
)

more : (g : Over) (c : In-Some g) (by : ℕ) (reduced kept new_reduced new_kept : List (ℕ × ℕ))
    → reduced ≡ get_or c.args.columns.now.reduced.items c.in-Some.source reduced → kept ≡ get_or c.args.columns.now.kept.items c.in-Some.source kept
    → by < (g.F.Field.arithmetic c.args.field.now).order
    → ((x : ℕ) → coefficient new_kept x ≡ (g.F.Field.arithmetic c.args.field.now).add (coefficient c.loop-source.kept x)
    ((g.F.Field.arithmetic c.args.field.now).mul by (coefficient kept x)))
    → HasCodes (g.F.Field.arithmetic c.args.field.now) new_kept
    → ((x : ℕ) → coefficient new_reduced x ≡ (g.F.Field.arithmetic c.args.field.now).add (coefficient c.loop-source.reduced x)
    ((g.F.Field.arithmetic c.args.field.now).mul by (coefficient reduced x)))
    → HasCodes (g.F.Field.arithmetic c.args.field.now) new_reduced
    → IsChainFor (g.F.Field.arithmetic c.args.field.now) c.args.cells.now.boundary.now c.args.cells.now.dims.now c.args.cells.now.set.now
    c.args.cells.now.keeps c.args.i new_kept new_reduced
more g c by reduced kept new_reduced new_kept read_reduced read_kept by_below kept_sum kept_codes reduced_sum reduced_codes =
    chain-more (g.met.F.Field.is_field c.args.field.now) c.args.cells.now.boundary.now c.args.cells.now.dims.now c.args.cells.now.set.now c.requires.complex
    c.requires.so_far.chain c.args.columns.now.kept.items c.args.columns.now.reduced.items c.args.i (owned_at g c).place c.in-Some.source by c.loop-source.kept
    c.loop-source.reduced new_kept new_reduced
    c.requires.cell (owned_at g c).source_is (λ keeps. c.requires.so_far.is_kept keeps c.in-Some.source) c.loop-source.invariant.0 by_below
    (λ x. kept_sum x ∙ ap (λ (es : List (ℕ × ℕ)). (g.F.Field.arithmetic c.args.field.now).add (coefficient c.loop-source.kept x)
    ((g.F.Field.arithmetic c.args.field.now).mul by (coefficient es x))) (chain_read c.args.columns.now.kept.items c.in-Some.source kept
    (owned_at g c).kept_within read_kept))
    kept_codes
    (λ x. reduced_sum x ∙ ap (λ (es : List (ℕ × ℕ)). (g.F.Field.arithmetic c.args.field.now).add (coefficient c.loop-source.reduced x)
    ((g.F.Field.arithmetic c.args.field.now).mul by (coefficient es x))) (chain_read c.args.columns.now.reduced.items c.in-Some.source reduced
    (owned_at g c).reduced_within read_reduced))
    reduced_codes

pub multiple-by-requires-clause-source_codes : goal.multiple-by-requires-clause-source_codes
multiple-by-requires-clause-source_codes g c = (owned_at g (goal.at.multiple-by-requires-clause-source_codes g c).In-Some).reduced_codes
    c.index-other.result.now c.index-other.ensures

pub multiple-by-requires-clause-some : goal.multiple-by-requires-clause-some
multiple-by-requires-clause-some g c none =
    let w = (goal.at.multiple-by-requires-clause-some g c).In-Some in
    (owned_at g w).source_is.ends.lead (
    ap (λ (es : List (ℕ × ℕ)). coefficient es (place_in c.args.cells.now.set.now (owned_at g w).place))
    (sym (chain_read c.args.columns.now.reduced.items c.in-Some.source c.index-other.result.now (owned_at g w).reduced_within c.index-other.ensures))
    ∙ ap (coefficient c.index-other.result.now) (sym (owned_at g w).cell) ∙ none)

pub plus-requires-clause-other_codes : goal.plus-requires-clause-other_codes
plus-requires-clause-other_codes g c = (owned_at g (goal.at.plus-requires-clause-other_codes g c).In-Some).reduced_codes c.index-other.result.now
    c.index-other.ensures

pub index-requires : goal.index-requires
index-requires g c = omega (
  arith,
  (owned_at g (goal.at.index-requires g c).In-Some).source_is.within,
  c.requires.so_far.kept_count,
  c.args.columns.now.kept.ok.0,
)

pub plus-requires-in-Some-clause-other_codes : goal.plus-requires-in-Some-clause-other_codes
plus-requires-in-Some-clause-other_codes g c = (owned_at g (goal.at.plus-requires-in-Some-clause-other_codes g c).In-Some).kept_codes c.index.result.now
    c.index.ensures

pub end_of-end-requires-in-Some-clause-listed : goal.end_of-end-requires-in-Some-clause-listed
end_of-end-requires-in-Some-clause-listed g c =
    chain-listed (g.met.F.Field.is_field c.args.field.now) c.args.cells.now.boundary.now c.args.cells.now.dims.now c.args.cells.now.set.now c.requires.complex
    c.args.i c.in_ok-kept-2.kept c.in_ok-reduced-2.reduced
    (more g (goal.at.end_of-end-requires-in-Some-clause-listed g c).In-Some c.multiple-by.result c.index-other.result.now c.index.result.now
    c.in_ok-reduced-2.reduced c.in_ok-kept-2.kept
    c.index-other.ensures c.index.ensures c.multiple-by.ensures.below c.in_ok-kept-2.ensures.sum c.in_ok-kept-2.ensures.codes c.in_ok-reduced-2.ensures.sum
    c.in_ok-reduced-2.ensures.codes)

pub loop-source-smaller : goal.loop-source-smaller
loop-source-smaller g c =
    let w = (goal.at.loop-source-smaller g c).In-Some in
    let F = g.F.Field.arithmetic c.args.field.now in
    let p = (owned_at g w).place in
    let less =
    end-smaller (g.met.F.Field.is_field c.args.field.now) c.args.cells.now.boundary.now c.args.cells.now.dims.now c.args.cells.now.set.now c.requires.complex
    c.requires.so_far.chain c.args.columns.now.reduced.items c.args.i p c.in-Some.source c.multiple-by.result c.end_of-end-in-Some.result c.loop-source.reduced
    c.in_ok-reduced-2.reduced
    (owned_at g w).source_is (owned_at g w).below (c.loop-source.invariant.1.at p (owned_at g w).end_is)
    (λ x. c.in_ok-reduced-2.ensures.sum x ∙ ap (λ (es : List (ℕ × ℕ)). F.add (coefficient c.loop-source.reduced x)
    (F.mul c.multiple-by.result (coefficient es x))) (chain_read c.args.columns.now.reduced.items c.in-Some.source c.index-other.result.now
    (owned_at g w).reduced_within c.index-other.ensures))
    (ap (λ (es : List (ℕ × ℕ)). F.add (coefficient c.loop-source.reduced (place_in c.args.cells.now.set.now p))
    (F.mul c.multiple-by.result (coefficient es (place_in c.args.cells.now.set.now p))))
    (sym (chain_read c.args.columns.now.reduced.items c.in-Some.source c.index-other.result.now (owned_at g w).reduced_within c.index-other.ensures))
    ∙ ap (λ (x : ℕ). F.add (coefficient c.loop-source.reduced x) (F.mul c.multiple-by.result (coefficient c.index-other.result.now x)))
    (sym (owned_at g w).cell) ∙ c.multiple-by.ensures.clears)
    c.end_of-end-in-Some.ensures in
    omega (arith, less, (owned_at g w).end_is)

pub loop-source-preserved : goal.loop-source-preserved
loop-source-preserved g c = (
  more g (goal.at.loop-source-preserved g c).In-Some c.multiple-by.result c.index-other.result.now c.index.result.now c.in_ok-reduced-2.reduced
      c.in_ok-kept-2.kept
      c.index-other.ensures c.index.ensures c.multiple-by.ensures.below c.in_ok-kept-2.ensures.sum c.in_ok-kept-2.ensures.codes c.in_ok-reduced-2.ensures.sum
      c.in_ok-reduced-2.ensures.codes,
  c.end_of-end-in-Some.ensures,
)
