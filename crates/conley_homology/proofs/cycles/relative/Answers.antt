use Rattle.std.proofs.Common.{arith, ◌≡◌, ℕ, List, length, get_or, subst, refl}
use Rattle.conley_lefschetz.specs.Listing.{dim_in}
use Rattle.conley_lefschetz.proofs.ConleyLemmas.{one_length, regular_where_zero}
use Rattle.conley_homology.specs.Reduced.{IsFree}
use Rattle.conley_homology.specs.Own.{place_in, owner_at, vector_at}
use Rattle.conley_homology.specs.Homology.{cycle_at}
use Rattle.conley_homology.proofs.PlaceLemmas.{length-most}
use Rattle.conley_homology.proofs.CollectedLemmas.{IsGathered, gathered-more}
use Rattle.conley_homology.proofs.RelativeLemmas.{own_complex, gathered-IsHomology}
use Rattle.conley_homology.proofs.cycles.relative.Goals as goal

pub eliminated-requires-clause-complex : goal.eliminated-requires-clause-complex
eliminated-requires-clause-complex g c =
    rw (c.field.ensures.field, c.boundary.ensures.boundary, c.dims.ensures.dims)
    (own_complex (g.met.F.Field.is_field c.args.complex.now.0) c.args.complex.now.1.boundary c.args.complex.now.1.dims c.args.complex.now.1.faces
    c.dims.ensures.laws.complex c.args.set.now c.requires.cells c.requires.closed)

pub collect-requires-clause-few : goal.collect-requires-clause-few
collect-requires-clause-few g c =
    let complex = c.dims.ensures.laws.complex in
    omega (
      arith,
      length-most c.args.set.now (length c.args.complex.now.1.faces) c.requires.cells.ascending c.requires.cells.cells,
      complex.faces_count,
      complex.few,
    )

pub loop-level-preserved : goal.loop-level-preserved
loop-level-preserved g c =
    rw c.in_ok-push.ensures.items
    (gathered-more c.in_ok-columns.columns.kept.items (IsFree (dim_in c.dims.result.now) (place_in c.args.set.now)
    (vector_at c.in_ok-columns.columns.reduced.items) (owner_at c.in_ok-columns.columns.owner.items))
    (length c.args.set.now) c.loop-level.level c.in_ok-collect.field-0 c.loop-level.numbers.items c.loop-level.cycles.items c.collect.new.cycles.items
    c.loop-level.invariant c.in_ok-collect.ensures)

pub returns-clause-cycles : goal.returns-clause-cycles
returns-clause-cycles g c =
    let kept = c.in_ok-columns.columns.kept.items in
    let reduced = c.in_ok-columns.columns.reduced.items in
    let owner = c.in_ok-columns.columns.owner.items in
    let all : c.loop-level.level ≡ c.args.complex.now.1.levels = omega (
      arith,
      c.loop-level-test.false,
      c.loop-level.auto.level-end,
      c.levels-levels.ensures.levels,
    ) in
    let gathered = subst (λ (dims : List ℕ). IsGathered kept (IsFree (dim_in dims) (place_in c.args.set.now) (vector_at reduced) (owner_at owner))
    (length c.args.set.now) c.args.complex.now.1.levels c.loop-level.numbers.items c.loop-level.cycles.items) c.dims.ensures.dims
    (subst (λ (n : ℕ). IsGathered kept (IsFree (dim_in c.dims.result.now) (place_in c.args.set.now) (vector_at reduced) (owner_at owner))
    (length c.args.set.now) n c.loop-level.numbers.items c.loop-level.cycles.items) all c.loop-level.invariant) in
    gathered-IsHomology (g.met.F.Field.is_field c.args.complex.now.0) c.args.complex.now.1 c.dims.ensures.laws c.args.set.now c.requires.cells
    c.requires.closed kept reduced owner
    (rw (c.field.ensures.field, c.boundary.ensures.boundary, c.dims.ensures.dims) at c.in_ok-columns.ensures) refl c.loop-level.numbers.items
    c.loop-level.cycles.items gathered

pub returns-clause-numbers : goal.returns-clause-numbers
returns-clause-numbers g c =
    let homology = returns-clause-cycles g c in
    record {
      levels_count = homology.levels_count;
      basis = λ k below. (
        cycle_at c.loop-level.numbers.items c.loop-level.cycles.items k,
        homology.basis k below,
      );
    }

pub returns-clause-regular : goal.returns-clause-regular
returns-clause-regular g c =
    regular_where_zero (g.met.F.Field.is_field c.args.complex.now.0) c.args.complex.now.1 c.dims.ensures.laws c.args.set.now c.loop-level.numbers.items
    (returns-clause-numbers g c)

pub returns-clause-one_length : goal.returns-clause-one_length
returns-clause-one_length g c = λ k r z below basis.
    one_length (g.met.F.Field.is_field c.args.complex.now.0) c.args.complex.now.1 c.args.set.now k r (get_or c.loop-level.numbers.items k 0) z
    (cycle_at c.loop-level.numbers.items c.loop-level.cycles.items k) basis
    ((returns-clause-cycles g c).basis k below)
