use Rattle.std.proofs.Common.{arith, ◌≡◌, ℕ, List, length, subst}
use Rattle.conley_lefschetz.specs.Listing.{dim_in}
use Rattle.conley_homology.specs.Reduced.{IsFree}
use Rattle.conley_homology.specs.Own.{place_in, owner_at, vector_at}
use Rattle.conley_homology.proofs.PlaceLemmas.{length-most}
use Rattle.conley_homology.proofs.CollectedLemmas.{AreCounted, numbers-more}
use Rattle.conley_homology.proofs.RelativeLemmas.{own_complex, counted-AreConleyNumbers}
use Rattle.conley_homology.proofs.counting.of_columns.Goals as goal

pub eliminated-requires-clause-complex : goal.eliminated-requires-clause-complex
eliminated-requires-clause-complex g c =
    rw (c.field.ensures.field, c.boundary.ensures.boundary, c.dims.ensures.dims)
    (own_complex (g.met.F.Field.is_field c.args.complex.now.0) c.args.complex.now.1.boundary c.args.complex.now.1.dims c.args.complex.now.1.faces
    c.dims.ensures.laws.complex c.args.set.now c.requires.cells c.requires.closed)

pub count-requires-clause-few : goal.count-requires-clause-few
count-requires-clause-few g c =
    let complex = c.dims.ensures.laws.complex in
    omega (
      arith,
      length-most c.args.set.now (length c.args.complex.now.1.faces) c.requires.cells.ascending c.requires.cells.cells,
      complex.faces_count,
      complex.few,
    )

pub loop-level-preserved : goal.loop-level-preserved
loop-level-preserved g c =
    rw c.in_ok-push.ensures.items
    (numbers-more (IsFree (dim_in c.dims.result.now) (place_in c.args.set.now) (vector_at c.in_ok-columns.columns.reduced.items)
    (owner_at c.in_ok-columns.columns.owner.items))
    (length c.args.set.now) c.loop-level.level c.count.result c.loop-level.numbers.items c.loop-level.invariant c.count.ensures)

pub returns : goal.returns
returns g c =
    let kept = c.in_ok-columns.columns.kept.items in
    let reduced = c.in_ok-columns.columns.reduced.items in
    let owner = c.in_ok-columns.columns.owner.items in
    let all : c.loop-level.level ≡ c.args.complex.now.1.levels = omega (
      arith,
      c.loop-level-test.false,
      c.loop-level.auto.level-end,
      c.levels-levels.ensures.levels,
    ) in
    let counted = subst (λ (dims : List ℕ). AreCounted (IsFree (dim_in dims) (place_in c.args.set.now) (vector_at reduced) (owner_at owner))
    (length c.args.set.now) c.args.complex.now.1.levels c.loop-level.numbers.items) c.dims.ensures.dims
    (subst (λ (n : ℕ). AreCounted (IsFree (dim_in c.dims.result.now) (place_in c.args.set.now) (vector_at reduced) (owner_at owner)) (length c.args.set.now) n
    c.loop-level.numbers.items) all c.loop-level.invariant) in
    counted-AreConleyNumbers (g.met.F.Field.is_field c.args.complex.now.0) c.args.complex.now.1 c.dims.ensures.laws c.args.set.now c.requires.cells
    c.requires.closed kept reduced owner
    (rw (c.field.ensures.field, c.boundary.ensures.boundary, c.dims.ensures.dims) at c.in_ok-columns.ensures) c.loop-level.numbers.items counted
