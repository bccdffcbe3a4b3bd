use Rattle.std.proofs.Common.{ℕ, List, [], get_or, ◌∙◌, ap, arith}
use Rattle.std.proofs.lemmas.List.{get_or_default}
use Rattle.conley_chains.specs.Chain.{coefficient}
use Rattle.conley_lefschetz.specs.Listing.{incidence_of}
use Rattle.conley_lefschetz.proofs.ColumnLemmas.{coefficient-unlisted}
use Rattle.conley_lefschetz.proofs.boundary.boundary_of.Goals as goal

pub from_columns-requires : goal.from_columns-requires
from_columns-requires c = λ x d lt row past.
    let is = get_or_default c.loop-x.columns.items x d [] lt ∙ c.loop-x.invariant.columns x (omega (arith, lt, c.loop-x.invariant.count)) in
    ap (λ (es : List (ℕ × ℕ)). coefficient es row) is
    ∙ coefficient-unlisted (incidence_of c.args.incidences.now x) (get_or c.args.faces.now x []) row
    (λ s. absurd (omega (arith, c.count-cells.ensures.order.digraph x row s, past, c.count-cells.ensures.count)))
