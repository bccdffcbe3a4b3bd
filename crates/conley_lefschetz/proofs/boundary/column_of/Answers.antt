use Rattle.std.proofs.Common.{sym, ◌∙◌, subst, ap, arith}
use Rattle.std.proofs.lemmas.List.{take_all}
use Rattle.conley_chains.specs.Chain.{IsChain}
use Rattle.conley_lefschetz.specs.Listing.{incidence_of}
use Rattle.conley_lefschetz.specs.Making.{column_of}
use Rattle.conley_lefschetz.proofs.ColumnLemmas.{pairs_chain}
use Rattle.conley_lefschetz.proofs.boundary.column_of.Goals as goal

pub from_pairs-requires : goal.from_pairs-requires
from_pairs-requires c =
    let whole = take_all c.loop-y.y-index c.args.direct.now (omega (arith, c.loop-y-test.false)) in
    let e = c.deref.ensures.value ∙ c.loop-y.invariant ∙ ap (column_of c.args.incidences.now c.args.x) whole in
    subst IsChain (sym e) (pairs_chain (incidence_of c.args.incidences.now c.args.x) c.args.direct.now c.requires.ascending c.requires.not_zero)
