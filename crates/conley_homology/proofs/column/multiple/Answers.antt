use Rattle.conley_chains.proofs.ChainLemmas.{coefficient-below}
use Rattle.conley_homology.proofs.ColumnLemmas.{clears}
use Rattle.conley_chains.specs.Chain.{coefficient}
use Rattle.conley_homology.proofs.column.multiple.Goals as goal

pub inv-requires-clause-below : goal.inv-requires-clause-below
inv-requires-clause-below g c = rw c.entry-2.ensures (coefficient-below (g.met.F.Field.is_field c.args.field.now) c.args.source.now c.args.cell
    c.requires.source_codes)

pub mul-requires-clause-a_below : goal.mul-requires-clause-a_below
mul-requires-clause-a_below g c = rw c.entry.ensures (coefficient-below (g.met.F.Field.is_field c.args.field.now) c.args.target.now c.args.cell
    c.requires.target_codes)

pub returns-clause-clears : goal.returns-clause-clears
returns-clause-clears g c =
    let laws = g.met.F.Field.is_field c.args.field.now in
    rw (c.neg.ensures, c.mul.ensures, c.inv.ensures, c.entry.ensures, c.entry-2.ensures)
    (clears laws (coefficient c.args.target.now c.args.cell) (coefficient c.args.source.now c.args.cell)
    (coefficient-below laws c.args.target.now c.args.cell c.requires.target_codes)
    (coefficient-below laws c.args.source.now c.args.cell c.requires.source_codes) c.requires.some)
