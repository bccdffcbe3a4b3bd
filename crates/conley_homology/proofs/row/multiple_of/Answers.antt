use Rattle.conley_homology.proofs.ColumnLemmas.{clears}
use Rattle.conley_homology.proofs.row.multiple_of.Goals as goal

pub returns-clause-clears : goal.returns-clause-clears
returns-clause-clears g c =
    rw (c.neg.ensures, c.mul.ensures, c.inv.ensures) (clears (g.met.F.Field.is_field c.args.field.now) c.args.code c.args.source c.requires.code_below
    c.requires.source_below c.requires.some)
