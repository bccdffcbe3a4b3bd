use Rattle.conley_homology.proofs.ColumnLemmas.{IsEnd-last}
use Rattle.conley_homology.proofs.column.end_of.Goals as goal

pub returns-in-Some-place_of : goal.returns-in-Some-place_of
returns-in-Some-place_of c =
    IsEnd-last c.args.set.now c.args.chain.now c.in-Some.e c.in-Some-place_of.place c.requires.ascending c.requires.listed c.in-Some.ensures.some
    c.in-Some-place_of.ensures.some.0 c.in-Some-place_of.ensures.some.1
