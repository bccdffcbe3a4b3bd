use Rattle.conley_lefschetz.proofs.ConleyLemmas.{regular_where_zero}
use Rattle.conley_lefschetz.proofs.laws.regular_sets_have_zeros.Goals as goal

pub returns : goal.returns
returns g c = regular_where_zero (g.met.F.Field.is_field c.args.complex.now.0) c.args.complex.now.1 c.field.ensures.laws
