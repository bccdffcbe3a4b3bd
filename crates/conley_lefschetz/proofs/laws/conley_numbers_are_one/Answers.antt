use Rattle.conley_lefschetz.proofs.ConleyLemmas.{numbers_are_one}
use Rattle.conley_lefschetz.proofs.laws.conley_numbers_are_one.Goals as goal

pub returns : goal.returns
returns g c = numbers_are_one (g.met.F.Field.is_field c.args.complex.now.0) c.args.complex.now.1
