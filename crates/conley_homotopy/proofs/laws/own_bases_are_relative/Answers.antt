use Rattle.std.specs.Prelude.{IsTrue}
use Rattle.conley_homotopy.proofs.ExcisionLemmas.{excision}
use Rattle.conley_homotopy.proofs.laws.own_bases_are_relative.Goals as goal

pub returns : goal.returns
returns g c = λ n d dim inside closure mouth shape k r z basis.
    excision (g.met.F.Field.is_field c.args.field.now) n d dim inside (λ x. IsTrue (closure x)) (λ x. IsTrue (mouth x)) shape k r z basis
