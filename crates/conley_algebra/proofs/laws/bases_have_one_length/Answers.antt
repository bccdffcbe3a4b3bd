use Rattle.std.specs.Prelude.{IsTrue}
use Rattle.conley_algebra.proofs.HomologyLemmas.{one_length}
use Rattle.conley_algebra.proofs.laws.bases_have_one_length.Goals as goal

pub returns : goal.returns
returns g c n boundary dim closure mouth =
    one_length (g.met.F.Field.is_field c.args.field.now) n boundary dim (λ x. IsTrue (closure x)) (λ x. IsTrue (mouth x))
