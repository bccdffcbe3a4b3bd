use Rattle.std.specs.Prelude.{IsTrue}
use Rattle.conley_first.proofs.FirstLemmas.{first-one}
use Rattle.conley_first.proofs.laws.first_is_one.Goals as goal

pub returns : goal.returns
returns g c = λ number place holds a b told. first-one number place (λ f. IsTrue (holds f)) told a b
