use Rattle.conley_homotopy.specs.Laws.{Holds}
use Rattle.conley_homotopy.proofs.ComposeLemmas.{composed-IsGradedEquivalence}
use Rattle.conley_homotopy.proofs.ReductionLemmas.{identity-IsGradedEquivalence}
use Rattle.conley_homotopy.proofs.laws.equivalences_compose.Goals as goal

pub returns : goal.returns
returns g c = record {
  composition = λ below order. composed-IsGradedEquivalence (g.met.F.Field.is_field c.args.field.now) {below = Holds below} order;
  identity = λ below order. identity-IsGradedEquivalence (g.met.F.Field.is_field c.args.field.now) {below = Holds below} order;
}
