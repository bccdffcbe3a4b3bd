use Rattle.conley_homotopy.specs.Laws.{Holds}
use Rattle.conley_homotopy.proofs.PairStepLemmas.{row_within, column_within, step-IsPairStep}
use Rattle.conley_homotopy.proofs.laws.pairs_are_taken_out.Goals as goal

pub returns : goal.returns
returns g c = λ below order L complex K Q unit under S m formulas.
    step-IsPairStep (g.met.F.Field.is_field c.args.field.now) {below = Holds below} order L complex K Q (column_within complex.matrix Q K unit)
    (row_within complex.matrix Q K unit) unit under S m formulas
