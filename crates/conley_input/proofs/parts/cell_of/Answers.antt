use Rattle.conley_input.proofs.TextLemmas.{cell_of-is}
use Rattle.conley_input.proofs.parts.cell_of.Goals as goal

pub returns-clause-cell : goal.returns-clause-cell
returns-clause-cell c = cell_of-is c.args.complex.now.1.labels c.args.label.now c.cell_of.result c.cell_of.ensures.some c.cell_of.ensures.none
    (λ i j less lt e. c.cell_of.ensures.laws.distinct i j (less, lt, e))
