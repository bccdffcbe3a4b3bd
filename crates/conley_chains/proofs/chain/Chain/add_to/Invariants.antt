use Rattle.conley_chains.proofs.RowLemmas.{IsRowPlus}
use Rattle.conley_chains.proofs.chain.Chain.add_to.Given as goal

abbrev pub invariant-loop-e : goal.invariant-loop-e
invariant-loop-e g l = IsRowPlus (g.F.Field.arithmetic l.field) l.fn.row l.by l.self l.e-index l.row
