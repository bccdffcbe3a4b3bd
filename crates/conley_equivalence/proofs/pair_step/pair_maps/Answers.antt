use Rattle.conley_equivalence.proofs.pair_step.pair_maps.Goals as goal

pub returns-clause-tables : goal.returns-clause-tables
returns-clause-tables g c = record {
  phi = c.in_ok-phi.ensures.table;
  psi = c.in_ok-psi.ensures.table;
  gamma = c.in_ok-gamma.ensures.table;
  gamma2 = c.in_ok-gamma2.ensures.table (g.F.Field.arithmetic c.args.field.now);
}
