use Rattle.conley_chains.proofs.matrix.Matrix.from_columns.Goals as goal

pub invariant_of-result : goal.invariant_of-result
invariant_of-result c = record { chains = rw (← c.deref.ensures.value) c.all_chains.ensures; keeps_rows = c.requires }
