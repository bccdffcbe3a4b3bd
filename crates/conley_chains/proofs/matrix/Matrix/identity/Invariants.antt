use Rattle.conley_algebra.specs.Entries.{identity_of}
use Rattle.conley_chains.proofs.ColumnLemmas.{IsBuiltSoFar}
use Rattle.conley_chains.proofs.matrix.Matrix.identity.Given as goal

abbrev pub invariant-loop-i : goal.invariant-loop-i
invariant-loop-i g l = IsBuiltSoFar (g.F.Field.arithmetic l.field) l.n (identity_of l.n) l.i l.kept.items
