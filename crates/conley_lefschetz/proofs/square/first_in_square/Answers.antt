use Rattle.std.proofs.Common.{inl, inr, arith}
use Rattle.std.proofs.lemmas.Bool.{cases_lt}
use Rattle.conley_chains.specs.Matrix.{column_count}
use Rattle.conley_lefschetz.proofs.ComplexLemmas.{square_past}
use Rattle.conley_lefschetz.proofs.square.first_in_square.Goals as goal

pub returns : goal.returns
returns g c = λ x z ne. elim (cases_lt x (column_count c.args.matrix.now)) [
  | inl lt ↦ ne (c.loop-x.invariant.none x z (omega (arith, lt, c.loop-x-test.false, c.columns-x-end.ensures, c.requires.few)))
  | inr ge ↦ ne (square_past (g.met.F.Field.is_field c.args.field.now) c.args.matrix.now x z ge)
]
