use Rattle.conley_lefschetz.proofs.SquareLemmas.{square_zero, sums_zero, zeros_from}
use Rattle.conley_lefschetz.proofs.square.first_in_column.Goals as goal

pub returns-then-is_zero_under-clause-first : goal.returns-then-is_zero_under-clause-first
returns-then-is_zero_under-clause-first g c =
    square_zero (g.met.F.Field.is_field c.args.field.now) c.args.matrix.now c.args.x c.add_column.new.sums c.add_column.ensures
    (c.is_zero_under.ensures c.if-is_zero_under.true)

pub returns-then-is_zero_under-clause-zero : goal.returns-then-is_zero_under-clause-zero
returns-then-is_zero_under-clause-zero g c = λ _.
    sums_zero (g.met.F.Field.is_field c.args.field.now) c.args.matrix.now c.args.x c.add_column.new.sums c.add_column.ensures
    (c.is_zero_under.ensures c.if-is_zero_under.true)

pub returns-clause-zero : goal.returns-clause-zero
returns-clause-zero g c = λ none. zeros_from c.add_column.new.sums (rw none at c.first_not_zero.ensures)
