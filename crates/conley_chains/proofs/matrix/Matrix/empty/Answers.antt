use Rattle.std.proofs.Common.{ℕ, ◌<◌, [], arith, refl}
use Rattle.std.proofs.lemmas.List.Elements.{All-nil}
use Rattle.conley_field.specs.Arithmetic.{Arithmetic}
use Rattle.conley_chains.proofs.ColumnLemmas.{built_more, built_end, built_table}
use Rattle.conley_chains.proofs.matrix.Matrix.empty.Goals as goal

-- any arithmetic serves, since there are no codes
one : Arithmetic
one = record { order = 0; add = λ a b. 0; neg = λ a. 0; mul = λ a b. 0; inv = λ a. 0 }

pub loop-turn-preserved : goal.loop-turn-preserved
loop-turn-preserved c = λ K.
    rw (c.in_ok-push.ensures.items, c.new.ensures)
    (built_more c.args.rows (λ row column. 0) c.loop-turn.turn c.loop-turn.kept.items [] (c.loop-turn.invariant K) (All-nil (λ (e : ℕ × ℕ). e.1 < K.order))
    (λ row. refl) (λ row beyond. refl))

pub from_columns-requires : goal.from_columns-requires
from_columns-requires c = (c.loop-turn.invariant one).keeps_rows

pub returns-clause-entries : goal.returns-clause-entries
returns-clause-entries c = λ row column.
    rw c.from_columns.ensures (built_end {F = one} c.args.rows (λ row column. 0) c.loop-turn.turn c.loop-turn.turn c.loop-turn.kept.items
    (c.loop-turn.invariant one) refl (λ row column end. refl) row column)

pub returns-clause-table : goal.returns-clause-table
returns-clause-table c = λ K.
    rw c.from_columns.ensures (built_table c.args.rows (λ row column. 0) c.loop-turn.turn c.args.columns c.loop-turn.kept.items (c.loop-turn.invariant K)
    (omega arith))
