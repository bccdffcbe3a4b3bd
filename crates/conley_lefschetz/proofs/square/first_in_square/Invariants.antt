use Rattle.std.proofs.Common.{◌≡◌, ◌<◌, ℕ, All}
use Rattle.conley_algebra.specs.Entries.{product_of}
use Rattle.conley_chains.specs.Matrix.{entry, column_count}
use Rattle.conley_lefschetz.proofs.square.first_in_square.Given as goal

abbrev pub invariant-loop-x : goal.invariant-loop-x
invariant-loop-x g l = record {
  zero : All (λ sum. sum ≡ 0) l.sums;
  none : (x z : ℕ) → x < l.x → product_of (g.F.Field.arithmetic l.field) (column_count l.matrix) (entry l.matrix) (entry l.matrix) z x ≡ 0;
}
