use Rattle.std.proofs.Common.{ℕ, List, ◌≡◌, ◌≤◌, ◌∙◌}
use Rattle.std.proofs.lemmas.List.Elements.{All-set}
use Rattle.conley_chains.specs.Chain.{coefficient, IsChain}
use Rattle.conley_chains.proofs.MatrixLemmas.{no_code}
use Rattle.conley_chains.proofs.matrix.Matrix.add_scaled.Goals as goal

pub invariant_of-self : goal.invariant_of-self
invariant_of-self g c = record {
  chains = All-set IsChain c.self.inside.kept.items c.args.target c.in_ok-sum.sum c.in_ok-sum.ensures.chain c.self.invariant.chains;
  keeps_rows =
      All-set (λ (es : List (ℕ × ℕ)). (row : ℕ) → c.self.inside.row_count ≤ row → coefficient es row ≡ 0) c.self.inside.kept.items c.args.target c.in_ok-sum.sum
      (λ row beyond.
      c.in_ok-sum.ensures.sum row
      ∙ no_code (g.met.F.Field.is_field c.args.field.now) _ c.args.by _
      (rw c.column.ensures.column (c.column.ensures.keeps_rows row (rw (← c.self.view_is) beyond)))
      (rw c.column-2.ensures.column (c.column-2.ensures.keeps_rows row (rw (← c.self.view_is) beyond)))) c.self.invariant.keeps_rows;
}
