use Rattle.std.proofs.Common.{arith, ◌==◌, ◌∙◌, ℕ, cond, ap}
use Rattle.conley_homology.proofs.SingleLemmas.{single-AreConleyNumbers}
use Rattle.conley_homology.proofs.counting.of_one_cell.Goals as goal

pub returns : goal.returns
returns g c =
    single-AreConleyNumbers (g.met.F.Field.is_field c.args.complex.now.0) c.args.complex.now.1 c.levels.ensures.laws c.args.set.now c.requires.cells
    c.requires.closed c.requires.one
    c.in_ok-numbers.numbers.items (c.in_ok-numbers.ensures.count ∙ c.levels.ensures.levels)
    (λ k below. c.in_ok-numbers.ensures.entries k (omega (arith, below, c.levels.ensures.levels)) ∙ ap (λ (d : ℕ). cond (k == d) 1 0) c.dim.ensures.dim)
