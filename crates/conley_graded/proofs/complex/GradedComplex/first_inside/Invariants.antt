use Rattle.std.proofs.Common.{ℕ, ◌<◌}
use Rattle.conley_order.specs.Preorder.{IsBelow}
use Rattle.conley_graded.specs.Structure.{generators_of}
use Rattle.conley_graded.specs.Inside.{IsInside}
use Rattle.conley_graded.proofs.complex.GradedComplex.first_inside.Given as goal

abbrev pub invariant-loop-k : goal.invariant-loop-k
invariant-loop-k g l = (k q : ℕ) → k < l.k → ¬ IsInside (IsBelow (g.G.Grading.cell_count l.self.grading) (g.G.Grading.is_below l.self.grading))
    (generators_of l.self) k q
