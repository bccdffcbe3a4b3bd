-- At most one problem is made for a number.
use Rattle.std.proofs.Common.{◌≡◌, ℕ, sym, ◌∙◌, subst}
use Rattle.conley_field.specs.Prime.{residues}
use Rattle.conley_lefschetz.specs.Complex.{Layout, IsLayout}
use Rattle.conley_cubical.proofs.OnceLemmas.{complex_once}
use Rattle.conley_hull.specs.Hull.{IsHull}
use Rattle.conley_hull.proofs.OnceLemmas.{one_hull}
use Rattle.conley_input.specs.Problem.{Problem, IsSound}
use Rattle.conley_input.proofs.OnceLemmas.{same_problem}
use Rattle.conley_trial.specs.Pairs.{pairs_of}
use Rattle.conley_trial.specs.Squares.{unit_squares}
use Rattle.conley_trial.specs.Trial.{IsTrialProblem, TrialProblemIsOne}

laws_of : (k : ℕ) (p : Problem) → IsSound p → IsTrialProblem k p → IsLayout (residues 2) p.complex
laws_of k p sound is = subst (λ order. IsLayout (residues order) p.complex) is.scalars sound.laws

pub problem_once : TrialProblemIsOne
problem_once k p q sound sound' is is' =
    let same : p.complex ≡ q.complex = complex_once (residues 2) (unit_squares k) p.complex q.complex (laws_of k p sound is) (laws_of k q sound' is')
    is.complex is'.complex in
    let hull : IsHull q.complex.faces (pairs_of k q.complex) p.part_of = subst (λ (c : Layout). IsHull c.faces (pairs_of k c) p.part_of) same is.parts in
    same_problem p q
    (is.scalars ∙ sym is'.scalars)
    same
    (one_hull q.complex.faces (pairs_of k q.complex) p.part_of q.part_of sound.partition sound'.partition hull is'.parts)
    (is.sets ∙ sym is'.sets)
