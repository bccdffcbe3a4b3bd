-- What a digraph with the reach of the steps gives to the checker.
use Rattle.std.proofs.Common.{◌≡◌, ℕ, ◌<◌, true, List, length, ◌∙◌, arith}
use Rattle.std.specs.Prelude.{◌↔◌}
use Rattle.conley_walk.specs.Walk.{Reaches}
use Rattle.conley_lists.specs.Lists.{ListedStep}
use Rattle.conley_lists.proofs.TestLemmas.{same_tests}
use Rattle.conley_order.specs.ClassRows.{ClassRows, is_at_or_below}
use Rattle.conley_digraph.specs.Classes.{AreClasses}
use Rattle.conley_transitions.specs.Flow.{StepOf}
use Rattle.conley_certificate.specs.Problem.{Problem, IsProblem, cell_count, flow}
use Rattle.conley_certificate.specs.Reach.{reaches}
use Rattle.conley_checker.specs.Given.{IsReachTest, AreClassNumbers}
use Rattle.conley_certificate.proofs.ReachLemmas.{reaches-Below, Below-reaches, recurs-AreRecurrent, AreRecurrent-recurs}

module _ (P : Problem) (ok : IsProblem P) (heads : List (List ℕ)) (count : length heads ≡ cell_count P)
    (steps : (x y : ℕ) → Reaches (ListedStep heads) x y ↔ Reaches (StepOf (flow P)) x y)
    (rows : ClassRows) (classes : AreClasses heads rows.class_of) (reach : (a b : ℕ) → a < length heads → b < length heads → (is_at_or_below rows a b ≡ true)
    ↔ Reaches (ListedStep heads) b a) where
  pub class_numbers : AreClassNumbers P rows.class_of
  class_numbers = record {
    count = classes.count ∙ count;
    same = λ x y x_cell y_cell.
        let same = classes.same x y (omega (arith, x_cell, count)) (omega (arith, y_cell, count)) in (
          (λ e. let r = same.0 e in AreRecurrent-recurs P ok x y (record { there = (steps x y).0 r.there; back = (steps y x).0 r.back })),
          (λ h. let r = recurs-AreRecurrent P ok x y h in same.1 (record { there = (steps x y).1 r.there; back = (steps y x).1 r.back })),
        );
    in_order = λ x k x_cell less. classes.in_order x k (omega (arith, x_cell, count)) less;
  }

  pub reach_test : IsReachTest P (length rows.class_of) (is_at_or_below rows)
  reach_test = record {
    cells = classes.count ∙ count;
    same = λ x y x_cell y_cell.
        let bit = reach y x (omega (arith, y_cell, count)) (omega (arith, x_cell, count)) in
        same_tests (is_at_or_below rows y x) (reaches P x y) (λ h. Below-reaches P ok x y ((steps x y).0 (bit.0 h)))
        (λ h. bit.1 ((steps x y).1 (reaches-Below P ok x y h)));
  }
