-- A certificate whose lists are those of the Conley-Morse graph stands in order, and its text reads back as it is.
use Rattle.std.proofs.Common.{inl, inr, ℕ, List, [], length, arith, refl, subst, sym}
use Rattle.std.specs.List.Sorted.{IsStrictlyIncreasing}
use Rattle.std.proofs.lemmas.Bool.{cases_lt}
use Rattle.std.proofs.lemmas.List.{get_or_past}
use Rattle.conley_graph.specs.Decomposition.{IsConleyMorseGraph}
use Rattle.conley_certificate_file.specs.Certificate.{Certificate, IsInOrder}
use Rattle.conley_certificate.specs.Problem.{Problem}

pub graph_in_order : (P : Problem) (C : Certificate) → IsConleyMorseGraph P.scalars P.complex P.part_of C.morse C.index C.order → IsInOrder C C
graph_in_order P C graph = record {
  sets = record {
    count = refl;
    ascending = λ i. elim (cases_lt i (length C.morse)) [
      | inl below ↦ graph.sets.ascending i below
      | inr past ↦ subst (λ (set : List ℕ). IsStrictlyIncreasing set) (sym (get_or_past C.morse i [] (omega arith))) (λ k within. absurd (omega arith))
    ];
    same = λ i x. ((λ c. c), (λ c. c));
    entries = omega arith;
  };
  pairs = λ p. ((λ c. c), (λ c. c));
  ascending = graph.order.ascending;
  index = refl;
  generators = refl;
  matrix = refl;
  phi = refl;
  psi = refl;
  gamma = refl;
  gamma2 = refl;
}
