-- Numbers written at the cells of sets, one after another.
use Rattle.std.proofs.Common.{◌≡◌, inl, inr, ℕ, suc, ◌+◌, ◌<◌, ◌≤◌, List, length, ap, sym, ◌∙◌, arith, subst}
use Rattle.std.specs.Prelude.{Contains, slice_index}
use Rattle.std.proofs.lemmas.Bool.{cases_eq}
use Rattle.conley_transitions.specs.Morse.{set_at, IsAt}
use Rattle.conley_certificate.specs.Problem.{Problem, IsProblem, cell_count}
use Rattle.conley_certificate_file.specs.Certificate.{Certificate, Fits}
use Rattle.conley_certificate.specs.Certificate.{set_count}
use Rattle.conley_checker.specs.Given.{ArePlaces}
use Rattle.conley_certificate.proofs.FitsLemmas.{one_set}
use Rattle.conley_certificate.proofs.SetLemmas as sets

-- the first i sets are numbered
pub record IsPlaced (P : Problem) (C : Certificate) (i : ℕ) (place : List ℕ) : Type 0 where
  pub count : length place ≡ cell_count P
  pub inside : (x j : ℕ) → j < i → IsAt C.morse x j → slice_index place x ≡ suc j
  pub outside : (x : ℕ) → ((j : ℕ) → j < i → ¬ IsAt C.morse x j) → slice_index place x ≡ 0

pub placed_all : (P : Problem) (ok : IsProblem P) (C : Certificate) (fits : Fits P.scalars P.complex C) (i : ℕ) (place : List ℕ) → IsPlaced P C i place
    → set_count C ≤ i → ArePlaces P C place
placed_all P ok C fits i place is all = record {
  count = is.count;
  places = λ x cell. elim (sets.somewhere P ok C fits x) [
    | inl at ↦ is.inside x at.0 (omega (arith, at.1.0)) at.1 ∙ sym (sets.place-at P ok C fits x at.0 at.1)
    | inr nowhere ↦ is.outside x (λ j less. nowhere j) ∙ sym (sets.place-nowhere P ok C fits x nowhere)
  ];
}

pub placed_more : (P : Problem) (ok : IsProblem P) (C : Certificate) (fits : Fits P.scalars P.complex C) (i : ℕ) (place new cells : List ℕ) (number : ℕ)
    → IsPlaced P C i place → i < set_count C → cells ≡ set_at C.morse i → number ≡ suc i → length new ≡ length place →
    ((x : ℕ) → Contains cells x → slice_index new x ≡ number) → ((x : ℕ) → ¬ Contains cells x → slice_index new x ≡ slice_index place x)
    → IsPlaced P C (i + 1) new
placed_more P ok C fits i place new cells number is below cells_are number_is width inside outside = record {
  count = width ∙ is.count;
  inside = λ x j less at. elim (cases_eq j i) [
    | inl same ↦ inside x (subst (λ xs. Contains xs x) (sym cells_are) (subst (λ n. Contains (set_at C.morse n) x) same at.1)) ∙ number_is ∙ ap suc (sym same)
    | inr other ↦ outside x (λ c. other (one_set P ok C fits j i x at (below, subst (λ xs. Contains xs x) cells_are c))) ∙ is.inside x j (omega arith) at
  ];
  outside = λ x nowhere.
      outside x (λ c. nowhere i (omega arith) (below, subst (λ xs. Contains xs x) cells_are c)) ∙ is.outside x (λ j less. nowhere j (omega arith));
}
