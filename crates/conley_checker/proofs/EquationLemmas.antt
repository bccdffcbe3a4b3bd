-- The two sides of an equation, column by column.
use Rattle.std.proofs.Common.{◌≡◌, ◌≢◌, inl, inr, ℕ, ◌<◌, ◌≤◌, List, Some, None, ap, sym, ◌∙◌, arith, refl, true}
use Rattle.std.proofs.lemmas.Bool.{cases_lt}
use Rattle.conley_chains.specs.Chain.{coefficient}
use Rattle.conley_certificate_file.specs.Certificate.{Certificate, Fits}
use Rattle.conley_certificate.specs.declared.reason.Reason.{Reason}
use Rattle.conley_certificate.specs.Problem.{Problem, IsProblem}
use Rattle.conley_certificate.specs.Places.{first_place, equal_law}
use Rattle.conley_certificate.proofs.PlaceLemmas.{differ_at, never_differ}
use Rattle.conley_certificate.proofs.SideLemmas as sides
use Rattle.conley_checker.specs.declared.equation.Equation.{Equation}
use Rattle.conley_checker.specs.declared.equation.Equation.TheVariants.{Boundary, Phi, Psi, Gamma, Gamma2}
use Rattle.conley_checker.specs.Equations.{law_of, number_of, AreSides}
use Rattle.conley_checker.specs.Difference.{IsFirstDifference}

-- the law of an equation is one of equal values, by columns
equal_law-of : (P : Problem) (C : Certificate) (e : Equation) → first_place (law_of P C e) ≡ first_place
    (equal_law (number_of e) true (law_of P C e).rows (law_of P C e).columns (law_of P C e).have (law_of P C e).want)
equal_law-of P C Boundary = refl
equal_law-of P C Phi = refl
equal_law-of P C Psi = refl
equal_law-of P C Gamma = refl
equal_law-of P C Gamma2 = refl

module _ (P : Problem) (ok : IsProblem P) (C : Certificate) (fits : Fits P.scalars P.complex C) where
  -- past the last row both sides are zero
  ends : (e : Equation) (row column : ℕ) → (law_of P C e).rows ≤ row → (law_of P C e).have row column ≡ (law_of P C e).want row column
  ends Boundary row column end = (sides.square_is P ok C fits).rows_end row column end
  ends Phi row column end = (sides.phi_have_is P ok C fits).rows_end row column end ∙ sym ((sides.phi_want_is P ok C fits).rows_end row column end)
  ends Psi row column end = (sides.psi_have_is P ok C fits).rows_end row column end ∙ sym ((sides.psi_want_is P ok C fits).rows_end row column end)
  ends Gamma row column end = (sides.gamma_have_is P ok C fits).rows_end row column end ∙ sym ((sides.gamma_want_is P ok C fits).rows_end row column end)
  ends Gamma2 row column end = (sides.gamma2_have_is P ok C fits).rows_end row column end ∙ sym ((sides.gamma2_want_is P ok C fits).rows_end row column end)

  module _ (e : Equation) (column : ℕ) (a b : List (ℕ × ℕ)) (are : AreSides P C e column a b) where
    -- the first difference of a column is the first place where the law fails, where earlier columns are the same
    pub sides_differ : (place have want : ℕ) → column < (law_of P C e).columns → IsFirstDifference a b place have want
        → ((c : ℕ) → c < column → (row : ℕ) → (law_of P C e).have row c ≡ (law_of P C e).want row c) →
        Some (record { law = number_of e; part = 0; row = place; column = column; have = have; want = want }) ≡ first_place (law_of P C e)
    sides_differ place have want below is before =
        let law = law_of P C e in
        let here : law.have place column ≡ have = sym (are.have place) ∙ is.left in
        let there : law.want place column ≡ want = sym (are.want place) ∙ is.right in
        let differ : law.have place column ≢ law.want place column = λ s. is.differ (sym here ∙ s ∙ there) in
        let row_below : place < law.rows = elim (cases_lt place law.rows) [
          | inl less ↦ less
          | inr beyond ↦ absurd (differ (ends e place column (omega arith)))
        ] in
        sym (equal_law-of P C e ∙ differ_at (number_of e) law.rows law.columns law.have law.want place column row_below below differ before
        (λ r less. sym (are.have r) ∙ is.before r less ∙ are.want r)
        ∙ ap (λ (h : ℕ). Some (reason h (law.want place column))) here ∙ ap (λ (w : ℕ). Some (reason have w)) there)
      where
        reason : ℕ → ℕ → Reason
        reason h w = record { law = number_of e; part = 0; row = place; column = column; have = h; want = w }

    pub sides_same : ((place : ℕ) → coefficient a place ≡ coefficient b place) → (row : ℕ) → (law_of P C e).have row column ≡ (law_of P C e).want row column
    sides_same same row = sym (are.have row) ∙ same row ∙ are.want row

-- no place fails
pub never_fails : (P : Problem) (C : Certificate) (e : Equation) → ((c : ℕ) → c < (law_of P C e).columns → (row : ℕ)
    → (law_of P C e).have row c ≡ (law_of P C e).want row c) → None ≡ first_place (law_of P C e)
never_fails P C e same = sym (equal_law-of P C e ∙ never_differ (number_of e) true (law_of P C e).rows (law_of P C e).columns (law_of P C e).have
    (law_of P C e).want (λ row column row_below column_below. same column column_below row))
