-- Chains and matrices with equal entries at all places and equal sizes are equal.
use Rattle.std.proofs.Common.{◌≡◌, ◌≢◌, ℕ, suc, ◌<◌, ◌≤◌, List, [], ◌∷◌, length, get_or, ap, sym, ◌∙◌, arith, refl, inl, inr, cond}
use Rattle.std.proofs.lemmas.Bool.{cases_eq, cases_lt, eq-eqb, ne_eqb}
use Rattle.std.proofs.lemmas.List.{ext_get_or}
use Rattle.conley_algebra.specs.Entries.{SameEntries}
use Rattle.conley_chains.specs.Chain.{coefficient, IsChain}
use Rattle.conley_chains.specs.Matrix.{Table, entry, column_count, AreColumns}
use Rattle.conley_chains.proofs.ChainLemmas.{IsChain-tail, coefficient-lower}

-- the code at the first place
pub coefficient-first : (x : ℕ × ℕ) (es : List (ℕ × ℕ)) → coefficient (x ∷ es) x.0 ≡ x.1
coefficient-first x es = ap (λ b. cond b x.1 (coefficient es x.0)) (eq-eqb x.0 x.0 refl)

-- elsewhere the rest decides
pub coefficient-rest : (x : ℕ × ℕ) (es : List (ℕ × ℕ)) (place : ℕ) → place ≢ x.0 → coefficient (x ∷ es) place ≡ coefficient es place
coefficient-rest x es place other = ap (λ b. cond b x.1 (coefficient es place)) (ne_eqb place x.0 other)

-- the places of the rest lie beyond the first
rest_after : (x : ℕ × ℕ) (es : List (ℕ × ℕ)) → IsChain (x ∷ es) → (place : ℕ) → place ≤ x.0 → (k : ℕ) (d : ℕ × ℕ) → k < length es → place < (get_or es k d).0
rest_after x es chain place most k d below = (let h : x.0 < (get_or es k d).0 = chain.ascending 0 (suc k) d (omega arith) (omega arith) in omega arith)

first_not_zero : (x : ℕ × ℕ) (es : List (ℕ × ℕ)) → IsChain (x ∷ es) → x.1 ≢ 0
first_not_zero x es chain = chain.not_zero 0 x (omega arith)

pub same_coefficients : (a b : List (ℕ × ℕ)) → IsChain a → IsChain b → ((place : ℕ) → coefficient a place ≡ coefficient b place) → a ≡ b
same_coefficients [] [] a_chain b_chain same = refl
same_coefficients [] (y ∷ b) a_chain b_chain same = absurd (first_not_zero y b b_chain (sym (same y.0 ∙ coefficient-first y b)))
same_coefficients (x ∷ a) [] a_chain b_chain same = absurd (first_not_zero x a a_chain (sym (coefficient-first x a) ∙ same x.0))
same_coefficients (x ∷ a) (y ∷ b) a_chain b_chain same = elim (cases_lt x.0 y.0) [
  | inl before ↦ absurd (first_not_zero x a a_chain (sym (coefficient-first x a) ∙ same x.0 ∙ coefficient-rest y b x.0 (λ e. omega (arith, e))
      ∙ coefficient-lower b x.0 (rest_after y b b_chain x.0 (omega arith))))
  | inr not_before ↦ elim (cases_eq y.0 x.0) [
    | inr other ↦ absurd (first_not_zero y b b_chain (sym (coefficient-first y b) ∙ sym (same y.0) ∙ coefficient-rest x a y.0 other
        ∙ coefficient-lower a y.0 (rest_after x a a_chain y.0 (omega arith))))
    | inl level ↦
        let codes : x.1 ≡ y.1 = sym (coefficient-first x a) ∙ same x.0 ∙ ap (coefficient (y ∷ b)) (sym level) ∙ coefficient-first y b in
        let heads : x ≡ y = ap (λ (p : ℕ). (p, x.1)) (sym level) ∙ ap (λ (c : ℕ). (y.0, c)) codes in
        let rests : a ≡ b = same_coefficients a b (IsChain-tail x a a_chain) (IsChain-tail y b b_chain) (λ place. elim (cases_eq place x.0) [
          | inl here ↦ coefficient-lower a place (rest_after x a a_chain place (omega arith))
              ∙ sym (coefficient-lower b place (rest_after y b b_chain place (omega arith)))
          | inr apart ↦ sym (coefficient-rest x a place apart) ∙ same place ∙ coefficient-rest y b place (λ e. apart (e ∙ level))
        ]) in
        ap (λ (p : ℕ × ℕ). p ∷ a) heads ∙ ap (λ (es : List (ℕ × ℕ)). y ∷ es) rests
  ]
]

pub same_entries : (s t : Table) → AreColumns s.rows s.columns → AreColumns t.rows t.columns → s.rows ≡ t.rows → column_count s ≡ column_count t
    → SameEntries (entry s) (entry t) → s ≡ t
same_entries s t s_keeps t_keeps rows columns same =
    let lists : s.columns ≡ t.columns = ext_get_or [] s.columns t.columns columns (λ k below.
    same_coefficients (get_or s.columns k []) (get_or t.columns k []) (s_keeps.chains k [] below) (t_keeps.chains k [] (omega arith)) (λ row. same row k)) in
    let left : s ≡ record { rows = t.rows; columns = s.columns } = ap (λ (m : ℕ). let u : Table = record { rows = m; columns = s.columns } in u) rows in
    left ∙ ap (λ (xs : List (List (ℕ × ℕ))). let u : Table = record { rows = t.rows; columns = xs } in u) lists
