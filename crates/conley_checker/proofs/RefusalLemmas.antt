-- Entries of a chain and a test of places.
use Rattle.std.proofs.Common.{◌≡◌, ◌≢◌, ℕ, suc, ◌<◌, ◌≤◌, Bool, true, false, List, [], ◌∷◌, length, get_or, ap, sym, ◌∙◌, arith, refl, inl, inr, cond, subst, Some}
use Rattle.std.specs.Prelude.{slice_index_or}
use Rattle.std.proofs.lemmas.Bool.{cases_eq, cases_lt, ne_eqb}
use Rattle.std.proofs.lemmas.List.{get_or_default}
use Rattle.conley_chains.specs.Chain.{coefficient, IsChain}
use Rattle.conley_chains.specs.Matrix.{Table, entry, column_count}
use Rattle.conley_certificate.specs.declared.reason.Reason.{Reason}
use Rattle.conley_certificate.specs.Places.{first_place, entry_law}
use Rattle.conley_checker.specs.Refusal.{IsFirstRefused}
use Rattle.conley_certificate.proofs.PlaceLemmas.{refused_at}
use Rattle.conley_chains.proofs.ChainLemmas.{coefficient-at}

-- a code that isn't zero stands in an entry
coefficient-kept : (es : List (ℕ × ℕ)) (row : ℕ) → coefficient es row ≢ 0 → (k : ℕ) × ((k < length es) × ((get_or es k (0, 0)).0 ≡ row))
coefficient-kept [] row some = absurd (some refl)
coefficient-kept (e ∷ es) row some = elim (cases_eq row e.0) [
  | inl same ↦ (0, (omega arith, sym same))
  | inr other ↦
      let found = coefficient-kept es row (λ none. some (ap (λ b. cond b e.1 (coefficient es row)) (ne_eqb row e.0 other) ∙ none)) in
      let below : found.0 < length es = found.1.0 in
      (suc found.0, (omega arith, found.1.1))
]

module _ (test : ℕ → ℕ → Bool) (es : List (ℕ × ℕ)) (chain : IsChain es) (column i : ℕ) (passed : (k : ℕ) → k < i
    → test (get_or es k (0, 0)).0 column ≡ true) where
  -- an entry before the one at i is among the first i
  earlier_passes : (bound : ℕ) → (i < length es → bound ≤ (get_or es i (0, 0)).0) → (r : ℕ) → r < bound → coefficient es r ≢ 0 → test r column ≡ true
  earlier_passes bound most r less some =
      let found = coefficient-kept es r some in
      let k = found.0 in
      let k_below : k < length es = found.1.0 in
      elim (cases_lt k i) [
        | inl before ↦ subst (λ n. test n column ≡ true) found.1.1 (passed k before)
        | inr after ↦
            let i_below : i < length es = omega arith in
            elim (cases_eq k i) [
              | inl same ↦ absurd (omega (arith, most i_below, found.1.1, ap (λ n. (get_or es n (0, 0)).0) same))
              | inr other ↦
                  let up : (get_or es i (0, 0)).0 < (get_or es k (0, 0)).0 = chain.ascending i k (0, 0) (omega arith) k_below in
                  absurd (omega (arith, most i_below, found.1.1))
            ]
      ]

  pub first_refused : (e : ℕ × ℕ) → i < length es → e ≡ get_or es i e → test e.0 column ≡ false → IsFirstRefused test es column e.0 e.1
  first_refused e below read refused =
      let place : (get_or es i (0, 0)).0 ≡ e.0 = ap (λ (x : ℕ × ℕ). x.0) (get_or_default es i (0, 0) e below ∙ sym read) in
      record {
        at = coefficient-at es i e chain below read;
        some = subst (λ (x : ℕ × ℕ). x.1 ≢ 0) (sym read) (chain.not_zero i e below);
        refused = refused;
        before = λ r less kept. earlier_passes e.0 (λ h. omega (arith, place)) r less kept;
      }

  pub all_passed : length es ≤ i → (r : ℕ) → coefficient es r ≢ 0 → test r column ≡ true
  all_passed end r some =
      let found = coefficient-kept es r some in
      let k_below : found.0 < length es = found.1.0 in
      subst (λ n. test n column ≡ true) found.1.1 (passed found.0 (omega arith))

-- the first refused entry of a column is the first failing place of the law, where no earlier column has one
pub refusal_found : (law part : ℕ) (a : Table) (test : ℕ → ℕ → Bool) (column row code : ℕ) → column < column_count a
    → IsFirstRefused test (slice_index_or a.columns column []) column row code →
    ((r : ℕ) → a.rows ≤ r → entry a r column ≡ 0) → ((c : ℕ) → c < column → (r : ℕ) → entry a r c ≢ 0 → test r c ≡ true) →
    Some (record { law = law; part = part; row = row; column = column; have = code; want = 0 }) ≡ first_place
    (entry_law law part a.rows (column_count a) (entry a) test)
refusal_found law part a test column row code column_below is end before =
    let some : entry a row column ≢ 0 = λ none. is.some (sym is.at ∙ none) in
    let row_below : row < a.rows = elim (cases_lt row a.rows) [ inl below ↦ below | inr beyond ↦ absurd (some (end row (omega arith))) ] in
    sym (refused_at law part a.rows (column_count a) (entry a) test row column row_below column_below some is.refused before is.before
    ∙ ap (λ (h : ℕ). Some (reason h)) is.at)
  where
    reason : ℕ → Reason
    reason h = record { law = law; part = part; row = row; column = column; have = h; want = 0 }
