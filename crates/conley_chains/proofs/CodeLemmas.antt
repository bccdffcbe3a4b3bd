-- Codes that entries keep at their places, in whatever order they stand.
use Rattle.std.specs.Prelude.{AllPairs, map}
use Rattle.std.specs.List.Sorted.{IsPermutation}
use Rattle.std.proofs.Common.{◌≡◌, ◌≢◌, ℕ, zero, suc, ◌<◌, List, [], ◌∷◌, ◌++◌, length, get_or, ap, sym, ◌∙◌, arith, refl, inl, inr, cond, All}
use Rattle.std.proofs.lemmas.Bool.{cases_eq, eq-eqb, ne_eqb}
use Rattle.std.proofs.lemmas.List.Elements.{All-head, All-tail, All-cons, All-nil}
use Rattle.std.proofs.lemmas.List.Sorted.{IsPermutation-sym, All-permutation}
use Rattle.conley_chains.specs.declared.placing.Placed.{Placed}
use Rattle.conley_chains.specs.Chain.{coefficient}
use Rattle.conley_chains.specs.Faults.{code_at}
use Rattle.conley_chains.specs.Placing.{pair_of, triple_of}
use Rattle.conley_chains.proofs.FaultLemmas.{and-both, and-apart}

-- an entry stands in this row and column
abbrev pub IsAt : ℕ → ℕ → ℕ × ℕ × ℕ → Type 0
IsAt row column e = (row ≡ e.0) × (column ≡ e.1)

at_or_not : (row column : ℕ) (e : ℕ × ℕ × ℕ) (P : Type 0) → (IsAt row column e → P) → ((IsAt row column e → ⊥) → P) → P
at_or_not row column e P here apart = elim (cases_eq row e.0) [
  | inl r ↦ elim (cases_eq column e.1) [ inl c ↦ here (r, c) | inr n ↦ apart (λ h. n h.1) ]
  | inr n ↦ apart (λ h. n h.0)
]

pub code_at-here : (e : ℕ × ℕ × ℕ) (es : List (ℕ × ℕ × ℕ)) (row column : ℕ) → IsAt row column e → code_at (e ∷ es) row column ≡ e.2
code_at-here e es row column here = ap (λ b. cond b e.2 (code_at es row column)) (and-both row column e.0 e.1 here.0 here.1)

pub code_at-apart : (e : ℕ × ℕ × ℕ) (es : List (ℕ × ℕ × ℕ)) (row column : ℕ) → (IsAt row column e → ⊥) → code_at (e ∷ es) row column ≡ code_at es row column
code_at-apart e es row column apart = ap (λ b. cond b e.2 (code_at es row column)) (and-apart row column e.0 e.1 (λ r c. apart (r, c)))

module _ (row column : ℕ) where
  At : ℕ × ℕ × ℕ → Type 0
  At e = IsAt row column e

  -- no entry stands there
  pub code_at-none : (es : List (ℕ × ℕ × ℕ)) → All (λ e. IsAt row column e → ⊥) es → code_at es row column ≡ 0
  code_at-none [] none = refl
  code_at-none (e ∷ es) none =
      code_at-apart e es row column (All-head (λ (x : ℕ × ℕ × ℕ). IsAt row column x → ⊥) e es none)
      ∙ code_at-none es (All-tail (λ (x : ℕ × ℕ × ℕ). IsAt row column x → ⊥) e es none)

  -- all entries that stand there have one code: that is the code, or none stands there
  code_at-only : (es : List (ℕ × ℕ × ℕ)) (v : ℕ) → All (λ e. IsAt row column e → e.2 ≡ v) es → (All (λ e. IsAt row column e → ⊥) es → v ≡ 0)
      → code_at es row column ≡ v
  code_at-only [] v only otherwise = sym (otherwise (All-nil (λ (x : ℕ × ℕ × ℕ). IsAt row column x → ⊥)))
  code_at-only (e ∷ es) v only otherwise = at_or_not row column e (code_at (e ∷ es) row column ≡ v)
      (λ here. code_at-here e es row column here ∙ All-head (λ (x : ℕ × ℕ × ℕ). IsAt row column x → x.2 ≡ v) e es only here)
      (λ apart. code_at-apart e es row column apart
      ∙ code_at-only es v (All-tail (λ (x : ℕ × ℕ × ℕ). IsAt row column x → x.2 ≡ v) e es only)
      (λ none. otherwise (All-cons (λ (x : ℕ × ℕ × ℕ). IsAt row column x → ⊥) e es apart none)))

  -- of entries at places that differ, one that stands there has the code
  only_code : (es : List (ℕ × ℕ × ℕ)) → AllPairs (λ a b. (a.0 ≡ b.0) → (a.1 ≡ b.1) → ⊥) es → All (λ e. IsAt row column e → e.2 ≡ code_at es row column) es
  only_code [] apart k d below here = absurd (omega arith)
  only_code (e ∷ es) apart k d below here = each k d below here (only_code es (λ i j x less within. apart (suc i) (suc j) x (omega arith) (omega arith))) where
    each : (k : ℕ) (d : ℕ × ℕ × ℕ) → k < length (e ∷ es) → IsAt row column (get_or (e ∷ es) k d) → All (λ x. IsAt row column x → x.2 ≡ code_at es row column) es
        → (get_or (e ∷ es) k d).2 ≡ code_at (e ∷ es) row column
    each zero d below here rest = sym (code_at-here e es row column here)
    each (suc k) d below here rest =
        rest k d (omega arith) here
        ∙ sym (code_at-apart e es row column (λ first. apart 0 (suc k) d (omega arith) (omega arith) (sym first.0 ∙ here.0) (sym first.1 ∙ here.1)))

  pub code_at-permutation : (xs ys : List (ℕ × ℕ × ℕ)) → IsPermutation xs ys → AllPairs (λ a b. (a.0 ≡ b.0) → (a.1 ≡ b.1) → ⊥) xs
      → code_at ys row column ≡ code_at xs row column
  code_at-permutation xs ys moved apart =
      code_at-only ys (code_at xs row column)
      (All-permutation (λ (x : ℕ × ℕ × ℕ). IsAt row column x → x.2 ≡ code_at xs row column) xs ys moved (only_code xs apart))
      (λ none. code_at-none xs (All-permutation (λ (x : ℕ × ℕ × ℕ). IsAt row column x → ⊥) ys xs (IsPermutation-sym xs ys moved) none))

  -- entries of other columns first
  pub code_at-skip : (ps qs : List Placed) → All (λ p. column ≢ p.column) ps → code_at (map triple_of (ps ++ qs)) row column ≡ code_at (map triple_of qs) row
      column
  code_at-skip [] qs other = refl
  code_at-skip (p ∷ ps) qs other =
      code_at-apart (triple_of p) (map triple_of (ps ++ qs)) row column (λ here. All-head (λ (x : Placed). column ≢ x.column) p ps other here.1)
      ∙ code_at-skip ps qs (All-tail (λ (x : Placed). column ≢ x.column) p ps other)

  -- entries of the column, and then of others
  pub code_at-run : (ps qs : List Placed) → All (λ p. column ≡ p.column) ps → All (λ p. column ≢ p.column) qs
      → code_at (map triple_of (ps ++ qs)) row column ≡ coefficient (map pair_of ps) row
  code_at-run [] [] own other = refl
  code_at-run [] (q ∷ qs) own other =
      code_at-apart (triple_of q) (map triple_of qs) row column (λ here. All-head (λ (x : Placed). column ≢ x.column) q qs other here.1)
      ∙ code_at-run [] qs own (All-tail (λ (x : Placed). column ≢ x.column) q qs other)
  code_at-run (p ∷ ps) qs own other =
      let rest = code_at-run ps qs (All-tail (λ (x : Placed). column ≡ x.column) p ps own) other in
      elim (cases_eq row p.row) [
        | inl same ↦
            code_at-here (triple_of p) (map triple_of (ps ++ qs)) row column (same, All-head (λ (x : Placed). column ≡ x.column) p ps own)
            ∙ sym (ap (λ b. cond b p.code (coefficient (map pair_of ps) row)) (eq-eqb row p.row same))
        | inr apart ↦
            code_at-apart (triple_of p) (map triple_of (ps ++ qs)) row column (λ here. apart here.0) ∙ rest
            ∙ sym (ap (λ b. cond b p.code (coefficient (map pair_of ps) row)) (ne_eqb row p.row apart))
      ]

-- a chain's entries stand in column 0
pub code_at-pairs : (es : List (ℕ × ℕ)) (place : ℕ) → code_at (map (λ (e : ℕ × ℕ). (e.0, 0, e.1)) es) place 0 ≡ coefficient es place
code_at-pairs [] place = refl
code_at-pairs (e ∷ es) place = elim (cases_eq place e.0) [
  | inl same ↦
      code_at-here (e.0, 0, e.1) (map (λ (x : ℕ × ℕ). (x.0, 0, x.1)) es) place 0 (same, refl)
      ∙ sym (ap (λ b. cond b e.1 (coefficient es place)) (eq-eqb place e.0 same))
  | inr apart ↦
      code_at-apart (e.0, 0, e.1) (map (λ (x : ℕ × ℕ). (x.0, 0, x.1)) es) place 0 (λ here. apart here.0) ∙ code_at-pairs es place
      ∙ sym (ap (λ b. cond b e.1 (coefficient es place)) (ne_eqb place e.0 apart))
]
