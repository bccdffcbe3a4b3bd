-- Chains with the same first entries, and the next.
use Rattle.std.proofs.Common.{◌≡◌, ◌≢◌, ℕ, zero, suc, ◌<◌, ◌≤◌, List, [], ◌∷◌, length, get_or, take, ap, sym, ◌∙◌, arith, inl, inr, cond, subst}
use Rattle.std.proofs.lemmas.Bool.{cases_eq, cases_lt, eq-eqb, ne_eqb}
use Rattle.std.proofs.lemmas.List.{take_all, get_or_default}
use Rattle.conley_chains.specs.Chain.{coefficient, IsChain}
use Rattle.conley_chains.proofs.ChainLemmas.{coefficient-at, coefficient-beyond, All-take_before, IsChain-tail, coefficient-lower}
use Rattle.conley_checker.specs.Difference.{IsFirstDifference}

-- at a place before those from i on, the first i entries tell the code
coefficient-first : (es : List (ℕ × ℕ)) (i place : ℕ) → IsChain es → i < length es → place < (get_or es i (0, 0)).0
    → coefficient es place ≡ coefficient (take i es) place
coefficient-first [] i place chain below less = absurd (omega (arith, below))
coefficient-first (e ∷ es) zero place chain below less = coefficient-lower (e ∷ es) place (λ k d within. elim (cases_eq k 0) [
  | inl same ↦ subst (λ n. place < (get_or (e ∷ es) n d).0) (sym same) less
  | inr other ↦ (let up : e.0 < (get_or (e ∷ es) k d).0 = chain.ascending 0 k d (omega arith) within in omega arith)
])
coefficient-first (e ∷ es) (suc i) place chain below less = elim (cases_eq place e.0) [
  | inl same ↦ ap (λ b. cond b e.1 (coefficient es place)) (eq-eqb place e.0 same) ∙ sym (ap (λ b. cond b e.1 (coefficient (take i es) place))
      (eq-eqb place e.0 same))
  | inr other ↦
      ap (λ b. cond b e.1 (coefficient es place)) (ne_eqb place e.0 other)
      ∙ coefficient-first es i place (IsChain-tail e es chain) (omega (arith, below)) less
      ∙ sym (ap (λ b. cond b e.1 (coefficient (take i es) place)) (ne_eqb place e.0 other))
]

-- also where there are none from i on
pub coefficient-up_to : (es : List (ℕ × ℕ)) (i place : ℕ) → IsChain es → (i < length es → place < (get_or es i (0, 0)).0)
    → coefficient es place ≡ coefficient (take i es) place
coefficient-up_to es i place chain less = elim (cases_lt i (length es)) [
  | inl below ↦ coefficient-first es i place chain below (less below)
  | inr end ↦ ap (λ (xs : List (ℕ × ℕ)). coefficient xs place) (sym (take_all i es (omega arith)))
]

-- the same, the other way round
pub turned : (a b : List (ℕ × ℕ)) (place have want : ℕ) → IsFirstDifference b a place want have → IsFirstDifference a b place have want
turned a b place have want is = record { left = is.right; right = is.left; differ = λ e. is.differ (sym e); before = λ j less. sym (is.before j less) }

module _ (a b : List (ℕ × ℕ)) (a_chain : IsChain a) (b_chain : IsChain b) (i : ℕ) (same : take i a ≡ take i b) where
  before_both : (place : ℕ) → (i < length a → place < (get_or a i (0, 0)).0) → (i < length b → place < (get_or b i (0, 0)).0)
      → coefficient a place ≡ coefficient b place
  before_both place a_less b_less = coefficient-up_to a i place a_chain a_less ∙ ap (λ (xs : List (ℕ × ℕ)). coefficient xs place) same
      ∙ sym (coefficient-up_to b i place b_chain b_less)

  not_zero_at : (e : ℕ × ℕ) → i < length a → e ≡ get_or a i e → e.1 ≢ 0
  not_zero_at e below read = subst (λ (x : ℕ × ℕ). x.1 ≢ 0) (sym read) (a_chain.not_zero i e below)

  place_at : (e : ℕ × ℕ) → i < length a → e ≡ get_or a i e → (get_or a i (0, 0)).0 ≡ e.0
  place_at e below read = ap (λ (x : ℕ × ℕ). x.0) (get_or_default a i (0, 0) e below ∙ sym read)

  -- the entry at i of the first chain stands before that of the second
  pub left_first : (e : ℕ × ℕ) → i < length a → e ≡ get_or a i e → (i < length b → e.0 < (get_or b i (0, 0)).0) → IsFirstDifference a b e.0 e.1 0
  left_first e below read earlier = record {
    left = coefficient-at a i e a_chain below read;
    right = coefficient-up_to b i e.0 b_chain earlier ∙ ap (λ (xs : List (ℕ × ℕ)). coefficient xs e.0) (sym same)
        ∙ coefficient-beyond (take i a) e.0 e.0 (All-take_before a i e a_chain below read) (omega arith);
    differ = not_zero_at e below read;
    before = λ j less. before_both j (λ a_below. omega (arith, place_at e below read)) (λ b_below. omega (arith, earlier b_below));
  }

  -- at one place with other codes
  pub both_first : (e f : ℕ × ℕ) → i < length a → e ≡ get_or a i e → i < length b → f ≡ get_or b i f → e.0 ≡ f.0 → e.1 ≢ f.1 → IsFirstDifference a b e.0 e.1 f.1
  both_first e f a_below a_read b_below b_read one_place differ = record {
    left = coefficient-at a i e a_chain a_below a_read;
    right = ap (coefficient b) one_place ∙ coefficient-at b i f b_chain b_below b_read;
    differ = differ;
    before = λ j less. before_both j (λ h. omega (arith, place_at e a_below a_read)) (λ h. omega (arith, f_at));
  } where
    f_at : (get_or b i (0, 0)).0 ≡ f.0
    f_at = ap (λ (x : ℕ × ℕ). x.0) (get_or_default b i (0, 0) f b_below ∙ sym b_read)

  pub none_differ : length a ≤ i → length b ≤ i → (place : ℕ) → coefficient a place ≡ coefficient b place
  none_differ a_end b_end place = before_both place (λ h. absurd (omega arith)) (λ h. absurd (omega arith))
