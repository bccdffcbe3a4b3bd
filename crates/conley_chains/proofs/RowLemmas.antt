-- Rows of codes: a chain made of one, and a chain added to one, entry by entry.
use Rattle.std.proofs.Common.{◌≡◌, inl, inr, ℕ, ◌+◌, ◌<◌, ◌≤◌, cond, List, length, take, get_or, ap, sym, ◌∙◌, arith, refl, subst, All, get_or-set_other, get_or-set_same}
use Rattle.std.proofs.Math.ListN.{set, length-set}
use Rattle.std.proofs.lemmas.Bool.{cases_eq, cases_lt, eq-eqb, ne_eqb}
use Rattle.std.proofs.lemmas.List.{get_or_past, take_all}
use Rattle.conley_field.specs.Arithmetic.{Arithmetic, IsField}
use Rattle.conley_algebra.proofs.SumLemmas as sums
use Rattle.conley_chains.specs.Chain.{coefficient, IsChain}
use Rattle.conley_chains.proofs.ChainLemmas.{coefficient-beyond, coefficient-take_more, All-take_before}

-- the first i codes of the row are kept
pub record IsKeptSoFar (row : List ℕ) (i : ℕ) (chain : List (ℕ × ℕ)) : Type 0 where
  pub same : (place : ℕ) → place < i → coefficient chain place ≡ get_or row place 0
  pub before : All (λ e. e.0 < i) chain
  pub codes : (n : ℕ) → All (λ a. a < n) row → All (λ e. e.1 < n) chain

pub kept_end : (row : List ℕ) (i : ℕ) (chain : List (ℕ × ℕ)) → IsKeptSoFar row i chain → length row ≤ i → (place : ℕ)
    → coefficient chain place ≡ get_or row place 0
kept_end row i chain so_far all place = elim (cases_lt place i) [
  | inl less ↦ so_far.same place less
  | inr past ↦ coefficient-beyond chain i place so_far.before past ∙ sym (get_or_past row place 0 (omega arith))
]

-- the row is the old one plus `by` times the first k entries
pub record IsRowPlus (F : Arithmetic) (old : List ℕ) (by : ℕ) (es : List (ℕ × ℕ)) (k : ℕ) (row : List ℕ) : Type 0 where
  pub width : length row ≡ length old
  pub codes : All (λ a. a < F.order) row
  pub same : (place : ℕ) → get_or row place 0 ≡ F.add (get_or old place 0) (F.mul by (coefficient (take k es) place))

module _ {F : Arithmetic} (laws : IsField F) (old : List ℕ) (by : ℕ) (es : List (ℕ × ℕ)) (chain : IsChain es) (old_codes : All (λ a. a < F.order) old) where
  code_below : (place : ℕ) → get_or old place 0 < F.order
  code_below place = elim (cases_lt place (length old)) [
    | inl within ↦ old_codes place 0 within
    | inr past ↦ subst (λ (t : ℕ). t < F.order) (sym (get_or_past old place 0 past)) (sums.zero_below laws)
  ]

  plus_none : (place : ℕ) → F.add (get_or old place 0) (F.mul by 0) ≡ get_or old place 0
  plus_none place = ap (F.add (get_or old place 0)) (sums.mul-zero laws by) ∙ laws.add_zero (get_or old place 0) (code_below place)

  pub plus_start : IsRowPlus F old by es 0 old
  plus_start = record { width = refl; codes = old_codes; same = λ place. sym (plus_none place) }

  pub plus_more : (k : ℕ) (row : List ℕ) (e : ℕ × ℕ) → IsRowPlus F old by es k row → k < length es → e ≡ get_or es k e → e.0 < length row
      → IsRowPlus F old by es (k + 1) (set row e.0 (F.add (get_or row e.0 0) (F.mul by e.1)))
  plus_more k row e so_far below read within = record {
    width = length-set row e.0 new ∙ so_far.width;
    codes = λ i d i_within. elim (cases_eq i e.0) [
      | inl at ↦ subst (λ (t : ℕ). t < F.order) (sym (ap (λ (j : ℕ). get_or (set row e.0 new) j d) at ∙ get_or-set_same row e.0 new d within))
          (laws.add_below _ _)
      | inr other ↦ subst (λ (t : ℕ). t < F.order) (sym (get_or-set_other row e.0 i new d other))
          (so_far.codes i d (omega (arith, i_within, length-set row e.0 new)))
    ];
    same = λ place. elim (cases_eq place e.0) [
      | inl at ↦
          ap (λ (j : ℕ). get_or (set row e.0 new) j 0) at ∙ get_or-set_same row e.0 new 0 within
          ∙ ap (λ (t : ℕ). F.add t (F.mul by e.1)) (so_far.same e.0 ∙ ap (λ (t : ℕ). F.add (get_or old e.0 0) (F.mul by t)) none_here ∙ plus_none e.0)
          ∙ ap (λ (j : ℕ). F.add (get_or old j 0) (F.mul by e.1)) (sym at)
          ∙ ap (λ (t : ℕ). F.add (get_or old place 0) (F.mul by t)) (sym (coefficient-take_more es k place e chain below read
          ∙ ap (λ b. cond b e.1 (coefficient (take k es) place)) (eq-eqb place e.0 at)))
      | inr other ↦
          get_or-set_other row e.0 place new 0 other ∙ so_far.same place
          ∙ ap (λ (t : ℕ). F.add (get_or old place 0) (F.mul by t)) (sym (coefficient-take_more es k place e chain below read
          ∙ ap (λ b. cond b e.1 (coefficient (take k es) place)) (ne_eqb place e.0 other)))
    ];
  } where
    new : ℕ
    new = F.add (get_or row e.0 0) (F.mul by e.1)

    none_here : coefficient (take k es) e.0 ≡ 0
    none_here = coefficient-beyond (take k es) e.0 e.0 (All-take_before es k e chain below read) (omega arith)

  pub plus_end : (k : ℕ) (row : List ℕ) → IsRowPlus F old by es k row → length es ≤ k → (place : ℕ)
      → get_or row place 0 ≡ F.add (get_or old place 0) (F.mul by (coefficient es place))
  plus_end k row so_far all place = so_far.same place ∙ ap (λ (xs : List (ℕ × ℕ)). F.add (get_or old place 0) (F.mul by (coefficient xs place)))
      (take_all k es all)
