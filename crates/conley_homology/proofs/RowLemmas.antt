-- A column as a row of codes: made from a chain, a multiple of another column more, and a chain again.
use Rattle.std.proofs.Common.{◌≡◌, ◌≢◌, inl, inr, ℕ, zero, suc, ◌+◌, ◌<◌, ◌≤◌, Bool, true, List, length, ap, sym, ◌∙◌, arith, refl, subst, All}
use Rattle.std.specs.Prelude.{slice_index}
use Rattle.std.proofs.lemmas.Bool.{cases_eq, cases_lt}
use Rattle.conley_field.specs.Arithmetic.{Arithmetic, IsField}
use Rattle.conley_algebra.specs.Entries.{Vector}
use Rattle.conley_algebra.proofs.SumLemmas as sums
use Rattle.conley_chains.specs.Chain.{coefficient, IsChain, HasCodes}
use Rattle.conley_chains.specs.Matrix.{Table, column_count}
use Rattle.conley_chains.proofs.ChainLemmas.{coefficient-below}
use Rattle.conley_lefschetz.specs.Listing.{dim_in}
use Rattle.conley_homology.specs.Reduced.{IsUpTo}
use Rattle.conley_homology.specs.Own.{own_entries, place_in, vector_at, IsOwnComplex, IsEnd, IsChainFor}
use Rattle.conley_homology.specs.Row.{IsRowFor}
use Rattle.conley_homology.proofs.PlaceLemmas.{chain-empty, place-distinct}
use Rattle.conley_homology.proofs.ColumnLemmas.{IsSource, column-add}

module _ {F : Arithmetic} (laws : IsField F) (m : Table) (dims set : List ℕ) (complex : IsOwnComplex F m dims set) {keeps : Bool} (i : ℕ) where
  -- a chain as a row
  pub row-start : (kept reduced : List (ℕ × ℕ)) (row : List ℕ) (end : ℕ) → IsChainFor F m dims set keeps i kept reduced → IsEnd set reduced end
      → ((x : ℕ) → slice_index row x ≡ F.add 0 (F.mul 1 (coefficient reduced x))) → length row ≡ length dims → All (λ a. a < F.order) row
      → IsRowFor F m dims set keeps i kept row end
  row-start kept reduced row end chains ends sum width codes = record {
    chain = chains.chain;
    is_kept = chains.is_kept;
    column = record {
      codes = chains.column.codes;
      lead = chains.column.lead;
      support = chains.column.support;
      level = chains.column.level;
      is = λ x. same x
          ∙ chains.column.is x;
    };
    kept_codes = chains.kept_codes;
    width = width;
    codes = codes;
    within = ends.within;
    upto = λ x some. from end ends x (λ none. some (same x ∙ none));
    lead = λ p is none. (ends.at p is).lead (sym (same (place_in set p)) ∙ none);
  } where
    same : (x : ℕ) → slice_index row x ≡ coefficient reduced x
    same x =
        let below = coefficient-below laws reduced x chains.reduced_codes in
        sum x ∙ laws.add_comm 0 (F.mul 1 (coefficient reduced x)) ∙ laws.add_zero (F.mul 1 (coefficient reduced x)) (laws.mul_below _ _)
        ∙ laws.mul_comm 1 (coefficient reduced x) ∙ laws.mul_one (coefficient reduced x) below

    from : (n : ℕ) → IsEnd set reduced n → (x : ℕ) → coefficient reduced x ≢ 0 → IsUpTo (place_in set) n x
    from zero is x some = absurd (some (ap (λ (es : List (ℕ × ℕ)). coefficient es x) (is.none refl)))
    from (suc p) is x some = subst (λ (k : ℕ). IsUpTo (place_in set) k x) (let e : p + 1 ≡ suc p = omega arith in e) ((is.at p (omega arith)).support x some)

  -- a multiple of an earlier column more
  pub row-more : (chain : ℕ → Vector) (kept reduced : List (List (ℕ × ℕ))) (p j by : ℕ) (own_kept new_kept : List (ℕ × ℕ)) (row new_row : List ℕ)
      (end new_end : ℕ)
      → i < length set → IsSource laws m dims set complex chain reduced i p j → (keeps ≡ true → (x : ℕ) → vector_at kept j x ≡ chain j x)
      → IsRowFor F m dims set keeps i own_kept row end → end ≡ p + 1 → by < F.order
      → ((x : ℕ) → coefficient new_kept x ≡ F.add (coefficient own_kept x) (F.mul by (vector_at kept j x))) → HasCodes F new_kept
      → ((x : ℕ) → slice_index new_row x ≡ F.add (slice_index row x) (F.mul by (vector_at reduced j x))) → length new_row ≡ length row
      → All (λ a. a < F.order) new_row
      → new_end ≤ end → ((k : ℕ) → new_end ≤ k → k < end → slice_index new_row (place_in set k) ≡ 0)
      → ((q : ℕ) → new_end ≡ q + 1 → slice_index new_row (place_in set q) ≢ 0)
      → IsRowFor F m dims set keeps i new_kept new_row new_end
  row-more chain kept reduced p j by own_kept new_kept row new_row end new_end below s is_kept r ends by_below kept_sum kept_codes row_sum width codes within
      past lead = record {
        chain = λ x. F.add (r.chain x) (F.mul by (chain j x));
        is_kept = λ keeps x.
            kept_sum x ∙ ap (λ (t : ℕ). F.add t (F.mul by (vector_at kept j x))) (r.is_kept keeps x)
            ∙ ap (λ (t : ℕ). F.add (r.chain x) (F.mul by t)) (is_kept keeps x);
        column = column-add laws (column_count m) (own_entries m set) (dim_in dims) (place_in set) (length set) i j by r.chain (slice_index row) (chain j)
            (vector_at reduced j)
            (λ x. F.add (r.chain x) (F.mul by (chain j x))) (slice_index new_row) (place-distinct set complex.ascending) below s.before s.same_level by_below
            r.column s.column (λ x. refl) row_sum;
        kept_codes = kept_codes;
        width = width ∙ r.width;
        codes = codes;
        within = (let h = r.within in omega (arith, within));
        upto = λ x some.
            let at = before x some in
            elim (cases_lt at.0 new_end) [
              | inl less ↦ (at.0, (less, at.1.1))
              | inr more ↦ absurd (some (ap (slice_index new_row) at.1.1 ∙ past at.0 more at.1.0))
            ];
        lead = lead;
      } where
        before : (x : ℕ) → slice_index new_row x ≢ 0 → IsUpTo (place_in set) end x
        before x some = elim (cases_eq (slice_index row x) 0) [
          | inr here ↦ r.upto x here
          | inl none ↦ subst (λ (k : ℕ). IsUpTo (place_in set) k x) (sym ends) (s.ends.support x (λ none'.
              some (row_sum x ∙ ap (λ t. F.add t (F.mul by (vector_at reduced j x))) none ∙ ap (λ t. F.add 0 (F.mul by t)) none'
              ∙ ap (F.add 0) (sums.mul-zero laws by) ∙ sums.add_zero_zero laws)))
        ]

  -- the row as a chain
  pub row-chain : (kept es : List (ℕ × ℕ)) (row : List ℕ) (end : ℕ) → IsRowFor F m dims set keeps i kept row end
      → ((x : ℕ) → coefficient es x ≡ slice_index row x) → HasCodes F es
      → IsChainFor F m dims set keeps i kept es
  row-chain kept es row end r same codes = record {
    chain = r.chain;
    is_kept = r.is_kept;
    column = record { codes = r.column.codes; lead = r.column.lead; support = r.column.support; level = r.column.level; is = λ x. same x ∙ r.column.is x };
    kept_codes = r.kept_codes;
    reduced_codes = codes;
  }

  pub row-end : (kept es : List (ℕ × ℕ)) (row : List ℕ) (end : ℕ) → IsRowFor F m dims set keeps i kept row end
      → ((x : ℕ) → coefficient es x ≡ slice_index row x) → IsChain es → IsEnd set es end
  row-end kept es row end r same chain = record {
    within = r.within;
    none = λ nothing. chain-empty es chain (λ x. elim (cases_eq (coefficient es x) 0) [
      | inl none ↦ none
      | inr some ↦ (let at = r.upto x (λ none. some (same x ∙ none)) in absurd (omega (arith, at.1.0, nothing)))
    ]);
    at = λ p is. record {
      lead = λ none. r.lead p is (sym (same (place_in set p)) ∙ none);
      support = λ x some. subst (λ (k : ℕ). IsUpTo (place_in set) k x) is (r.upto x (λ none. some (same x ∙ none)));
    };
  }
