-- The columns that are reduced so far: none, one more, and all.
use Rattle.std.proofs.Common.{◌≡◌, ◌≢◌, Bool, true, false, cond, ◌==◌, inl, inr, ℕ, zero, suc, ◌+◌, ◌<◌, ◌≤◌, List, [], length, get_or, set, ap, sym, ◌∙◌, arith, refl, subst, All, Option, Some, None}
use Rattle.std.proofs.lemmas.Bool.{cases_eq, eq-eqb, ne_eqb, true≢false}
use Rattle.std.specs.Option.{is_some}
use Rattle.std.proofs.lemmas.List.{get_or-set_same, get_or-set_other, length-set, get_or_default}
use Rattle.std.proofs.lemmas.List.Elements.{All-set, All-nil, All-weaker}
use Rattle.std.proofs.lemmas.Option.{none-some, same_Some}
use Rattle.conley_lists.proofs.TestLemmas.{none_from_test}
use Rattle.conley_field.specs.Arithmetic.{Arithmetic, IsField}
use Rattle.conley_algebra.specs.Entries.{Vector}
use Rattle.conley_chains.specs.Chain.{coefficient, HasCodes}
use Rattle.conley_chains.specs.Matrix.{Table, column_count}
use Rattle.conley_homology.specs.Reduced.{IsColumn, EndsAt, IsReduced}
use Rattle.conley_homology.specs.Own.{own_entries, place_in, owner_at, vector_at, IsOwnComplex, IsDone, IsEnd, IsChainFor, IsReducedSoFar}
use Rattle.conley_lefschetz.specs.Listing.{dim_in}
use Rattle.conley_homology.proofs.ColumnLemmas.{column-level}

module _ {F : Arithmetic} (laws : IsField F) (m : Table) (dims cells : List ℕ) where
  dim_of : ℕ → ℕ
  dim_of i = dim_in dims (place_in cells i)

  -- the same cells done
  pub same_done : {keeps : Bool} (done done' : ℕ → Type 0) (kept reduced : List (List (ℕ × ℕ))) (owner : List (Option ℕ))
      → ((j : ℕ) → j < length cells → done j → done' j) → ((j : ℕ) → j < length cells → done' j → done j)
      → IsReducedSoFar F m dims cells keeps done kept reduced owner → IsReducedSoFar F m dims cells keeps done' kept reduced owner
  same_done done done' kept reduced owner to from s = record {
    kept_count = s.kept_count;
    reduced_count = s.reduced_count;
    owner_count = s.owner_count;
    kept_codes = s.kept_codes;
    reduced_codes = s.reduced_codes;
    chain = s.chain;
    is_kept = s.is_kept;
    column = λ i below is. s.column i below (from i below is);
    owns = λ p i below is. let o = s.owns p i below is in (o.0, to i o.0 o.1, o.2, o.3);
    ends = λ i below is. s.ends i below (from i below is);
  }

  -- a cell more, that has an owner
  pub owned_done : {keeps : Bool} (done done' : ℕ → Type 0) (kept reduced : List (List (ℕ × ℕ))) (owner : List (Option ℕ)) (i k : ℕ)
      → owner_at owner i ≡ Some k → ((j : ℕ) → j < length cells → done j → done' j) → ((j : ℕ) → j < length cells → j ≢ i → done' j → done j)
      → IsReducedSoFar F m dims cells keeps done kept reduced owner → IsReducedSoFar F m dims cells keeps done' kept reduced owner
  owned_done done done' kept reduced owner i k owned to from s = record {
    kept_count = s.kept_count;
    reduced_count = s.reduced_count;
    owner_count = s.owner_count;
    kept_codes = s.kept_codes;
    reduced_codes = s.reduced_codes;
    chain = s.chain;
    is_kept = s.is_kept;
    column = λ j below is none. s.column j below (from j below (λ e. none-some k (sym none ∙ ap (owner_at owner) e ∙ owned)) is) none;
    owns = λ p j below is. let o = s.owns p j below is in (o.0, to j o.0 o.1, o.2, o.3);
    ends = λ j below is none. s.ends j below (from j below (λ e. none-some k (sym none ∙ ap (owner_at owner) e ∙ owned)) is) none;
  }

  -- where the boundary of a new column ends: nowhere, or at a place without owner, that isn't done
  pub data NewOwner (done : ℕ → Type 0) (owner owner' : List (Option ℕ)) (i : ℕ) (reduced : List (ℕ × ℕ)) : Type 0 where
    nowhere : owner' ≡ owner → reduced ≡ [] → NewOwner done owner owner' i reduced
    at_place : (p : ℕ) → p < length cells → owner' ≡ set owner p (Some i) → owner_at owner p ≡ None → (done p → ⊥) → p ≢ i
        → EndsAt (place_in cells) p (coefficient reduced)
        → NewOwner done owner owner' i reduced

  module _ {keeps : Bool} (done done' : ℕ → Type 0) (kept reduced : List (List (ℕ × ℕ))) (owner : List (Option ℕ)) (i : ℕ) (new_kept new_reduced : List (ℕ × ℕ))
      (below : i < length cells) (not_done : done i → ⊥) (free : owner_at owner i ≡ None)
      (to : (j : ℕ) → j < length cells → done j → done' j) (is_done : done' i) (from : (j : ℕ) → j < length cells → j ≢ i → done' j → done j)
      (s : IsReducedSoFar F m dims cells keeps done kept reduced owner) (chains : IsChainFor F m dims cells keeps i new_kept new_reduced) where
    new_chain : (chains : List (List (ℕ × ℕ))) (chain : List (ℕ × ℕ)) → length chains ≡ length cells → get_or (set chains i chain) i [] ≡ chain
    new_chain chains chain count = get_or-set_same chains i chain [] (omega arith)

    other_chain : (chains : List (List (ℕ × ℕ))) (chain : List (ℕ × ℕ)) (j : ℕ) → j ≢ i → get_or (set chains i chain) j [] ≡ get_or chains j []
    other_chain chains chain j other = get_or-set_other chains i j chain [] other

    -- the chain of cell i is the new one
    chain_with : ℕ → Vector
    chain_with j x = cond (j == i) (chains.chain x) (s.chain j x)

    chain_with-new : (j : ℕ) → j ≡ i → chain_with j ≡ chains.chain
    unfolding chain_with
    chain_with-new j same = ap (λ b. (λ (x : ℕ). cond b (chains.chain x) (s.chain j x))) (eq-eqb j i same)

    chain_with-old : (j : ℕ) → j ≢ i → chain_with j ≡ s.chain j
    unfolding chain_with
    chain_with-old j other = ap (λ b. (λ (x : ℕ). cond b (chains.chain x) (s.chain j x))) (ne_eqb j i other)

    kept_with : keeps ≡ true → (j x : ℕ) → vector_at (set kept i new_kept) j x ≡ chain_with j x
    kept_with is j x = elim (cases_eq j i) [
      | inl same ↦
          ap (λ (k : ℕ). vector_at (set kept i new_kept) k x) same ∙ ap (λ (es : List (ℕ × ℕ)). coefficient es x) (new_chain kept new_kept s.kept_count)
          ∙ chains.is_kept is x ∙ sym (ap (λ (v : Vector). v x) (chain_with-new j same))
      | inr other ↦
          ap (λ (es : List (ℕ × ℕ)). coefficient es x) (other_chain kept new_kept j other) ∙ s.is_kept is j x
          ∙ sym (ap (λ (v : Vector). v x) (chain_with-old j other))
    ]

    column_at : (j : ℕ) → j < length cells → done' j → (j ≢ i → owner_at owner j ≡ None)
        → IsColumn F (column_count m) (own_entries m cells) (dim_in dims) (place_in cells) j (chain_with j) (vector_at (set reduced i new_reduced) j)
    column_at j j_below is none = elim (cases_eq j i) [
      | inl same ↦ rw (chain_with-new j same, same, new_chain reduced new_reduced s.reduced_count) chains.column
      | inr other ↦ rw (chain_with-old j other, other_chain reduced new_reduced j other) (s.column j j_below (from j j_below other is) (none other))
    ]

    -- what owned before has another chain than that of i
    owns_other : (p j : ℕ) → p < length cells → owner_at owner p ≡ Some j → j ≢ i
    owns_other p j p_below is e = not_done (subst done e (s.owns p j p_below is).1)

    pub column_done : (owner' : List (Option ℕ)) → NewOwner done owner owner' i new_reduced
        → IsReducedSoFar F m dims cells keeps done' (set kept i new_kept) (set reduced i new_reduced) owner'
    column_done owner' (nowhere same empty) = record {
      kept_count = length-set kept i new_kept ∙ s.kept_count;
      reduced_count = length-set reduced i new_reduced ∙ s.reduced_count;
      owner_count = ap (λ (xs : List (Option ℕ)). length xs) same ∙ s.owner_count;
      kept_codes = All-set (HasCodes F) kept i new_kept chains.kept_codes s.kept_codes;
      reduced_codes = All-set (HasCodes F) reduced i new_reduced chains.reduced_codes s.reduced_codes;
      chain = chain_with;
      is_kept = kept_with;
      column = λ j j_below is none. column_at j j_below is (λ other. sym (ap (λ (xs : List (Option ℕ)). owner_at xs j) same) ∙ none);
      owns = λ p j p_below is.
          let was : owner_at owner p ≡ Some j = sym (ap (λ (xs : List (Option ℕ)). owner_at xs p) same) ∙ is in
          let o = s.owns p j p_below was in
          (o.0, to j o.0 o.1, ap (λ (xs : List (Option ℕ)). owner_at xs j) same ∙ o.2, rw (other_chain reduced new_reduced j (owns_other p j p_below was)) o.3);
      ends = λ j j_below is none. elim (cases_eq j i) [
        | inl e ↦ inr (rw (e, new_chain reduced new_reduced s.reduced_count) empty)
        | inr other ↦ elim (s.ends j j_below (from j j_below other is) (sym (ap (λ (xs : List (Option ℕ)). owner_at xs j) same) ∙ none)) [
          | inl at ↦ inl (at.0, (at.1.0, ap (λ (xs : List (Option ℕ)). owner_at xs at.0) same ∙ at.1.1))
          | inr none' ↦ inr (other_chain reduced new_reduced j other ∙ none')
        ]
      ];
    }
    column_done owner' (at_place p p_below same no_owner p_not_done p_other ends_at) = record {
      kept_count = length-set kept i new_kept ∙ s.kept_count;
      reduced_count = length-set reduced i new_reduced ∙ s.reduced_count;
      owner_count = ap (λ (xs : List (Option ℕ)). length xs) same ∙ length-set owner p (Some i) ∙ s.owner_count;
      kept_codes = All-set (HasCodes F) kept i new_kept chains.kept_codes s.kept_codes;
      reduced_codes = All-set (HasCodes F) reduced i new_reduced chains.reduced_codes s.reduced_codes;
      chain = chain_with;
      is_kept = kept_with;
      column = λ j j_below is none. column_at j j_below is (λ other. was j none);
      owns = λ q j q_below is. elim (cases_eq q p) [
        | inl e ↦
            let i_is : i ≡ j = same_Some i j (sym (at_p q e) ∙ is) in
            subst (λ (k : ℕ). (k < length cells) × done' k × (owner_at owner' k ≡ None) × EndsAt (place_in cells) q (vector_at (set reduced i new_reduced) k))
            i_is
            (below, is_done, at_other i (λ h. p_other (sym h)) ∙ free, rw (new_chain reduced new_reduced s.reduced_count, e) ends_at)
        | inr other ↦
            let q_was : owner_at owner q ≡ Some j = sym (at_other q other) ∙ is in
            let o = s.owns q j q_below q_was in
            let not_p : j ≢ p = (λ h. p_not_done (subst done h o.1)) in
            (o.0, to j o.0 o.1, at_other j not_p ∙ o.2, rw (other_chain reduced new_reduced j (owns_other q j q_below q_was)) o.3)
      ];
      ends = λ j j_below is none. elim (cases_eq j i) [
        | inl e ↦ inl (p, (p_below, at_p p refl ∙ ap (λ (k : ℕ). Some k) (sym e)))
        | inr other ↦ elim (s.ends j j_below (from j j_below other is) (was j none)) [
          | inl at ↦ inl (at.0, (at.1.0, at_other at.0 (λ h. none-some j (sym no_owner ∙ sym (ap (owner_at owner) h) ∙ at.1.1)) ∙ at.1.1))
          | inr none' ↦ inr (other_chain reduced new_reduced j other ∙ none')
        ]
      ];
    } where
      at_p : (q : ℕ) → q ≡ p → owner_at owner' q ≡ Some i
      at_p q e = ap (owner_at owner') e ∙ ap (λ (xs : List (Option ℕ)). owner_at xs p) same
          ∙ get_or-set_same owner p (Some i) None (let c = s.owner_count in omega arith)

      at_other : (q : ℕ) → q ≢ p → owner_at owner' q ≡ owner_at owner q
      at_other q other = ap (λ (xs : List (Option ℕ)). owner_at xs q) same ∙ get_or-set_other owner p q (Some i) None other

      was : (j : ℕ) → owner_at owner' j ≡ None → owner_at owner j ≡ None
      was j none = elim (cases_eq j p) [
        | inl e ↦ absurd (none-some i (sym none ∙ at_p j e))
        | inr other ↦ sym (at_other j other) ∙ none
      ]

  -- all cells done
  pub all_done : {keeps : Bool} (done : ℕ → Type 0) (kept reduced : List (List (ℕ × ℕ))) (owner : List (Option ℕ)) → ((j : ℕ) → j < length cells → done j)
      → (s : IsReducedSoFar F m dims cells keeps done kept reduced owner)
      → IsReduced F (column_count m) (own_entries m cells) (dim_in dims) (length cells) (place_in cells) s.chain (vector_at reduced) (owner_at owner)
  all_done done kept reduced owner is s = record {
    column = λ i below none. s.column i below (is i below) none;
    owns = λ p i below owned. let o = s.owns p i below owned in (o.0, o.2, o.3);
    ends = λ i below none. elim (s.ends i below (is i below) none) [
      | inl at ↦ inl at
      | inr empty ↦ inr (λ x. ap (λ (es : List (ℕ × ℕ)). coefficient es x) empty)
    ];
  }

-- the cells of a level, one after another
module _ {F : Arithmetic} (laws : IsField F) (m : Table) (dims cells : List ℕ) (complex : IsOwnComplex F m dims cells) (kept reduced : List (List (ℕ × ℕ)))
    (owner : List (Option ℕ)) where
  pub level-other : {keeps : Bool} (level i : ℕ) → dim_in dims (place_in cells i) ≢ level
      → IsReducedSoFar F m dims cells keeps (IsDone dims cells level i) kept reduced owner
      → IsReducedSoFar F m dims cells keeps (IsDone dims cells level (i + 1)) kept reduced owner
  level-other level i other s = same_done laws m dims cells (IsDone dims cells level i) (IsDone dims cells level (i + 1)) kept reduced owner
      (λ j below is. elim is [ inl h ↦ inl h | inr h ↦ inr (h.0, (let l : j < i = h.1 in omega arith)) ])
      (λ j below is. elim is [
        | inl h ↦ inl h
        | inr h ↦ elim (cases_eq j i) [
          | inl e ↦ absurd (other (ap (λ (k : ℕ). dim_in dims (place_in cells k)) (sym e) ∙ h.0))
          | inr differs ↦ inr (h.0, (let l : j < i + 1 = h.1 in omega arith))
        ]
      ])
      s

  pub level-owned : {keeps : Bool} (level i k : ℕ) → owner_at owner i ≡ Some k
      → IsReducedSoFar F m dims cells keeps (IsDone dims cells level i) kept reduced owner
      → IsReducedSoFar F m dims cells keeps (IsDone dims cells level (i + 1)) kept reduced owner
  level-owned level i k owned s = owned_done laws m dims cells (IsDone dims cells level i) (IsDone dims cells level (i + 1)) kept reduced owner i k owned
      (λ j below is. elim is [ inl h ↦ inl h | inr h ↦ inr (h.0, (let l : j < i = h.1 in omega arith)) ])
      (λ j below differs is. elim is [ inl h ↦ inl h | inr h ↦ inr (h.0, (let l : j < i + 1 = h.1 in omega arith)) ])
      s

  pub level-column : {keeps : Bool} (level i end : ℕ) (new_kept new_reduced : List (ℕ × ℕ)) (owner' : List (Option ℕ)) → i < length cells
      → dim_in dims (place_in cells i) ≡ level → owner_at owner i ≡ None
      → IsReducedSoFar F m dims cells keeps (IsDone dims cells level i) kept reduced owner → IsChainFor F m dims cells keeps i new_kept new_reduced
      → IsEnd cells new_reduced end → ((p : ℕ) → end ≡ p + 1 → owner_at owner p ≡ None) → (end ≡ 0 → owner' ≡ owner)
      → ((p : ℕ) → end ≡ p + 1 → owner' ≡ set owner p (Some i))
      → IsReducedSoFar F m dims cells keeps (IsDone dims cells level (i + 1)) (set kept i new_kept) (set reduced i new_reduced) owner'
  level-column level i end new_kept new_reduced owner' below at_level free s chains is_end p_free nowhere_is place_is =
      column_done laws m dims cells (IsDone dims cells level i) (IsDone dims cells level (i + 1)) kept reduced owner i new_kept new_reduced below
      (λ is. elim is [ inl h ↦ absurd (omega arith) | inr h ↦ (let l : i < i = h.1 in absurd (omega arith)) ]) free
      (λ j j_below is. elim is [ inl h ↦ inl h | inr h ↦ inr (h.0, (let l : j < i = h.1 in omega arith)) ])
      (inr (at_level, omega arith))
      (λ j j_below differs is. elim is [ inl h ↦ inl h | inr h ↦ inr (h.0, (let l : j < i + 1 = h.1 in omega arith)) ])
      s chains owner' (by_end end is_end p_free nowhere_is place_is)
    where
      lower : (p : ℕ) → EndsAt (place_in cells) p (coefficient new_reduced) → dim_in dims (place_in cells i) ≡ dim_in dims (place_in cells p) + 1
      lower p ends = column-level laws (column_count m) (own_entries m cells) (dim_in dims) (place_in cells) i (place_in cells p) chains.chain
          (coefficient new_reduced) complex.one_down chains.column ends.lead

      by_end : (end : ℕ) → IsEnd cells new_reduced end → ((p : ℕ) → end ≡ p + 1 → owner_at owner p ≡ None) → (end ≡ 0 → owner' ≡ owner)
          → ((p : ℕ) → end ≡ p + 1 → owner' ≡ set owner p (Some i))
          → NewOwner laws m dims cells (IsDone dims cells level i) owner owner' i new_reduced
      by_end zero is_end p_free nowhere_is place_is = nowhere (nowhere_is refl) (is_end.none refl)
      by_end (suc p) is_end p_free nowhere_is place_is =
          let within : suc p ≤ length cells = is_end.within in
          let ends = is_end.at p (omega arith) in
          let down = lower p ends in
          at_place p (omega arith) (place_is p (omega arith)) (p_free p (omega arith))
          (λ is. elim is [ inl h ↦ omega arith | inr h ↦ (let e : dim_in dims (place_in cells p) ≡ level = h.0 in omega arith) ])
          (λ e. let same : dim_in dims (place_in cells p) ≡ dim_in dims (place_in cells i) = ap (λ (k : ℕ). dim_in dims (place_in cells k)) e in omega arith)
          ends

  pub level-next : {keeps : Bool} (level : ℕ) → IsReducedSoFar F m dims cells keeps (λ j. level + 1 ≤ dim_in dims (place_in cells j)) kept reduced owner
      → IsReducedSoFar F m dims cells keeps (IsDone dims cells level 0) kept reduced owner
  level-next level s = same_done laws m dims cells (λ j. level + 1 ≤ dim_in dims (place_in cells j)) (IsDone dims cells level 0) kept reduced owner
      (λ j below is. inl (omega arith)) (λ j below is. elim is [ inl h ↦ omega arith | inr h ↦ (let l : j < 0 = h.1 in absurd (omega arith)) ]) s

  pub level-same : {keeps : Bool} (level level' : ℕ) → level ≡ level' → IsReducedSoFar F m dims cells keeps (λ j. level ≤ dim_in dims (place_in cells j)) kept
      reduced owner
      → IsReducedSoFar F m dims cells keeps (λ j. level' ≤ dim_in dims (place_in cells j)) kept reduced owner
  level-same {keeps = keeps} level level' same s = subst (λ (n : ℕ). IsReducedSoFar F m dims cells keeps (λ j. n ≤ dim_in dims (place_in cells j)) kept reduced
      owner) same s

  pub level-end : {keeps : Bool} (level i : ℕ) → length cells ≤ i → IsReducedSoFar F m dims cells keeps (IsDone dims cells level i) kept reduced owner
      → IsReducedSoFar F m dims cells keeps (λ j. level ≤ dim_in dims (place_in cells j)) kept reduced owner
  level-end level i all s = same_done laws m dims cells (IsDone dims cells level i) (λ j. level ≤ dim_in dims (place_in cells j)) kept reduced owner
      (λ j below is. elim is [ inl h ↦ omega arith | inr h ↦ (let e : dim_in dims (place_in cells j) ≡ level = h.0 in omega arith) ])
      (λ j below is. elim (cases_eq (dim_in dims (place_in cells j)) level) [ inl e ↦ inr (e, omega arith) | inr other ↦ inl (omega arith) ]) s

  pub level-start : {keeps : Bool} (levels : ℕ) → All (λ d. d < levels) dims → length kept ≡ length cells → length reduced ≡ length cells
      → length owner ≡ length cells
      → All (λ es. es ≡ []) kept → All (λ es. es ≡ []) reduced → All (λ o. o ≡ None) owner
      → IsReducedSoFar F m dims cells keeps (λ j. levels ≤ dim_in dims (place_in cells j)) kept reduced owner
  level-start levels below kept_count reduced_count owner_count no_kept no_reduced no_owner = record {
    kept_count = kept_count;
    reduced_count = reduced_count;
    owner_count = owner_count;
    kept_codes = All-weaker (λ (es : List (ℕ × ℕ)). es ≡ []) (HasCodes F) (λ es e. rw e (All-nil (λ (x : ℕ × ℕ). x.1 < F.order))) kept no_kept;
    reduced_codes = All-weaker (λ (es : List (ℕ × ℕ)). es ≡ []) (HasCodes F) (λ es e. rw e (All-nil (λ (x : ℕ × ℕ). x.1 < F.order))) reduced no_reduced;
    chain = vector_at kept;
    is_kept = λ keeps i x. refl;
    column = λ i i_below is none. absurd (high i i_below is);
    owns = λ p i p_below is. absurd (none-some i (sym (no_owner p None (omega arith)) ∙ is));
    ends = λ i i_below is none. absurd (high i i_below is);
  } where
    high : (i : ℕ) → i < length cells → levels ≤ dim_in dims (place_in cells i) → ⊥
    high i i_below is =
        let cell : place_in cells i < column_count m = complex.cells i 0 i_below in
        let few = below (place_in cells i) 0 (let c = complex.dims_count in omega arith) in
        omega arith

option_some : (o : Option ℕ) → is_some o ≡ true → (k : ℕ) × (o ≡ Some k)
option_some None h = absurd (true≢false (sym h))
option_some (Some k) h = (k, refl)

-- an owner that is read
pub owner_some : (owner : List (Option ℕ)) (i : ℕ) (o : Option ℕ) → i < length owner → o ≡ get_or owner i o → is_some o ≡ true → (k : ℕ)
    × (owner_at owner i ≡ Some k)
owner_some owner i o below read h = let k = option_some o h in (k.0, sym (read ∙ get_or_default owner i o None below) ∙ k.1)

pub owner_none : (owner : List (Option ℕ)) (i : ℕ) (o : Option ℕ) → i < length owner → o ≡ get_or owner i o → is_some o ≡ false → owner_at owner i ≡ None
owner_none owner i o below read h = sym (read ∙ get_or_default owner i o None below) ∙ none_from_test o h
