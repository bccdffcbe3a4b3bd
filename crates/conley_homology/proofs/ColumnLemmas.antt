-- Chains with their boundaries: one cell, sums, and where they end.
use Rattle.std.proofs.Common.{◌≡◌, ◌≢◌, ◌⊎◌, inl, inr, ℕ, zero, suc, ◌+◌, ◌-◌, ◌<◌, ◌≤◌, Bool, true, cond, List, [], ◌∷◌, length, get_or, ap, sym, ◌∙◌, arith, refl, subst, Option, Some}
use Rattle.std.proofs.lemmas.Bool.{cases_Bool, cases_eq, cases_lt, eq-eqb, ne_eqb}
use Rattle.std.proofs.lemmas.List.{get_or_default}
use Rattle.conley_field.specs.Arithmetic.{Arithmetic, IsField}
use Rattle.conley_algebra.specs.Entries.{Vector, Entries, image_of, OnlyWhere}
use Rattle.conley_algebra.proofs.SumLemmas as sums
use Rattle.conley_algebra.proofs.ImageLemmas as images
use Rattle.conley_algebra.proofs.ImageLemmas.{image-not_zero}
use Rattle.conley_chains.proofs.ChainLemmas.{coefficient-below}
use Rattle.conley_chains.specs.Chain.{coefficient, HasCodes}
use Rattle.conley_chains.specs.Matrix.{Table, entry, column_count}
use Rattle.conley_homology.specs.Reduced.{IsUpTo, IsColumn, EndsAt}
use Rattle.conley_homology.specs.Own.{own_entries, place_in, owner_at, vector_at, IsOwnComplex, IsDone, IsEnd, IsChainFor, IsLast, IsReducedSoFar}
use Rattle.conley_lefschetz.specs.Listing.{dim_in}
use Rattle.std.specs.List.Sorted.{IsStrictlyIncreasing}
use Rattle.conley_lists.specs.Lists.{is_listed}
use Rattle.conley_homology.proofs.PlaceLemmas.{listed_place, place-distinct, place_before}

module _ {F : Arithmetic} (laws : IsField F) (n : ℕ) (d : Entries) (dim place : ℕ → ℕ) where
  single : ℕ → Vector
  single cell = coefficient ((cell, 1) ∷ [])

  single-same : (cell x : ℕ) → x ≡ cell → single cell x ≡ 1
  unfolding single
  single-same cell x same = ap (λ b. cond b 1 0) (eq-eqb x cell same)

  single-other : (cell x : ℕ) → x ≢ cell → single cell x ≡ 0
  unfolding single
  single-other cell x other = ap (λ b. cond b 1 0) (ne_eqb x cell other)

  single_at : (cell x : ℕ) → single cell x ≢ 0 → x ≡ cell
  single_at cell x some = elim (cases_eq x cell) [ inl same ↦ same | inr other ↦ absurd (some (single-other cell x other)) ]

  -- a cell alone, with its boundary
  pub column-single : (i : ℕ) (r : Vector) → place i < n → ((x : ℕ) → d x (place i) < F.order) → ((x : ℕ) → r x ≡ d x (place i))
      → IsColumn F n d dim place i (coefficient ((place i, 1) ∷ [])) r
  unfolding single
  column-single i r below codes same = record {
    codes = λ x. elim (cases_eq x (place i)) [
      | inl e ↦ rw (single-same (place i) x e) laws.one_below
      | inr e ↦ rw (single-other (place i) x e) (sums.zero_below laws)
    ];
    lead = λ none. (let one : single (place i) (place i) ≡ 1 = single-same (place i) (place i) refl in let zero : single (place i) (place i) ≡ 0 = none in
        absurd (omega arith));
    support = λ x some. (i, (omega arith, single_at (place i) x some));
    level = λ x some. ap dim (single_at (place i) x some);
    is = λ x. sym (
        sums.sum_below-single laws n (λ k. F.mul (d x k) (single (place i) k)) (place i) below (laws.mul_below _ _)
        (λ k k_below other. ap (F.mul (d x k)) (single-other (place i) k other) ∙ sums.mul-zero laws (d x k))
        ∙ ap (F.mul (d x (place i))) (single-same (place i) (place i) refl) ∙ laws.mul_one (d x (place i)) (codes x) ∙ sym (same x));
  }

  -- a multiple of the chain of an earlier cell more
  pub column-add : (m i j by : ℕ) (v r v' r' v'' r'' : Vector) → ((a b : ℕ) → a < m → b < m → place a ≡ place b → a ≡ b) → i < m → j < i
      → dim (place j) ≡ dim (place i) → by < F.order
      → IsColumn F n d dim place i v r → IsColumn F n d dim place j v' r'
      → ((x : ℕ) → v'' x ≡ F.add (v x) (F.mul by (v' x))) → ((x : ℕ) → r'' x ≡ F.add (r x) (F.mul by (r' x)))
      → IsColumn F n d dim place i v'' r''
  column-add m i j by v r v' r' v'' r'' distinct i_below before same_level by_below here there v_sum r_sum = record {
    codes = λ x. subst (λ t. t < F.order) (sym (v_sum x)) (laws.add_below _ _);
    lead = λ none. here.lead (sym (laws.add_zero (v (place i)) (here.codes (place i))) ∙ ap (F.add (v (place i)))
        (sym (ap (F.mul by) not_there ∙ sums.mul-zero laws by)) ∙ sym (v_sum (place i)) ∙ none);
    support = λ x some. elim (v_some x some) [
      | inl h ↦ here.support x h
      | inr h ↦ (let at = there.support x h in let below : at.0 < j + 1 = at.1.0 in (at.0, (omega arith, at.1.1)))
    ];
    level = λ x some. elim (v_some x some) [ inl h ↦ here.level x h | inr h ↦ there.level x h ∙ same_level ];
    is = λ x.
        r_sum x ∙ ap (λ t. F.add t (F.mul by (r' x))) (here.is x) ∙ ap (λ t. F.add (image_of F n d v x) (F.mul by t)) (there.is x)
        ∙ ap (F.add (image_of F n d v x)) (sym (images.image-mul laws n d by v' x)) ∙ sym (images.image-add laws n d v (λ y. F.mul by (v' y)) x)
        ∙ sums.sum_below-congr laws n _ _ (λ k below. ap (F.mul (d x k)) (sym (v_sum k)));
  } where
    not_there : v' (place i) ≡ 0
    not_there = elim (cases_eq (v' (place i)) 0) [
      | inl none ↦ none
      | inr some ↦
          let at = there.support (place i) some in
          let below : at.0 < j + 1 = at.1.0 in
          let same : i ≡ at.0 = distinct i at.0 i_below (omega arith) at.1.1 in
          absurd (omega arith)
    ]

    v_some : (x : ℕ) → v'' x ≢ 0 → (v x ≢ 0) ⊎ (v' x ≢ 0)
    v_some x some = elim (cases_eq (v x) 0) [
      | inr h ↦ inl h
      | inl none ↦ inr (λ none'. some (v_sum x ∙ ap (λ t. F.add t (F.mul by (v' x))) none ∙ ap (λ t. F.add 0 (F.mul by t)) none'
          ∙ ap (F.add 0) (sums.mul-zero laws by) ∙ sums.add_zero_zero laws))
    ]

  -- two chains that end at one cell, and of which a combination is zero there: it ends before
  pub end-before : (m p q by : ℕ) (r r' r'' : Vector) → ((a b : ℕ) → a < m → b < m → place a ≡ place b → a ≡ b) → p < m → q < m
      → EndsAt place p r → EndsAt place p r' → ((x : ℕ) → r'' x ≡ F.add (r x) (F.mul by (r' x))) → r'' (place p) ≡ 0 → EndsAt place q r'' → q < p
  end-before m p q by r r' r'' distinct p_below q_below here there sum none ends =
      let at : IsUpTo place (p + 1) (place q) = elim (cases_eq (r (place q)) 0) [
        | inr h ↦ here.support (place q) h
        | inl no_r ↦ there.support (place q) (λ no_r'. ends.lead (sum (place q) ∙ ap (λ t. F.add t (F.mul by (r' (place q)))) no_r
            ∙ ap (λ t. F.add 0 (F.mul by t)) no_r' ∙ ap (F.add 0) (sums.mul-zero laws by) ∙ sums.add_zero_zero laws))
      ] in
      let below : at.0 < p + 1 = at.1.0 in
      let same : q ≡ at.0 = distinct q at.0 q_below (omega arith) at.1.1 in
      let other : q ≢ p = (λ e. ends.lead (ap (λ k. r'' (place k)) e ∙ none)) in
      omega arith

  -- a boundary lies one dimension down
  pub column-level : (i y : ℕ) (v r : Vector) → OnlyWhere (λ y x. dim x ≡ dim y + 1) d → IsColumn F n d dim place i v r → r y ≢ 0 → dim (place i) ≡ dim y + 1
  column-level i y v r one_down column some =
      let at = image-not_zero laws n d v y (λ none. some (column.is y ∙ none)) in
      sym (column.level at.0 at.1.1) ∙ one_down y at.0 at.1.0

-- a chain that is read
pub chain_read : (chains : List (List (ℕ × ℕ))) (j : ℕ) (es : List (ℕ × ℕ)) → j < length chains → es ≡ get_or chains j es → es ≡ get_or chains j []
chain_read chains j es below read = read ∙ get_or_default chains j es [] below

-- what a multiple clears
pub clears : {F : Arithmetic} (laws : IsField F) (t s : ℕ) → t < F.order → s < F.order → s ≢ 0 → F.add t (F.mul (F.neg (F.mul t (F.inv s))) s) ≡ 0
clears {F} laws t s t_below s_below some =
    ap (F.add t) (sums.neg-mul laws (F.mul t (F.inv s)) s
    ∙ ap F.neg (laws.mul_assoc t (F.inv s) s ∙ ap (F.mul t) (laws.mul_comm (F.inv s) s ∙ laws.mul_inv s (let h : s ≢ 0 = some in omega arith) s_below)
    ∙ laws.mul_one t t_below))
    ∙ laws.add_neg t

-- where a chain with a last entry ends
pub IsEnd-last : (set : List ℕ) (chain : List (ℕ × ℕ)) (e : ℕ × ℕ) (place : ℕ) → IsStrictlyIncreasing set
    → ((x : ℕ) → coefficient chain x ≢ 0 → is_listed set x ≡ true)
    → IsLast chain e → place < length set → place_in set place ≡ e.0 → IsEnd set chain (place + 1)
IsEnd-last set chain e place up listed last below at = record {
  within = omega arith;
  none = λ h. absurd (omega arith);
  at = λ p same. let e' : p ≡ place = omega arith in rw e' ends;
} where
  ends : EndsAt (place_in set) place (coefficient chain)
  ends = record {
    lead = λ none. last.not_zero (sym last.at ∙ ap (coefficient chain) (sym at) ∙ none);
    support = λ x some.
        let found = listed_place set x (listed x some) in
        let found_below : found.0 < length set = found.1.0 in
        let found_at : x ≡ place_in set found.0 = found.1.1 in
        let least : x ≤ e.0 = elim (cases_lt e.0 x) [ inl after ↦ absurd (some (last.beyond x after)) | inr h ↦ h ] in
        let before : found.0 ≤ place = place_before set up found.0 place found_below below (omega arith) in
        (found.0, (omega arith, found_at));
  }

module _ {F : Arithmetic} (laws : IsField F) (m : Table) (dims set : List ℕ) (complex : IsOwnComplex F m dims set) where
  -- the owner of a place where the boundary of cell i ends
  pub record IsSource (chain : ℕ → Vector) (reduced : List (List (ℕ × ℕ))) (i p j : ℕ) : Type 0 where
    pub within : j < length set
    pub before : j < i
    pub same_level : dim_in dims (place_in set j) ≡ dim_in dims (place_in set i)
    pub column : IsColumn F (column_count m) (own_entries m set) (dim_in dims) (place_in set) j (chain j) (vector_at reduced j)
    pub ends : EndsAt (place_in set) p (vector_at reduced j)

  pub source : {keeps : Bool} (kept reduced : List (List (ℕ × ℕ))) (owner : List (Option ℕ)) (i p j : ℕ) (v r : Vector)
      → (so_far : IsReducedSoFar F m dims set keeps (IsDone dims set (dim_in dims (place_in set i)) i) kept reduced owner)
      → IsColumn F (column_count m) (own_entries m set) (dim_in dims) (place_in set) i v r → EndsAt (place_in set) p r → p < length set
      → owner_at owner p ≡ Some j
      → IsSource so_far.chain reduced i p j
  source kept reduced owner i p j v r so_far own ends below is =
      let o = so_far.owns p j below is in
      let column = so_far.column j o.0 o.1 o.2 in
      let level_j = column-level laws (column_count m) (own_entries m set) (dim_in dims) (place_in set) j (place_in set p) (so_far.chain j)
      (vector_at reduced j) complex.one_down column o.3.lead in
      let level_i = column-level laws (column_count m) (own_entries m set) (dim_in dims) (place_in set) i (place_in set p) v r complex.one_down own ends.lead in
      record {
        within = o.0;
        before = elim o.1 [ inl higher ↦ absurd (omega arith) | inr same ↦ same.1 ];
        same_level = level_j ∙ sym level_i;
        column = column;
        ends = o.3;
      }

  -- column j is the owner of the place before an end: what its lists keep, and the place
  pub record IsOwned (chain : ℕ → Vector) (kept reduced : List (List (ℕ × ℕ))) (i end j : ℕ) : Type 0 where
    pub place : ℕ
    pub end_is : end ≡ place + 1
    pub below : place < length set
    pub cell : get_or set (end - 1) 0 ≡ place_in set place
    pub source_is : IsSource chain reduced i place j
    pub reduced_within : j < length reduced
    pub kept_within : j < length kept
    pub reduced_codes : (es : List (ℕ × ℕ)) → es ≡ get_or reduced j es → HasCodes F es
    pub kept_codes : (es : List (ℕ × ℕ)) → es ≡ get_or kept j es → HasCodes F es

  pub owned : {keeps : Bool} (kept reduced : List (List (ℕ × ℕ))) (owner : List (Option ℕ)) (i end j : ℕ) (v r : Vector)
      → (so_far : IsReducedSoFar F m dims set keeps (IsDone dims set (dim_in dims (place_in set i)) i) kept reduced owner)
      → IsColumn F (column_count m) (own_entries m set) (dim_in dims) (place_in set) i v r → end ≤ length set
      → ((p : ℕ) → end ≡ p + 1 → EndsAt (place_in set) p r)
      → (p : ℕ) × ((end ≡ p + 1) × (owner_at owner p ≡ Some j)) → IsOwned so_far.chain kept reduced i end j
  owned kept reduced owner i end j v r so_far own within ends at =
      let p = at.0 in
      let end_is : end ≡ p + 1 = at.1.0 in
      let below : p < length set = omega (arith, end_is, within) in
      let is = source kept reduced owner i p j v r so_far own (ends p end_is) below at.1.1 in
      let reduced_within : j < length reduced = omega (arith, is.within, so_far.reduced_count) in
      let kept_within : j < length kept = omega (arith, is.within, so_far.kept_count) in
      let same : end - 1 ≡ p = omega arith in
      record {
        place = p;
        end_is = end_is;
        below = below;
        cell = ap (λ (k : ℕ). get_or set k 0) same;
        source_is = is;
        reduced_within = reduced_within;
        kept_within = kept_within;
        reduced_codes = λ es read. rw (chain_read reduced j es reduced_within read) (so_far.reduced_codes j [] reduced_within);
        kept_codes = λ es read. rw (chain_read kept j es kept_within read) (so_far.kept_codes j [] kept_within);
      }

  pub chain-more : {keeps : Bool} (chain : ℕ → Vector) (kept reduced : List (List (ℕ × ℕ))) (i p j by : ℕ)
      (own_kept own_reduced new_kept new_reduced : List (ℕ × ℕ))
      → i < length set → IsSource chain reduced i p j → (keeps ≡ true → (x : ℕ) → vector_at kept j x ≡ chain j x)
      → IsChainFor F m dims set keeps i own_kept own_reduced → by < F.order
      → ((x : ℕ) → coefficient new_kept x ≡ F.add (coefficient own_kept x) (F.mul by (vector_at kept j x))) → HasCodes F new_kept
      → ((x : ℕ) → coefficient new_reduced x ≡ F.add (coefficient own_reduced x) (F.mul by (vector_at reduced j x))) → HasCodes F new_reduced
      → IsChainFor F m dims set keeps i new_kept new_reduced
  chain-more chain kept reduced i p j by own_kept own_reduced new_kept new_reduced below s is_kept chains by_below kept_sum kept_codes reduced_sum
      reduced_codes = record {
        chain = λ x. F.add (chains.chain x) (F.mul by (chain j x));
        is_kept = λ keeps x.
            kept_sum x ∙ ap (λ (t : ℕ). F.add t (F.mul by (vector_at kept j x))) (chains.is_kept keeps x)
            ∙ ap (λ (t : ℕ). F.add (chains.chain x) (F.mul by t)) (is_kept keeps x);
        column = column-add laws (column_count m) (own_entries m set) (dim_in dims) (place_in set) (length set) i j by chains.chain (coefficient own_reduced)
            (chain j) (vector_at reduced j)
            (λ x. F.add (chains.chain x) (F.mul by (chain j x))) (coefficient new_reduced) (place-distinct set complex.ascending) below s.before s.same_level
            by_below chains.column s.column (λ x. refl) reduced_sum;
        kept_codes = kept_codes;
        reduced_codes = reduced_codes;
      }

  -- the end goes down
  pub end-smaller : (chain : ℕ → Vector) (reduced : List (List (ℕ × ℕ))) (i p j by end : ℕ) (own_reduced new_reduced : List (ℕ × ℕ))
      → IsSource chain reduced i p j → p < length set → EndsAt (place_in set) p (coefficient own_reduced)
      → ((x : ℕ) → coefficient new_reduced x ≡ F.add (coefficient own_reduced x) (F.mul by (vector_at reduced j x)))
      → F.add (coefficient own_reduced (place_in set p)) (F.mul by (vector_at reduced j (place_in set p))) ≡ 0
      → IsEnd set new_reduced end → end < p + 1
  end-smaller chain reduced i p j by zero own_reduced new_reduced s below ends sum cleared is_end = omega arith
  end-smaller chain reduced i p j by (suc q) own_reduced new_reduced s below ends sum cleared is_end =
      let within : suc q ≤ length set = is_end.within in
      let before : q < p =
      end-before laws (column_count m) (own_entries m set) (dim_in dims) (place_in set) (length set) p q by (coefficient own_reduced) (vector_at reduced j)
      (coefficient new_reduced) (place-distinct set complex.ascending)
      below (omega arith) ends s.ends sum (sum (place_in set p) ∙ cleared) (is_end.at q (omega arith)) in
      omega arith

  -- a cell with its own boundary
  pub chain-start : {keeps : Bool} (i : ℕ) (own_kept own_reduced : List (ℕ × ℕ)) → i < length set → (keeps ≡ true → own_kept ≡ (place_in set i, 1) ∷ [])
      → HasCodes F own_kept
      → ((x : ℕ) → coefficient own_reduced x ≡ own_entries m set x (place_in set i)) → HasCodes F own_reduced
      → IsChainFor F m dims set keeps i own_kept own_reduced
  chain-start i own_kept own_reduced below is kept_codes same codes = record {
    chain = coefficient ((place_in set i, 1) ∷ []);
    is_kept = λ keeps x. ap (λ (es : List (ℕ × ℕ)). coefficient es x) (is keeps);
    column = column-single laws (column_count m) (own_entries m set) (dim_in dims) (place_in set) i (coefficient own_reduced) (complex.cells i 0 below)
        (λ x. subst (λ t. t < F.order) (same x) (coefficient-below laws own_reduced x codes)) same;
    kept_codes = kept_codes;
    reduced_codes = codes;
  }

  -- a boundary lies on the set
  pub chain-listed : {keeps : Bool} (i : ℕ) (own_kept own_reduced : List (ℕ × ℕ)) → IsChainFor F m dims set keeps i own_kept own_reduced → (x : ℕ)
      → coefficient own_reduced x ≢ 0 → is_listed set x ≡ true
  chain-listed i own_kept own_reduced chains x some =
      let at = image-not_zero laws (column_count m) (own_entries m set) chains.chain x (λ none. some (chains.column.is x ∙ none)) in
      elim (cases_Bool (is_listed set x)) [
        | inl h ↦ h
        | inr h ↦ absurd (at.1.0 (ap (λ b. cond b (cond (is_listed set at.0) (entry m x at.0) 0) 0) h))
      ]
