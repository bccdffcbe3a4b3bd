-- A set of one cell: its own boundary is zero, so the cell is a cycle.
use Rattle.std.proofs.Common.{◌≡◌, ◌≢◌, inl, inr, ℕ, ◌+◌, ◌<◌, ◌≤◌, ◌==◌, true, false, cond, List, [], ◌∷◌, length, get_or, ap, sym, ◌∙◌, arith, refl, subst, Option, None}
use Rattle.std.proofs.lemmas.Bool.{cases_Bool, cases_eq, eq-eqb, ne_eqb, true≢false}
use Rattle.std.proofs.lemmas.List.Elements.{All-cons, All-nil}
use Rattle.std.proofs.lemmas.Option.{none-some}
use Rattle.conley_lists.specs.Lists.{is_listed}
use Rattle.conley_field.specs.Arithmetic.{Arithmetic, IsField}
use Rattle.conley_algebra.proofs.SumLemmas as sums
use Rattle.conley_chains.specs.Chain.{coefficient, HasCodes}
use Rattle.conley_chains.specs.Matrix.{Table, entry, column_count}
use Rattle.conley_faces.specs.Face.{IsCellList, IsLocallyClosed}
use Rattle.conley_lefschetz.specs.Listing.{dim_in}
use Rattle.conley_lefschetz.specs.Complex.{Layout, IsLayout}
use Rattle.conley_lefschetz.specs.Conley.{AreConleyNumbers}
use Rattle.conley_homology.specs.Reduced.{IsFree}
use Rattle.conley_homology.specs.Own.{own_entries, place_in, owner_at, vector_at, IsOwnComplex, IsReducedSoFar}
use Rattle.conley_homology.specs.Homology.{IsCounted}
use Rattle.conley_homology.proofs.PlaceLemmas.{listed_place}
use Rattle.conley_homology.proofs.ColumnLemmas.{column-single}
use Rattle.conley_homology.proofs.CollectedLemmas.{AreCounted, counted-none, counted-other, counted-more}
use Rattle.conley_homology.proofs.RelativeLemmas.{own_complex, counted-AreConleyNumbers}

-- one empty chain, and a cell that no boundary ends at
empties : List (List (ℕ × ℕ))
empties = [] ∷ []

owners : List (Option ℕ)
owners = None ∷ []

module _ {F : Arithmetic} (laws : IsField F) (m : Table) (dims set : List ℕ) (complex : IsOwnComplex F m dims set) (one : length set ≡ 1) where
  listed : (x : ℕ) → own_entries m set x (place_in set 0) ≢ 0 → is_listed set x ≡ true
  listed x some = elim (cases_Bool (is_listed set x)) [
    | inl h ↦ h
    | inr h ↦ absurd (some (ap (λ b. cond b (cond (is_listed set (place_in set 0)) (entry m x (place_in set 0)) 0) 0) h))
  ]

  -- the boundary of the cell has no entry at the cell, which is of another dimension
  own_zero : (x : ℕ) → own_entries m set x (place_in set 0) ≡ 0
  own_zero x = elim (cases_eq (own_entries m set x (place_in set 0)) 0) [
    | inl none ↦ none
    | inr some ↦
        let at = listed_place set x (listed x some) in
        let at_below : at.0 < length set = at.1.0 in
        let first : at.0 ≡ 0 = omega arith in
        let level : dim_in dims x ≡ dim_in dims (place_in set 0) = ap (dim_in dims) (at.1.1 ∙ ap (place_in set) first) in
        let down : dim_in dims (place_in set 0) ≡ dim_in dims x + 1 = complex.one_down x (place_in set 0) some in
        absurd (omega arith)
  ]

  -- nothing is to be reduced
  single-reduced : IsReducedSoFar F m dims set false (λ j. 0 ≤ dim_in dims (place_in set j)) empties empties owners
  unfolding empties owners
  single-reduced = record {
    kept_count = sym one;
    reduced_count = sym one;
    owner_count = sym one;
    kept_codes = All-cons (HasCodes F) [] [] (All-nil (λ (e : ℕ × ℕ). e.1 < F.order)) (All-nil (HasCodes F));
    reduced_codes = All-cons (HasCodes F) [] [] (All-nil (λ (e : ℕ × ℕ). e.1 < F.order)) (All-nil (HasCodes F));
    chain = λ i. coefficient ((place_in set i, 1) ∷ []);
    is_kept = λ keeps. absurd (true≢false (sym keeps));
    column = λ i below done none.
        let first : i ≡ 0 = omega arith in
        let zero : (x : ℕ) → own_entries m set x (place_in set i) ≡ 0 = (λ x. ap (λ (k : ℕ). own_entries m set x (place_in set k)) first ∙ own_zero x) in
        column-single laws (column_count m) (own_entries m set) (dim_in dims) (place_in set) i (vector_at ([] ∷ []) i) (complex.cells i 0 below)
        (λ x. subst (λ (t : ℕ). t < F.order) (sym (zero x)) (sums.zero_below laws))
        (λ x. ap (λ (k : ℕ). vector_at ([] ∷ []) k x) first ∙ sym (zero x));
    owns = λ p i below is. (let first : p ≡ 0 = omega arith in absurd (none-some i (sym (ap (owner_at (None ∷ [])) first) ∙ is)));
    ends = λ i below done none. (let first : i ≡ 0 = omega arith in inr (ap (λ (k : ℕ). get_or ([] ∷ []) k []) first));
  }

  -- the one cell is free
  single-counted : (levels : ℕ) (numbers : List ℕ) → length numbers ≡ levels
      → ((k : ℕ) → k < levels → get_or numbers k 0 ≡ cond (k == dim_in dims (place_in set 0)) 1 0)
      → AreCounted (IsFree (dim_in dims) (place_in set) (vector_at empties) (owner_at owners)) (length set) levels numbers
  unfolding empties owners
  single-counted levels numbers count entries = record {
    levels = count;
    counts = λ k below. elim (cases_eq k (dim_in dims (place_in set 0))) [
      | inl same ↦ by k 1 (entries k below ∙ ap (λ b. cond b 1 0) (eq-eqb k (dim_in dims (place_in set 0)) same))
          (counted-more (Q k) 0 0 (refl, (λ x. refl), sym same) (counted-none (Q k)))
      | inr other ↦ by k 0 (entries k below ∙ ap (λ b. cond b 1 0) (ne_eqb k (dim_in dims (place_in set 0)) other))
          (counted-other (Q k) 0 0 (λ free. other (sym free.2)) (counted-none (Q k)))
    ];
  } where
    Q : ℕ → ℕ → Type 0
    Q = IsFree (dim_in dims) (place_in set) (vector_at empties) (owner_at owners)

    by : (k n : ℕ) → get_or numbers k 0 ≡ n → IsCounted (Q k) 1 n → IsCounted (Q k) (length set) (get_or numbers k 0)
    by k n is c = subst (λ (t : ℕ). IsCounted (Q k) t (get_or numbers k 0)) (sym one) (subst (λ (t : ℕ). IsCounted (Q k) 1 t) (sym is) c)

-- one at the dimension of the cell are the Conley numbers of the set
pub single-AreConleyNumbers : {F : Arithmetic} (laws : IsField F) (c : Layout) (is : IsLayout F c) (set : List ℕ) (cells : IsCellList c.faces set)
    (closed : IsLocallyClosed c.faces set) (one : length set ≡ 1)
    (numbers : List ℕ) → length numbers ≡ c.levels → ((k : ℕ) → k < c.levels → get_or numbers k 0 ≡ cond (k == dim_in c.dims (place_in set 0)) 1 0)
    → AreConleyNumbers F c set numbers
single-AreConleyNumbers laws c is set cells closed one numbers count entries =
    let own = own_complex laws c.boundary c.dims c.faces is.complex set cells closed in
    counted-AreConleyNumbers laws c is set cells closed empties empties owners (single-reduced laws c.boundary c.dims set own one) numbers
    (single-counted laws c.boundary c.dims set own one c.levels numbers count entries)
