-- The free cells' cycles are a basis of the homology of the set.
use Rattle.std.proofs.Common.{◌≡◌, ◌≢◌, inl, inr, ℕ, ◌+◌, ◌<◌, ◌≤◌, Bool, true, false, cond, List, [], length, get_or, ap, sym, ◌∙◌, arith, subst, Option}
use Rattle.std.specs.Prelude.{Contains}
use Rattle.std.proofs.lemmas.Bool.{cases_Bool, cases_eq, cases_lt, true≢false}
use Rattle.std.proofs.lemmas.List.{get_or_default}
use Rattle.std.proofs.Math.ListN.{get_or-eq_default}
use Rattle.conley_field.specs.Arithmetic.{Arithmetic, IsField}
use mathlib.Core.Path.{fun_ext}
use Rattle.conley_algebra.specs.Listing.{IsListing}
use Rattle.conley_algebra.specs.Entries.{Entries, product_of, zero_entries, SameEntries, OnlyWhere}
use Rattle.conley_algebra.proofs.SumLemmas as sums
use Rattle.conley_homotopy.specs.Restriction.{IsClosedAround, own_boundary}
use Rattle.conley_homotopy.proofs.ExcisionLemmas.{excision}
use Rattle.conley_chains.specs.Chain.{coefficient}
use Rattle.conley_chains.specs.Matrix.{Table, entry, column_count}
use Rattle.conley_lists.specs.Lists.{ListedStep, is_listed}
use Rattle.conley_walk.proofs.WalkLemmas.{reaches_itself, reaches_on, reaches_by_step}
use Rattle.conley_faces.specs.Face.{IsCellList, IsInClosure, IsInMouth, IsLocallyClosed}
use Rattle.conley_homology.specs.Reduced.{IsFree}
use Rattle.conley_homology.specs.Own.{own_entries, place_in, owner_at, vector_at, IsOwnComplex, IsReducedSoFar}
use Rattle.conley_lefschetz.specs.Listing.{dim_in}
use Rattle.conley_lefschetz.specs.Conley.{IsRelativeCycle, IsRelativeBoundary, IsConleyBasis, AreConleyNumbers}
use Rattle.conley_homology.specs.Homology.{cycle_at, IsHomology}
use Rattle.conley_lefschetz.specs.Complex.{IsComplex, Layout, IsLayout}
use Rattle.conley_homology.proofs.PlaceLemmas.{is_listed-place, listed_place, place-distinct}
use Rattle.conley_homology.proofs.SplittingLemmas.{reduced-IsHomologyBasis}
use Rattle.conley_homology.proofs.CollectedLemmas.{AreCounted, IsGathered, same-IsBasisModulo}
use Rattle.conley_homology.proofs.StateLemmas.{all_done}

-- the complex of a set's own cells is one
module _ {F : Arithmetic} (laws : IsField F) (n : ℕ) (d : Entries) (inside : ℕ → Bool) (closure mouth : ℕ → Type 0)
    (shape : IsClosedAround d inside closure mouth) where
  own-inside : (y x : ℕ) → inside y ≡ true → inside x ≡ true → own_boundary inside d y x ≡ d y x
  own-inside y x row column = ap (λ b. cond b (cond (inside x) (d y x) 0) 0) row ∙ ap (λ b. cond b (d y x) 0) column

  own-row : (y x : ℕ) → inside y ≡ false → own_boundary inside d y x ≡ 0
  own-row y x row = ap (λ b. cond b (cond (inside x) (d y x) 0) 0) row

  own-column : (y x : ℕ) → inside x ≡ false → own_boundary inside d y x ≡ 0
  own-column y x column = elim (cases_Bool (inside y)) [
    | inl h ↦ ap (λ b. cond b (cond (inside x) (d y x) 0) 0) h ∙ ap (λ b. cond b (d y x) 0) column
    | inr h ↦ own-row y x h
  ]

  through : (x y z : ℕ) → inside x ≡ true → inside z ≡ true → inside y ≡ false → F.mul (d x y) (d y z) ≡ 0
  through x y z x_in z_in y_out = elim (cases_eq (d x y) 0) [
    | inl none ↦ ap (λ t. F.mul t (d y z)) none ∙ sums.zero-mul laws (d y z)
    | inr some ↦ elim (cases_eq (d y z) 0) [
      | inl none ↦ ap (F.mul (d x y)) none ∙ sums.mul-zero laws (d x y)
      | inr other ↦ absurd (true≢false (sym x_in ∙ shape.mouth_faces x y some (shape.rest_mouth y (shape.closure_faces y z other (shape.inside_closure z z_in))
          y_out)))
    ]
  ]

  pub own-squares : SameEntries (product_of F n d d) zero_entries → SameEntries (product_of F n (own_boundary inside d) (own_boundary inside d)) zero_entries
  own-squares squares x z = elim (cases_Bool (inside x)) [
    | inr out ↦ sums.sum_below-zero laws n _ (λ y below. ap (λ t. F.mul t (own_boundary inside d y z)) (own-row x y out)
        ∙ sums.zero-mul laws (own_boundary inside d y z))
    | inl x_in ↦ elim (cases_Bool (inside z)) [
      | inr out ↦ sums.sum_below-zero laws n _ (λ y below. ap (F.mul (own_boundary inside d x y)) (own-column y z out)
          ∙ sums.mul-zero laws (own_boundary inside d x y))
      | inl z_in ↦ sums.sum_below-congr laws n _ _ (λ y below. elim (cases_Bool (inside y)) [
        | inl y_in ↦ ap (λ t. F.mul t (own_boundary inside d y z)) (own-inside x y x_in y_in) ∙ ap (F.mul (d x y)) (own-inside y z y_in z_in)
        | inr y_out ↦
            ap (F.mul (own_boundary inside d x y)) (own-row y z y_out) ∙ sums.mul-zero laws (own_boundary inside d x y) ∙ sym (through x y z x_in z_in y_out)
      ]) ∙ squares x z
    ]
  ]

  pub own-one_down : (dim : ℕ → ℕ) → OnlyWhere (λ y x. dim x ≡ dim y + 1) d → OnlyWhere (λ y x. dim x ≡ dim y + 1) (own_boundary inside d)
  own-one_down dim one_down y x some = one_down y x (λ none. some (elim (cases_Bool (inside y)) [
    | inr h ↦ own-row y x h
    | inl y_in ↦ elim (cases_Bool (inside x)) [ inr h ↦ own-column y x h | inl x_in ↦ own-inside y x y_in x_in ∙ none ]
  ]))

module _ {F : Arithmetic} (laws : IsField F) (m : Table) (dims : List ℕ) (faces : List (List ℕ)) (complex : IsComplex F m dims faces) (set : List ℕ)
    (cells : IsCellList faces set) (closed : IsLocallyClosed faces set) where
  listed : (x : ℕ) → Contains set x → is_listed set x ≡ true
  listed x c = ap (is_listed set) (sym (get_or_default set c.0 0 x c.1 ∙ c.2)) ∙ is_listed-place set c.0 c.1

  contained : (x : ℕ) → is_listed set x ≡ true → Contains set x
  contained x h = let at = listed_place set x h in (at.0, at.1.0, get_or_default set at.0 x 0 at.1.0 ∙ sym at.1.1)

  step : (x y : ℕ) → entry m y x ≢ 0 → ListedStep faces x y
  step x y some = (complex.direct x y).1 some

  step_cell : (x y : ℕ) → ListedStep faces x y → x < length faces
  step_cell x y s = elim (cases_lt x (length faces)) [
    | inl below ↦ below
    | inr beyond ↦ (let none = ap (λ (xs : List ℕ). length xs) (get_or-eq_default faces [] {n = x} beyond) in let s_below = s.1 in absurd (omega arith))
  ]

  pub closed_around : IsClosedAround (entry m) (is_listed set) (IsInClosure faces set) (IsInMouth faces set)
  closed_around = record {
    inside_closure = λ x h. let c = contained x h in (x, c, record { cell = All-cell x c; walk = reaches_itself x });
    closure_faces = λ y x some c. (c.0, c.1, record { cell = c.2.cell; walk = reaches_on c.2.walk (reaches_by_step (step x y some)) });
    rest_mouth = λ x c out. (c, λ h. true≢false (sym (listed x h) ∙ out));
    mouth_faces = λ y x some mouth. elim (cases_Bool (is_listed set y)) [
      | inr h ↦ h
      | inl h ↦ absurd (closed mouth.0.0 x y (record {
        upper = mouth.0.1;
        lower = contained y h;
        outside = mouth.1;
        down = mouth.0.2;
        further = record { cell = step_cell x y (step x y some); walk = reaches_by_step (step x y some) };
      }))
    ];
    mouth_outside = λ x mouth. elim (cases_Bool (is_listed set x)) [ inr h ↦ h | inl h ↦ absurd (mouth.1 (contained x h)) ];
  } where
    All-cell : (x : ℕ) → Contains set x → x < length faces
    All-cell x c = subst (λ (y : ℕ). y < length faces) c.2 (cells.cells c.0 x c.1)

  pub own_complex : IsOwnComplex F m dims set
  own_complex = record {
    ascending = cells.ascending;
    cells = λ k d below. let c = cells.cells k d below in let e = complex.faces_count in omega arith;
    few = complex.few;
    codes = complex.codes;
    dims_count = complex.dims_count;
    squares = own-squares laws (column_count m) (entry m) (is_listed set) (IsInClosure faces set) (IsInMouth faces set) closed_around complex.squares;
    one_down = own-one_down laws (column_count m) (entry m) (is_listed set) (IsInClosure faces set) (IsInMouth faces set) closed_around (dim_in dims)
        complex.one_down;
  }

module _ {F : Arithmetic} (laws : IsField F) (c : Layout) (is : IsLayout F c) (set : List ℕ) (cells : IsCellList c.faces set)
    (closed : IsLocallyClosed c.faces set) {keeps : Bool}
    (kept reduced : List (List (ℕ × ℕ))) (owner : List (Option ℕ)) (s : IsReducedSoFar F c.boundary c.dims set keeps (λ j. 0 ≤ dim_in c.dims (place_in set j))
    kept reduced owner) where
  own : IsOwnComplex F c.boundary c.dims set
  own = own_complex laws c.boundary c.dims c.faces is.complex set cells closed

  -- the chains of the free cells of a dimension are a basis, whether they are kept or not
  pub free-IsConleyBasis : (k b : ℕ) (list : ℕ → ℕ) → IsListing (length set) (IsFree (dim_in c.dims) (place_in set) (vector_at reduced) (owner_at owner) k) b
      list
      → IsConleyBasis F c set k b (λ i. s.chain (list i))
  free-IsConleyBasis k b list listing =
      excision laws (column_count c.boundary) (entry c.boundary) (dim_in c.dims) (is_listed set) (IsInClosure c.faces set) (IsInMouth c.faces set)
      (closed_around laws c.boundary c.dims c.faces is.complex set cells closed) k b (λ i. s.chain (list i))
      (reduced-IsHomologyBasis laws (column_count c.boundary) (own_entries c.boundary set) (dim_in c.dims) own.squares own.one_down (length set) (place_in set)
      (place-distinct set cells.ascending)
      s.chain (vector_at reduced) (owner_at owner) (all_done laws c.boundary c.dims set (λ j. 0 ≤ dim_in c.dims (place_in set j)) kept reduced owner
      (λ j j_below. omega arith) s)
      (is_listed set) (is_listed-place set) (listed_place set) k b list listing)

  -- so many free cells of each dimension are the Conley numbers
  pub counted-AreConleyNumbers : (numbers : List ℕ) → AreCounted (IsFree (dim_in c.dims) (place_in set) (vector_at reduced) (owner_at owner)) (length set)
      c.levels numbers → AreConleyNumbers F c set numbers
  counted-AreConleyNumbers numbers counted = record {
    levels_count = counted.levels;
    basis = λ k below.
        let l = counted.counts k below in (
          (λ i. s.chain (get_or l.0 i 0)),
          free-IsConleyBasis k (get_or numbers k 0) (λ i. get_or l.0 i 0)
              (subst (λ (r : ℕ). IsListing (length set) (IsFree (dim_in c.dims) (place_in set) (vector_at reduced) (owner_at owner) k) r (λ i. get_or l.0 i 0))
              l.1.0 l.1.1.listing),
        );
  }

  -- where the chains are kept, those of the free cells are the cycles
  pub gathered-IsHomology : keeps ≡ true → (numbers : List ℕ) (cycles : List (List (ℕ × ℕ)))
      → IsGathered kept (IsFree (dim_in c.dims) (place_in set) (vector_at reduced) (owner_at owner)) (length set) c.levels numbers cycles
      → IsHomology F c set numbers cycles
  gathered-IsHomology all_kept numbers cycles gathered = record {
    levels_count = gathered.levels;
    total = gathered.total;
    basis = λ k below.
        let l = gathered.lists k below in
        same-IsBasisModulo laws (λ v. IsRelativeCycle F c set v × ((x : ℕ) → v x ≢ 0 → dim_in c.dims x ≡ k)) (IsRelativeBoundary F c set) (get_or numbers k 0)
        (λ i. s.chain (l.0 i)) (cycle_at numbers cycles k)
        (λ i i_below. fun_ext (λ x. sym (s.is_kept all_kept (l.0 i) x)) ∙ ap (λ (es : List (ℕ × ℕ)). coefficient es) (sym (l.1.1 i i_below)))
        (free-IsConleyBasis k (get_or numbers k 0) l.0 l.1.0);
  }
