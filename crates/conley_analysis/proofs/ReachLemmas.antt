-- A complex over reach, and a reduction of it over reach.
use Rattle.std.proofs.Common.{◌≡◌, ◌≢◌, inl, inr, ℕ, ◌<◌, Bool, true, List, length, get_or, ap, sym, ◌∙◌, arith, refl, subst}
use Rattle.std.specs.Prelude.{◌↔◌}
use Rattle.std.proofs.lemmas.List.{get_or_default}
use Rattle.conley_field.specs.Arithmetic.{Arithmetic, IsField}
use Rattle.conley_algebra.specs.Entries.{product_of}
use Rattle.conley_lists.specs.Lists.{IsDigraph, ListedStep}
use Rattle.conley_walk.proofs.WalkLemmas.{reaches_itself}
use Rattle.conley_lists.proofs.ListLemmas.{step_begins}
use Rattle.conley_chains.specs.Matrix.{Table, entry, column_count, IsTable, KeepsRows}
use Rattle.conley_chains.proofs.ColumnLemmas.{IsTable-matrix}
use Rattle.conley_homotopy.specs.Graded.{Generators, IsStrict}
use Rattle.conley_homotopy.specs.Equivalence.{Maps, IsConnection}
use Rattle.conley_homotopy.specs.Reduction.{IsReducedTo}
use Rattle.conley_homotopy.proofs.ReducedLemmas.{reduced-same, reduced-bases, wider-IsReducedTo}
use Rattle.conley_homotopy.proofs.RegradingLemmas.{wider-IsStrict}
use Rattle.conley_lefschetz.specs.Complex.{Layout, IsLayout}
use Rattle.conley_order.specs.Preorder.{IsBelow}
use Rattle.conley_graded.specs.Structure.{generators, IsFiltered}
use Rattle.conley_transitions.specs.Morse.{IsAt}
use Rattle.conley_graph.specs.Decomposition.{IsConleyMorseGraph}
use Rattle.conley_certificate.specs.Problem.{Problem, IsProblem, cell_count, Below, cell_complex}
use Rattle.conley_certificate_file.specs.Certificate.{Certificate}
use Rattle.conley_certificate.specs.Certificate.{set_of, dim_of, maps_of}
use Rattle.conley_certificate.specs.Reduced.{reduced_complex, ListsReduction}

-- each cell its own base, the conditions of a graded complex hold
pub complex_filtered : {F : Arithmetic} → IsField F → (c : Layout) → IsLayout F c → IsDigraph c.faces → KeepsRows c.boundary.rows c.boundary.columns
    → (cells : ℕ) (test : ℕ → ℕ → Bool) → cells ≡ length c.dims
    → ((x y : ℕ) → ListedStep c.faces x y → test y x ≡ true) → (base : List ℕ) → length base ≡ length c.dims
    → ((x : ℕ) → x < length c.dims → get_or base x 0 ≡ x) → IsFiltered F cells test base c.dims c.boundary
complex_filtered {F} laws c is digraph keeps cells test count down base base_count items =
    let columns : length base ≡ column_count c.boundary = base_count ∙ is.complex.dims_count in
    let table : IsTable F (length base) (length base) c.boundary = record {
      rows = is.complex.square ∙ sym columns;
      columns = sym columns;
      codes =
          is.complex.codes;
      keeps_rows = keeps;
    } in
    record {
      dims_length = sym base_count;
      base_below = λ i d within. (let same = get_or_default base i d 0 within in let at = items i (omega arith) in omega arith);
      base_distinct = λ i j d less within e.
          let left = get_or_default base i d 0 (omega arith) in
          let right = get_or_default base j d 0 within in
          let at_i = items i (omega arith) in
          let at_j = items j (omega arith) in
          absurd (omega (arith, e));
      table = table;
      complex = record {
        matrix = IsTable-matrix laws (length base) (length base) c.boundary table;
        squares = subst (λ n. (row column : ℕ) → product_of F n (entry c.boundary) (entry c.boundary) row column ≡ 0) (sym columns) is.complex.squares;
        one_down = is.complex.one_down;
        down = λ y x some.
            let step = (is.complex.direct x y).1 some in
            let faces = is.complex.faces_count in
            let x_cell : x < length c.dims = (let begins = step_begins c.faces x y step in let dims = is.complex.dims_count in omega arith) in
            let y_cell : y < length c.dims = (let ends = digraph x y step in let dims = is.complex.dims_count in omega arith) in
            inr (
              omega (arith, items y y_cell),
              omega (arith, items x x_cell),
              ap (λ a. test a (get_or base x 0)) (items y y_cell)
                  ∙ ap (λ b. test y b) (items x x_cell) ∙ down x y step,
            );
      };
    }

module _ (P : Problem) (ok : IsProblem P) (cells : ℕ) (test : ℕ → ℕ → Bool) (count : cells ≡ cell_count P)
    (reach : (a b : ℕ) → a < cell_count P → b < cell_count P → (test a b ≡ true) ↔ Below P a b) where
  below-reach : (a b : ℕ) → IsBelow cells test a b → Below P a b
  below-reach a b (inl same) = subst (λ x. Below P a x) same (reaches_itself a)
  below-reach a b (inr h) = (reach a b (omega (arith, h.0, count)) (omega (arith, h.1, count))).0 h.2

  reach-below : (a b : ℕ) → a < cell_count P → b < cell_count P → Below P a b → IsBelow cells test a b
  reach-below a b a_cell b_cell r = inr (omega (arith, a_cell, count), omega (arith, b_cell, count), (reach a b a_cell b_cell).1 r)

  module _ (base : List ℕ) (base_count : length base ≡ cell_count P) (items : (x : ℕ) → x < cell_count P → get_or base x 0 ≡ x)
      (S : Generators) (m : Maps) (reduced : IsReducedTo P.scalars (IsBelow cells test) (generators base P.complex.dims P.complex.boundary) S m) where
    pub reduced-reach : IsReducedTo P.scalars (Below P) (cell_complex P) S m
    reduced-reach =
        reduced-bases (record { count = cell_count P; base = λ x. get_or base x 0; dim = λ x. get_or P.complex.dims x 0; boundary = entry P.complex.boundary })
        (λ x. x) S m items
        (subst (λ n. IsReducedTo P.scalars (Below P) (record {
          count = n;
          base = λ x. get_or base x 0;
          dim = λ x. get_or P.complex.dims x 0;
          boundary =
              entry P.complex.boundary;
        }) S m) base_count
        (wider-IsReducedTo below-reach (generators base P.complex.dims P.complex.boundary) S m reduced))

    pub base_cell : (g : ℕ) → g < S.count → S.base g < cell_count P
    base_cell g within =
        let kept_within = reduced.reduction.are_kept.within g within in
        let is = reduced.reduction.are_kept.base g within in
        let at = items (reduced.kept g) (omega (arith, kept_within, base_count)) in
        omega (arith, kept_within, base_count)

    pub strict-reach : IsStrict (IsBelow cells test) S → IsStrict (Below P) S
    strict-reach strict = wider-IsStrict below-reach S reduced.complex (λ i j i_within j_within r. reach-below (S.base i) (S.base j) (base_cell i i_within)
        (base_cell j j_within) r) strict

    pub reach_connection : IsStrict (IsBelow cells test) S → IsConnection P.scalars (Below P) (cell_complex P) S m
    reach_connection strict = record { complex = reduced-reach.complex; strict = strict-reach strict; equivalence = reduced-reach.reduction.equivalence }

-- with the Conley-Morse graph and a name for each generator it is what a certificate lists
pub lists_reduction : (P : Problem) (ok : IsProblem P) (C : Certificate) → IsConleyMorseGraph P.scalars P.complex P.part_of C.morse C.index C.order
    → (base dims : List ℕ) (matrix : Table)
    → IsReducedTo P.scalars (Below P) (cell_complex P) (generators base dims matrix) (maps_of C) → IsStrict (Below P) (generators base dims matrix)
    → C.matrix ≡ matrix → length C.generators ≡ length base → ((g : ℕ) → g < length base → IsAt C.morse (get_or base g 0) (set_of C g))
    → ((g : ℕ) → g < length base → dim_of C g ≡ get_or dims g 0)
    → ListsReduction P C base
lists_reduction P ok C graph base dims matrix reduced strict matrix_is count named dim = record {
  graph = graph;
  count = sym count;
  strict = λ h g some up. strict h g (subst (λ t. entry t h g ≢ 0) matrix_is some) up;
  reduction = reduced-same (cell_complex P) (generators base dims matrix) (reduced_complex C base) (maps_of C) (maps_of C)
      (record { count = sym count; base = λ i within. refl; dim = λ i within. sym (dim i within); boundary = ap (λ t. entry t) (sym matrix_is) }) refl reduced;
  named = λ g below. (named g (omega (arith, below, count))).1;
}

-- a table by other names of its sizes
pub table_at : {F : Arithmetic} (m n m' n' : ℕ) (t : Table) → IsTable F m n t → m ≡ m' → n ≡ n' → IsTable F m' n' t
table_at {F} m n m' n' t table rows columns = subst (λ k. IsTable F m' k t) columns (subst (λ k. IsTable F k n t) rows table)
