-- What is left, as a complex and maps over new numbers.
use Rattle.std.proofs.Common.{◌≡◌, inl, inr, ℕ, zero, suc, ◌<◌, ◌≤◌, ◌+◌, Bool, List, length, get_or, map, ap, sym, ◌∙◌, arith, subst, All}
use Rattle.std.specs.Prelude.{Contains}
use Rattle.std.specs.List.{range_with_len}
use Rattle.std.specs.List.Sorted.{IsStrictlyIncreasing}
use Rattle.std.proofs.lemmas.Bool.{cases_lt}
use Rattle.std.proofs.lemmas.List.{get_or_default}
use Rattle.std.proofs.lemmas.List.FromFn.{length-map-range_with_len, get_or-map-range_with_len}
use Rattle.std.proofs.lemmas.List.Elements.{Contains-get_or}
use Rattle.conley_field.specs.Arithmetic.{Arithmetic, IsField}
use Rattle.conley_algebra.specs.Entries.{IsMatrix}
use Rattle.conley_algebra.proofs.MatrixLemmas.{entries_path, same_within}
use Rattle.conley_lists.proofs.AscendingLemmas.{same_numbers}
use Rattle.conley_lists.proofs.ListLemmas.{All-from_contained, rises}
use Rattle.conley_chains.specs.Matrix.{Table, entry, IsTable}
use Rattle.conley_chains.proofs.ColumnLemmas.{IsTable-matrix}
use Rattle.conley_homotopy.specs.Graded.{Generators, IsStrict}
use Rattle.conley_homotopy.specs.Reduction.{IsReducedTo, selected, selected_maps}
use Rattle.conley_homotopy.proofs.PairStepLemmas.{AreSameGenerators, row_within, column_within, maps_path}
use Rattle.conley_homotopy.proofs.ReducedLemmas.{reduced-same}
use Rattle.conley_order.specs.Preorder.{IsBelow}
use Rattle.conley_graded.specs.Structure.{generators, IsFiltered}
use Rattle.conley_reduction.specs.Columns.{code_at, row_code_at}
use Rattle.conley_reduction.specs.Work.{IsLeft, IsWork, IsClear, ListsLeft, ArePicked}
use Rattle.conley_reduction.proofs.WorkLemmas.{left_within}

module _ {F : Arithmetic} {below : ℕ → ℕ → Type 0} (L : Generators) (left : List Bool) (w phi psi gamma : List (List (ℕ × ℕ)))
    (work : IsWork F below L left w phi psi gamma)
    (numbers : List ℕ) (lists : ListsLeft left numbers) where
  by_kept : List ℕ
  by_kept = map work.kept (range_with_len 0 work.s)

  by_kept-count : length by_kept ≡ work.s
  unfolding by_kept
  by_kept-count = length-map-range_with_len work.kept 0 work.s

  by_kept-at : (i : ℕ) → i < work.s → get_or by_kept i 0 ≡ work.kept i
  unfolding by_kept
  by_kept-at i within = get_or-map-range_with_len work.kept 0 work.s i i 0 within (omega arith)

  by_kept-ascends : IsStrictlyIncreasing by_kept
  by_kept-ascends k within =
      let c = by_kept-count in
      let here = by_kept-at k (omega arith) in
      let next = by_kept-at (k + 1) (omega arith) in
      let up = work.ascending k (k + 1) (omega arith) (omega arith) in
      omega arith

  numbers-are : numbers ≡ by_kept
  numbers-are = same_numbers numbers by_kept lists.ascending by_kept-ascends (λ x. (
    (λ c.
        let at = work.listed x ((lists.same x).0 c) in
        let n = by_kept-count in
        subst (λ (y : ℕ). Contains by_kept y) (by_kept-at at.0 at.1.0 ∙ at.1.1) (Contains-get_or by_kept at.0 0 (omega (arith, at.1.0)))),
    (λ c.
        let n = by_kept-count in
        let within : c.0 < work.s = omega (arith, c.1) in
        let is : work.kept c.0 ≡ x = sym (by_kept-at c.0 within) ∙ get_or_default by_kept c.0 0 x c.1 ∙ c.2 in
        (lists.same x).1 (subst (IsLeft left) is (work.marked c.0 within))),
  ))

  pub numbers-count : length numbers ≡ work.s
  numbers-count = ap length numbers-are ∙ by_kept-count

  pub numbers-at : (i : ℕ) → i < work.s → get_or numbers i 0 ≡ work.kept i
  numbers-at i within = ap (λ (xs : List ℕ). get_or xs i 0) numbers-are ∙ by_kept-at i within

  pub numbers-within : All (λ x. x < L.count) numbers
  numbers-within = All-from_contained (λ x. x < L.count) numbers (λ x c. (let m = work.marks in let h = left_within left x ((lists.same x).0 c) in omega arith))

  -- no more than there were
  at_own : (k : ℕ) → k < length numbers → k ≤ get_or numbers k 0
  at_own zero within = omega arith
  at_own (suc k) within =
      let before = at_own k (omega arith) in
      let up = rises numbers lists.ascending k (suc k) (omega arith) within in
      omega arith

  pub numbers-few : length numbers ≤ L.count
  numbers-few = elim (cases_lt L.count (length numbers)) [
    | inl more ↦
        let own = at_own L.count more in
        let within = numbers-within L.count 0 more in
        absurd (omega arith)
    | inr few ↦ omega arith
  ]

-- all numbers below n
pub all-within : (n : ℕ) (all : List ℕ) → length all ≡ n → ((x : ℕ) → x < n → get_or all x 0 ≡ x) → All (λ x. x < n) all
all-within n all count items k d within =
    let same = get_or_default all k d 0 within in
    let is = items k (omega arith) in
    omega arith

-- what renumbering makes of the work: lists of numbers, and parts of the matrices
pub record AreParts (F : Arithmetic) (base dims : List ℕ) (left : List Bool) (w phi psi : List (List (ℕ × ℕ))) (numbers all base' dims' : List ℕ)
    (matrix phi_part psi_part gamma2 : Table) (gamma : List (List (ℕ × ℕ))) (gamma_part : Table) : Type 0 where
  pub lists : ListsLeft left numbers
  pub all_count : length all ≡ length base
  pub all_items : (x : ℕ) → x < length base → get_or all x 0 ≡ x
  pub bases : ArePicked base numbers base'
  pub dimensions : ArePicked dims numbers dims'
  pub matrix_table : IsTable F (length numbers) (length numbers) matrix
  pub phi_table : IsTable F (length all) (length numbers) phi_part
  pub psi_table : IsTable F (length numbers) (length all) psi_part
  pub matrix_entries : (i j : ℕ) → i < length numbers → j < length numbers → entry matrix i j ≡ code_at w (get_or numbers i 0) (get_or numbers j 0)
  pub phi_entries : (i j : ℕ) → i < length all → j < length numbers → entry phi_part i j ≡ code_at phi (get_or all i 0) (get_or numbers j 0)
  pub psi_entries : (i j : ℕ) → i < length numbers → j < length all → entry psi_part i j ≡ row_code_at psi (get_or numbers i 0) (get_or all j 0)
  pub gamma_entries : (y x : ℕ) → entry gamma_part y x ≡ row_code_at gamma y x
  pub gamma2_entries : (row column : ℕ) → entry gamma2 row column ≡ 0

module _ {F : Arithmetic} (laws : IsField F) (cells : ℕ) (test : ℕ → ℕ → Bool) (base dims : List ℕ) (given : Table)
    (filtered : IsFiltered F cells test base dims given)
    (left : List Bool) (w phi psi gamma : List (List (ℕ × ℕ))) (work : IsWork F (IsBelow cells test) (generators base dims given) left w phi psi gamma)
    (clear : IsClear (IsBelow cells test) (generators base dims given) left w (length base))
    (numbers all base' dims' : List ℕ) (matrix phi_part psi_part gamma2 gamma_part : Table)
    (parts : AreParts F base dims left w phi psi numbers all base' dims' matrix phi_part psi_part gamma2 gamma gamma_part) where
  count : length numbers ≡ work.s
  count = numbers-count (generators base dims given) left w phi psi gamma work numbers parts.lists

  at : (i : ℕ) → i < work.s → get_or numbers i 0 ≡ work.kept i
  at i within = numbers-at (generators base dims given) left w phi psi gamma work numbers parts.lists i within

  kept_within : (i : ℕ) → i < work.s → work.kept i < length base
  kept_within i within = (let m = work.marks in let h = left_within left (work.kept i) (work.marked i within) in omega arith)

  pub same : AreSameGenerators (selected (generators base dims given) work.s work.kept (code_at w)) (generators base' dims' matrix)
  same = record {
    count = (let c = count in let b = parts.bases.count in omega arith);
    base = λ i within. (let c = count in sym (parts.bases.items i (omega arith) ∙ ap (λ (k : ℕ). get_or base k 0) (at i within)));
    dim = λ i within. (let c = count in sym (parts.dimensions.items i (omega arith) ∙ ap (λ (k : ℕ). get_or dims k 0) (at i within)));
    boundary = entries_path _ _ (same_within work.s work.s _ _ work.reduction.complex.matrix
        (subst (λ (n : ℕ). IsMatrix F n n (entry matrix)) count (IsTable-matrix laws (length numbers) (length numbers) matrix parts.matrix_table))
        (λ i j i_within j_within.
        let c = count in
        sym (parts.matrix_entries i j (omega arith) (omega arith) ∙ ap (λ (k : ℕ). code_at w k (get_or numbers j 0)) (at i i_within)
        ∙ ap (λ (k : ℕ). code_at w (work.kept i) k) (at j j_within))));
  }

  maps-same : selected_maps work.kept (code_at phi) (row_code_at psi) (row_code_at gamma) ≡
      record { phi = entry phi_part; psi = entry psi_part; gamma = entry gamma_part; gamma2 = entry gamma2 }
  maps-same = maps_path _ _
      (entries_path _ _ (same_within (length base) work.s _ _ work.reduction.reduction.equivalence.phi_matrix
      (subst (λ (m : ℕ). IsMatrix F m work.s (entry phi_part)) parts.all_count (subst (λ (n : ℕ). IsMatrix F (length all) n (entry phi_part)) count
      (IsTable-matrix laws (length all) (length numbers) phi_part parts.phi_table)))
      (λ y j y_within j_within.
      let c = count in
      sym (parts.phi_entries y j (omega (arith, y_within, parts.all_count)) (omega arith) ∙ ap (λ (k : ℕ). code_at phi k (get_or numbers j 0))
      (parts.all_items y y_within) ∙ ap (λ (k : ℕ). code_at phi y k) (at j j_within)))))
      (entries_path _ _ (same_within work.s (length base) _ _ work.reduction.reduction.equivalence.psi_matrix
      (subst (λ (m : ℕ). IsMatrix F work.s m (entry psi_part)) parts.all_count (subst (λ (n : ℕ). IsMatrix F n (length all) (entry psi_part)) count
      (IsTable-matrix laws (length numbers) (length all) psi_part parts.psi_table)))
      (λ i x i_within x_within.
      let c = count in
      sym (parts.psi_entries i x (omega arith) (omega (arith, x_within, parts.all_count)) ∙ ap (λ (k : ℕ). row_code_at psi k (get_or all x 0)) (at i i_within)
      ∙ ap (λ (k : ℕ). row_code_at psi (work.kept i) k) (parts.all_items x x_within)))))
      (entries_path _ _ (λ row column. sym (parts.gamma_entries row column)))
      (entries_path _ _ (λ row column. sym (parts.gamma2_entries row column)))

  pub renumbered-reduction : IsReducedTo F (IsBelow cells test) (generators base dims given) (generators base' dims' matrix)
      (record { phi = entry phi_part; psi = entry psi_part; gamma = entry gamma_part; gamma2 = entry gamma2 })
  renumbered-reduction = reduced-same (generators base dims given) (selected (generators base dims given) work.s work.kept (code_at w))
      (generators base' dims' matrix)
      (selected_maps work.kept (code_at phi) (row_code_at psi) (row_code_at gamma)) _ same maps-same work.reduction

  base_of : (i : ℕ) → i < length base' → get_or base' i 0 ≡ get_or base (work.kept i) 0
  base_of i within = (let c = count in let b = parts.bases.count in parts.bases.items i (omega arith) ∙ ap (λ (k : ℕ). get_or base k 0) (at i (omega arith)))

  pub renumbered-strict : IsStrict (IsBelow cells test) (generators base' dims' matrix)
  renumbered-strict h g some up =
      let matrix_is = renumbered-reduction.complex.matrix in
      let h_within : h < length base' = row_within matrix_is h g some in
      let g_within : g < length base' = column_within matrix_is h g some in
      let c = count in
      let b = parts.bases.count in
      let h_kept : h < work.s = omega arith in
      let g_kept : g < work.s = omega arith in
      let entry_is = parts.matrix_entries h g (omega arith) (omega arith) ∙ ap (λ (k : ℕ). code_at w k (get_or numbers g 0)) (at h h_kept)
      ∙ ap (λ (k : ℕ). code_at w (work.kept h) k) (at g g_kept) in
      clear (work.kept g) (work.kept h) (kept_within g g_kept) (work.marked g g_kept) (work.marked h h_kept) (λ none. some (entry_is ∙ none))
      (subst (λ (x : ℕ). IsBelow cells test x (get_or base (work.kept h) 0)) (base_of g g_within)
      (subst (λ (x : ℕ). IsBelow cells test (get_or base' g 0) x) (base_of h h_within) up))

  item : (i d : ℕ) → i < length base' → get_or base' i d ≡ get_or base (work.kept i) 0
  item i d within = get_or_default base' i d 0 within ∙ base_of i within

  pub renumbered-filtered : IsFiltered F cells test base' dims' matrix
  renumbered-filtered = record {
    dims_length = (let a = parts.bases.count in let b = parts.dimensions.count in omega arith);
    base_below = λ i d within.
        let c = count in
        let b = parts.bases.count in
        subst (λ (x : ℕ). x < cells) (sym (item i d within)) (filtered.base_below (work.kept i) 0 (kept_within i (omega arith)));
    base_distinct = λ i j d less within is.
        let c = count in
        let b = parts.bases.count in
        filtered.base_distinct (work.kept i) (work.kept j) 0 (work.ascending i j less (omega arith)) (kept_within j (omega arith))
        (sym (item i d (omega arith)) ∙ is ∙ item j d within);
    table = subst (λ (n : ℕ). IsTable F n n matrix) (sym parts.bases.count) parts.matrix_table;
    complex = renumbered-reduction.complex;
  }
