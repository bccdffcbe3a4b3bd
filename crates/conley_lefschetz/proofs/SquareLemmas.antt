-- Sums that gain multiples of chains, until they are a column of the square of a matrix.
use Rattle.std.proofs.Common.{◌≡◌, ◌≢◌, inl, inr, ◌+◌, ◌<◌, ◌≤◌, ℕ, List, [], length, get_or, set, take, subst, refl, sym, ◌∙◌, ap, arith, cond, All, get_or-set_same, get_or-set_other}
use Rattle.std.proofs.lemmas.Bool.{cases_lt, cases_eq, eq-eqb, ne_eqb}
use Rattle.std.proofs.lemmas.List.{get_or_past, get_or_default, length-set, take_all}
use Rattle.std.proofs.lemmas.List.Elements.{All-set}
use Rattle.conley_field.specs.Arithmetic.{Arithmetic, IsField}
use Rattle.conley_algebra.specs.Entries.{image_of, product_of}
use Rattle.conley_algebra.proofs.SumLemmas as sums
use Rattle.conley_chains.specs.Chain.{coefficient, IsChain}
use Rattle.conley_chains.specs.Matrix.{Table, entry, column_count}
use Rattle.conley_chains.proofs.ChainLemmas.{coefficient-beyond, coefficient-take_more, All-take_before}
use Rattle.conley_lefschetz.specs.Making.{AddsMultiple, IsSquareColumn}

-- sums of which none but zero is found are zeros
pub zeros_from : (row : List ℕ) → ((z : ℕ) → ¬ (get_or row z 0 ≢ 0)) → All (λ sum. sum ≡ 0) row
zeros_from row none k d lt = get_or_default row k d 0 lt ∙ elim (cases_eq (get_or row k 0) 0) [ inl e ↦ e | inr ne ↦ absurd (none k ne) ]

-- and are read as zeros, also beyond the row
pub zero_read : (row : List ℕ) (z : ℕ) → All (λ sum. sum ≡ 0) row → get_or row z 0 ≡ 0
zero_read row z zeros = elim (cases_lt z (length row)) [ inl lt ↦ zeros z 0 lt | inr ge ↦ get_or_past row z 0 ge ]

module _ {F : Arithmetic} (laws : IsField F) where
  code_read : (row : List ℕ) (z : ℕ) → All (λ sum. sum < F.order) row → get_or row z 0 < F.order
  code_read row z codes = elim (cases_lt z (length row)) [
    | inl lt ↦ codes z 0 lt
    | inr ge ↦ subst (λ (t : ℕ). t < F.order) (sym (get_or_past row z 0 ge))
        (sums.zero_below laws)
  ]

  plus_nothing : (row : List ℕ) (by z t : ℕ) → All (λ sum. sum < F.order) row → t ≡ 0 → F.add (get_or row z 0) (F.mul by t) ≡ get_or row z 0
  plus_nothing row by z t codes none = ap (λ (s : ℕ). F.add (get_or row z 0) (F.mul by s)) none ∙ ap (F.add (get_or row z 0)) (sums.mul-zero laws by)
      ∙ laws.add_zero (get_or row z 0) (code_read row z codes)

  pub adds_start : (row : List ℕ) (by : ℕ) → All (λ sum. sum < F.order) row → AddsMultiple F row row by []
  adds_start row by codes = record { count = refl; codes = codes; sums = λ z. sym (plus_nothing row by z 0 codes refl) }

  -- one entry more of the chain
  pub adds_more : (old row : List ℕ) (by : ℕ) (chain : List (ℕ × ℕ)) (i : ℕ) (e : ℕ × ℕ) (new : ℕ) → All (λ sum. sum < F.order) old → IsChain chain
      → i < length chain → e ≡ get_or chain i e → e.0 < length row
      → AddsMultiple F old row by (take i chain) → new ≡ F.add (get_or row e.0 0) (F.mul by e.1) → AddsMultiple F old (set row e.0 new) by (take (i + 1) chain)
  adds_more old row by chain i e new codes is_chain below read within so_far is = record {
    count = length-set row e.0 new ∙ so_far.count;
    codes = All-set (λ (sum : ℕ). sum < F.order) row e.0 new (subst (λ (t : ℕ). t < F.order) (sym is) (laws.add_below (get_or row e.0 0) (F.mul by e.1)))
        so_far.codes;
    sums = λ z. elim (cases_eq z e.0) [
      | inl same ↦
          ap (λ (q : ℕ). get_or (set row e.0 new) q 0) same ∙ get_or-set_same row e.0 new 0 within ∙ is
          ∙ ap (λ (t : ℕ). F.add t (F.mul by e.1)) (so_far.sums e.0 ∙ plus_nothing old by e.0 (coefficient (take i chain) e.0) codes
          (coefficient-beyond (take i chain) e.0 e.0 (All-take_before chain i e is_chain below read) (omega arith)))
          ∙ ap (λ (q : ℕ). F.add (get_or old q 0) (F.mul by e.1)) (sym same)
          ∙ ap (λ (t : ℕ). F.add (get_or old z 0) (F.mul by t)) (sym (coefficient-take_more chain i z e is_chain below read
          ∙ ap (λ b. cond b e.1 (coefficient (take i chain) z)) (eq-eqb z e.0 same)))
      | inr other ↦
          get_or-set_other row e.0 z new 0 other ∙ so_far.sums z
          ∙ ap (λ (t : ℕ). F.add (get_or old z 0) (F.mul by t)) (sym (coefficient-take_more chain i z e is_chain below read
          ∙ ap (λ b. cond b e.1 (coefficient (take i chain) z)) (ne_eqb z e.0 other)))
    ];
  }

  pub adds_end : (old row : List ℕ) (by : ℕ) (chain : List (ℕ × ℕ)) (i : ℕ) → AddsMultiple F old row by (take i chain) → length chain ≤ i
      → AddsMultiple F old row by chain
  adds_end old row by chain i so_far all = subst (AddsMultiple F old row by) (take_all i chain all) so_far

-- the sums are the image of the first i entries of column x
pub record IsSquareSoFar (F : Arithmetic) (m : Table) (x i : ℕ) (row : List ℕ) : Type 0 where
  pub count : length row ≡ m.rows
  pub codes : All (λ sum. sum < F.order) row
  pub sums : (z : ℕ) → get_or row z 0 ≡ image_of F (column_count m) (entry m) (coefficient (take i (get_or m.columns x []))) z

module _ {F : Arithmetic} (laws : IsField F) (m : Table) (x : ℕ) where
  pub square_start : (row : List ℕ) → length row ≡ m.rows → All (λ sum. sum ≡ 0) row → IsSquareSoFar F m x 0 row
  square_start row count zeros = record {
    count = count;
    codes = λ k d lt. subst (λ (t : ℕ). t < F.order) (sym (zeros k d lt)) (sums.zero_below laws);
    sums = λ z. zero_read row z zeros ∙ sym (sums.sum_below-zero laws (column_count m) (λ k. F.mul (entry m z k) 0) (λ k _. sums.mul-zero laws (entry m z k)));
  }

  -- the column of one entry more
  pub square_more : (i : ℕ) (row new : List ℕ) (e : ℕ × ℕ) → IsChain (get_or m.columns x []) → i < length (get_or m.columns x [])
      → e ≡ get_or (get_or m.columns x []) i e → e.0 < column_count m
      → IsSquareSoFar F m x i row → AddsMultiple F row new e.1 (get_or m.columns e.0 []) → IsSquareSoFar F m x (i + 1) new
  square_more i row new e is_chain below read within so_far added = record {
    count = added.count ∙ so_far.count;
    codes = added.codes;
    sums = λ z.
        let chain : List (ℕ × ℕ) = get_or m.columns x [] in
        added.sums z ∙ ap (λ (t : ℕ). F.add t (F.mul e.1 (entry m z e.0))) (so_far.sums z)
        ∙ ap (F.add (image_of F (column_count m) (entry m) (coefficient (take i chain)) z)) (laws.mul_comm e.1 (entry m z e.0))
        ∙ sym (sums.sum_below-one_more laws (column_count m) (λ k. F.mul (entry m z k) (coefficient (take i chain) k))
        (λ k. F.mul (entry m z k) (coefficient (take (i + 1) chain) k)) e.0 (F.mul (entry m z e.0) e.1) within
        (ap (F.mul (entry m z e.0)) (coefficient-beyond (take i chain) e.0 e.0 (All-take_before chain i e is_chain below read) (omega arith))
        ∙ sums.mul-zero laws (entry m z e.0))
        (ap (F.mul (entry m z e.0)) (coefficient-take_more chain i e.0 e is_chain below read
        ∙ ap (λ b. cond b e.1 (coefficient (take i chain) e.0)) (eq-eqb e.0 e.0 refl)))
        (λ k differs. ap (F.mul (entry m z k)) (coefficient-take_more chain i k e is_chain below read
        ∙ ap (λ b. cond b e.1 (coefficient (take i chain) k)) (ne_eqb k e.0 differs))));
  }

  pub square_end : (i : ℕ) (row : List ℕ) → IsSquareSoFar F m x i row → length (get_or m.columns x []) ≤ i → IsSquareColumn F m x row
  square_end i row so_far all = record {
    count = so_far.count;
    sums = λ z. so_far.sums z ∙ ap (λ (es : List (ℕ × ℕ)). image_of F (column_count m) (entry m) (coefficient es) z) (take_all i (get_or m.columns x []) all);
  }

  -- where the square isn't zero, column x has an entry whose column has one there
  pub square_under : (z : ℕ) → product_of F (column_count m) (entry m) (entry m) z x ≢ 0 → (y : ℕ) × ((entry m y x ≢ 0) × (entry m z y ≢ 0))
  square_under z ne =
      let found = sums.sum_below-not_zero laws (column_count m) (λ k. F.mul (entry m z k) (entry m k x)) ne in
      let y : ℕ = found.0 in
      let some : F.mul (entry m z y) (entry m y x) ≢ 0 = found.1.1 in
      (y, (sums.mul-not_zero_right laws (entry m z y) (entry m y x) some, sums.mul-not_zero_left laws (entry m z y) (entry m y x) some))

  -- so where the sums are zero at each such place, the column is
  pub square_zero : (row : List ℕ) → IsSquareColumn F m x row → ((y z : ℕ) → entry m y x ≢ 0 → entry m z y ≢ 0 → get_or row z 0 ≡ 0) → (z : ℕ)
      → ¬ (product_of F (column_count m) (entry m) (entry m) z x ≢ 0)
  square_zero row column under z ne =
      let found = square_under z ne in
      ne (sym (column.sums z) ∙ under found.0 z found.1.0 found.1.1)

  -- and so are they
  pub sums_zero : (row : List ℕ) → IsSquareColumn F m x row → ((y z : ℕ) → entry m y x ≢ 0 → entry m z y ≢ 0 → get_or row z 0 ≡ 0) → All (λ sum. sum ≡ 0) row
  sums_zero row column under = zeros_from row (λ z ne. square_zero row column under z (λ e. ne (column.sums z ∙ e)))
