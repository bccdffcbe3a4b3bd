-- Matrices made column by column.
use Rattle.std.proofs.Common.{◌≡◌, ℕ, ◌+◌, ◌<◌, ◌≤◌, List, [], ◌∷◌, ◌++◌, length, length-append, get_or, ap, sym, subst, ◌∙◌, arith, refl, inl, inr, All}
use Rattle.std.proofs.lemmas.List.Elements.{All-nil, All-push}
use Rattle.std.proofs.Math.Seq.{get_or-append_seam}
use Rattle.std.proofs.Math.ListN.{get_or-eq_default}
use Rattle.std.proofs.lemmas.List.{get_or_append_left}
use Rattle.std.proofs.lemmas.Bool.{cases_eq, cases_lt}
use Rattle.conley_field.specs.Arithmetic.{Arithmetic, IsField}
use Rattle.conley_algebra.specs.Entries.{Entries, IsMatrix}
use Rattle.conley_algebra.proofs.SumLemmas as sums
use Rattle.conley_chains.specs.Chain.{coefficient, HasCodes}
use Rattle.conley_chains.specs.Matrix.{Table, entry, KeepsRows, IsTable}
use Rattle.conley_chains.proofs.ChainLemmas.{coefficient-below}

-- a table's entries are a matrix
pub IsTable-matrix : {F : Arithmetic} (laws : IsField F) (m n : ℕ) (t : Table) → IsTable F m n t → IsMatrix F m n (entry t)
IsTable-matrix {F} laws m n t is = record {
  codes = λ row column. elim (cases_lt column (length t.columns)) [
    | inl below ↦ coefficient-below laws (get_or t.columns column []) row (is.codes column [] below)
    | inr beyond ↦ subst (λ (es : List (ℕ × ℕ)). coefficient es row < F.order) (sym (get_or-eq_default t.columns [] beyond)) (sums.zero_below laws)
  ];
  rows_end = λ row column end. elim (cases_lt column (length t.columns)) [
    | inl below ↦ is.keeps_rows column [] below row (let r = is.rows in omega arith)
    | inr beyond ↦ ap (λ (es : List (ℕ × ℕ)). coefficient es row) (get_or-eq_default t.columns [] beyond)
  ];
  columns_end = λ row column end. ap (λ (es : List (ℕ × ℕ)). coefficient es row) (get_or-eq_default t.columns [] (let c = is.columns in omega arith));
}

-- the columns so far are those of a matrix that is wanted
pub record IsBuiltSoFar (F : Arithmetic) (rows : ℕ) (wanted : Entries) (i : ℕ) (columns : List (List (ℕ × ℕ))) : Type 0 where
  pub count : length columns ≡ i
  pub keeps_rows : KeepsRows rows columns
  pub codes : All (HasCodes F) columns
  pub same : (row column : ℕ) → column < i → coefficient (get_or columns column []) row ≡ wanted row column

module _ {F : Arithmetic} (rows : ℕ) (wanted : Entries) where
  pub built_start : IsBuiltSoFar F rows wanted 0 []
  built_start = record {
    count = refl;
    keeps_rows = All-nil (λ (es : List (ℕ × ℕ)). (row : ℕ) → rows ≤ row → coefficient es row ≡ 0);
    codes = All-nil (HasCodes F);
    same = λ row column none. absurd (omega arith);
  }

  pub built_more : (i : ℕ) (columns : List (List (ℕ × ℕ))) (new : List (ℕ × ℕ)) → IsBuiltSoFar F rows wanted i columns → HasCodes F new
      → ((row : ℕ) → coefficient new row ≡ wanted row i) → ((row : ℕ) → rows ≤ row → wanted row i ≡ 0)
      → IsBuiltSoFar F rows wanted (i + 1) (columns ++ new ∷ [])
  built_more i columns new so_far codes same end = record {
    count = length-append columns (new ∷ []) ∙ ap (λ (n : ℕ). n + 1) so_far.count;
    keeps_rows = All-push (λ (es : List (ℕ × ℕ)). (row : ℕ) → rows ≤ row → coefficient es row ≡ 0) columns new so_far.keeps_rows
        (λ row beyond. same row ∙ end row beyond);
    codes = All-push (HasCodes F) columns new so_far.codes codes;
    same = λ row column below. elim (cases_eq column i) [
      | inl last ↦
          ap (λ (es : List (ℕ × ℕ)). coefficient es row) (ap (λ (k : ℕ). get_or (columns ++ new ∷ []) k []) (last ∙ sym so_far.count)
          ∙ get_or-append_seam columns new [] [])
          ∙ same row ∙ ap (λ (k : ℕ). wanted row k) (sym last)
      | inr before ↦
          ap (λ (es : List (ℕ × ℕ)). coefficient es row) (get_or_append_left columns (new ∷ []) [] column (let c = so_far.count in omega arith))
          ∙ so_far.same row column (omega arith)
    ];
  }

  -- all columns
  pub built_end : (i n : ℕ) (columns : List (List (ℕ × ℕ))) → IsBuiltSoFar F rows wanted i columns → i ≡ n
      → ((row column : ℕ) → n ≤ column → wanted row column ≡ 0)
      → (row column : ℕ) → coefficient (get_or columns column []) row ≡ wanted row column
  built_end i n columns so_far all end row column = elim (cases_lt column i) [
    | inl below ↦ so_far.same row column below
    | inr beyond ↦
        ap (λ (es : List (ℕ × ℕ)). coefficient es row) (get_or-eq_default columns [] (let c = so_far.count in omega arith))
        ∙ sym (end row column (omega arith))
  ]

  pub built_table : (i n : ℕ) (columns : List (List (ℕ × ℕ))) → IsBuiltSoFar F rows wanted i columns → i ≡ n
      → IsTable F rows n (record { rows = rows; columns = columns })
  built_table i n columns so_far all = record { rows = refl; columns = so_far.count ∙ all; codes = so_far.codes; keeps_rows = so_far.keeps_rows }

-- nothing stands beyond the rows of any column
pub column-no_row : (rows : ℕ) (columns : List (List (ℕ × ℕ))) (column row : ℕ) → KeepsRows rows columns → rows ≤ row
    → coefficient (get_or columns column []) row ≡ 0
column-no_row rows columns column row keeps beyond = elim (cases_lt column (length columns)) [
  | inl below ↦ keeps column [] below row beyond
  | inr end ↦ ap (λ (es : List (ℕ × ℕ)). coefficient es row) (get_or-eq_default columns [] end)
]
