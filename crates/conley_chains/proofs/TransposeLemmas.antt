-- Rows and columns exchanged, one column after another.
use Rattle.std.proofs.Common.{◌≡◌, inl, inr, ℕ, ◌+◌, ◌<◌, ◌≤◌, ◌==◌, cond, List, [], length, length-take, get_or, set, take, ap, sym, ◌∙◌, arith, refl, subst, All}
use Rattle.std.proofs.lemmas.Bool.{cases_eq, cases_lt, eq-eqb, ne_eqb}
use Rattle.std.proofs.lemmas.List.{get_or_default, get_or-take, take_all, length-set, get_or-set_same, get_or-set_other}
use Rattle.std.proofs.lemmas.List.Elements.{All-set, All-weaker}
use Rattle.std.proofs.Math.ListN.{get_or-eq_default}
use Rattle.conley_chains.specs.Chain.{coefficient, IsChain}
use Rattle.conley_field.specs.Arithmetic.{Arithmetic}
use Rattle.conley_chains.specs.Matrix.{Table, column_count, AllCodes, KeepsRows, IsTable}
use Rattle.conley_chains.proofs.ChainLemmas.{coefficient-beyond, coefficient-take_more}

-- an item of a list, or one beyond it
all_or : {A : Type 0} (P : A → Type 0) (xs : List A) (k : ℕ) (d : A) → P d → All P xs → P (get_or xs k d)
all_or P xs k d none all = elim (cases_lt k (length xs)) [
  | inl within ↦ all k d within
  | inr beyond ↦ subst P (sym (get_or-eq_default xs d beyond)) none
]

nothing_before : (p k : ℕ) (d : ℕ × ℕ) → k < 0 → (get_or [] k d).0 < p
nothing_before p k d none = absurd (omega arith)

-- what `put` leaves in a row
pub record PutsAt (p code : ℕ) (old new : List (ℕ × ℕ)) : Type 0 where
  pub at : (k : ℕ) → coefficient new k ≡ cond (k == p) code (coefficient old k)
  pub places : All (λ e. e.0 ≤ p) new
  pub codes : (n : ℕ) → code < n → All (λ e. e.1 < n) old → All (λ e. e.1 < n) new

-- the first k entries of the column have been put into the rows, at place p
pub record IsSpreadSoFar (p : ℕ) (column : List (ℕ × ℕ)) (old : List (List (ℕ × ℕ))) (k : ℕ) (rows : List (List (ℕ × ℕ))) : Type 0 where
  pub count : length rows ≡ length old
  pub same : (row i : ℕ) → coefficient (get_or rows row []) i ≡ cond (i == p) (coefficient (take k column) row) (coefficient (get_or old row []) i)
  pub most : All (λ es. All (λ e. e.0 ≤ p) es) rows
  pub waiting : (j : ℕ) → k ≤ j → j < length column → All (λ e. e.0 < p) (get_or rows (get_or column j (0, 0)).0 [])
  pub codes : (n : ℕ) → All (λ e. e.1 < n) column → All (λ es. All (λ e. e.1 < n) es) old → All (λ es. All (λ e. e.1 < n) es) rows

module _ (p : ℕ) (column : List (ℕ × ℕ)) (chain : IsChain column) (old : List (List (ℕ × ℕ))) where
  pub spread_start : All (λ es. All (λ e. e.0 < p) es) old → IsSpreadSoFar p column old 0 old
  spread_start before = record {
    count = refl;
    same = λ row i. elim (cases_eq i p) [
      | inl same ↦
          coefficient-beyond (get_or old row []) p i (all_or (λ (es : List (ℕ × ℕ)). All (λ e. e.0 < p) es) old row [] (nothing_before p) before) (omega arith)
          ∙ sym (ap (λ b. cond b 0 (coefficient (get_or old row []) i)) (eq-eqb i p same))
      | inr other ↦ sym (ap (λ b. cond b 0 (coefficient (get_or old row []) i)) (ne_eqb i p other))
    ];
    most = All-weaker (λ (es : List (ℕ × ℕ)). All (λ e. e.0 < p) es) (λ (es : List (ℕ × ℕ)). All (λ e. e.0 ≤ p) es)
        (λ es low. All-weaker (λ (e : ℕ × ℕ). e.0 < p) (λ (e : ℕ × ℕ). e.0 ≤ p) (λ e h. omega arith) es low) old before;
    waiting = λ j from below. all_or (λ (es : List (ℕ × ℕ)). All (λ e. e.0 < p) es) old (get_or column j (0, 0)).0 [] (nothing_before p) before;
    codes = λ n own all. all;
  }

  module _ (k : ℕ) (rows : List (List (ℕ × ℕ))) (e : ℕ × ℕ) (so_far : IsSpreadSoFar p column old k rows) (below : k < length column)
      (read : e ≡ get_or column k e) where
    here : get_or column k (0, 0) ≡ e
    here = get_or_default column k (0, 0) e below ∙ sym read

    -- the row of the entry keeps nothing at p yet
    pub spread_before : All (λ x. x.0 < p) (get_or rows e.0 [])
    spread_before = subst (λ (x : ℕ × ℕ). All (λ y. y.0 < p) (get_or rows x.0 [])) here (so_far.waiting k (omega arith) below)

    pub spread_more : (new : List (ℕ × ℕ)) → e.0 < length rows → PutsAt p e.1 (get_or rows e.0 []) new → IsSpreadSoFar p column old (k + 1) (set rows e.0 new)
    spread_more new within puts = record {
      count = length-set rows e.0 new ∙ so_far.count;
      same = λ row i. elim (cases_eq row e.0) [
        | inl same ↦
            ap (λ (r : ℕ). coefficient (get_or (set rows e.0 new) r []) i) same ∙ ap (λ (es : List (ℕ × ℕ)). coefficient es i)
            (get_or-set_same rows e.0 new [] within)
            ∙ puts.at i
            ∙ own i (coefficient (take (k + 1) column) row) (coefficient-take_more column k row e chain below read
            ∙ ap (λ b. cond b e.1 (coefficient (take k column) row)) (eq-eqb row e.0 same))
            ∙ ap (λ (r : ℕ). cond (i == p) (coefficient (take (k + 1) column) row) (coefficient (get_or old r []) i)) (sym same)
        | inr other ↦
            ap (λ (es : List (ℕ × ℕ)). coefficient es i) (get_or-set_other rows e.0 row new [] other) ∙ so_far.same row i
            ∙ ap (λ (t : ℕ). cond (i == p) t (coefficient (get_or old row []) i))
            (sym (coefficient-take_more column k row e chain below read ∙ ap (λ b. cond b e.1 (coefficient (take k column) row)) (ne_eqb row e.0 other)))
      ];
      most = All-set (λ (es : List (ℕ × ℕ)). All (λ x. x.0 ≤ p) es) rows e.0 new puts.places so_far.most;
      waiting = λ j from j_below.
          let later : e.0 < (get_or column j (0, 0)).0 = subst (λ (x : ℕ × ℕ). x.0 < (get_or column j (0, 0)).0) here
          (chain.ascending k j (0, 0) (omega arith) j_below) in
          subst (λ (es : List (ℕ × ℕ)). All (λ x. x.0 < p) es) (sym (get_or-set_other rows e.0 (get_or column j (0, 0)).0 new []
          (λ same. omega (arith, same)))) (so_far.waiting j (omega arith) j_below);
      codes = λ n all old_all.
          let rows_all = so_far.codes n all old_all in
          All-set (λ (es : List (ℕ × ℕ)). All (λ x. x.1 < n) es) rows e.0 new
          (puts.codes n (subst (λ (x : ℕ × ℕ). x.1 < n) here (all k (0, 0) below)) (rows_all e.0 [] within)) rows_all;
    } where
      own : (i t : ℕ) → t ≡ e.1 → cond (i == p) e.1 (coefficient (get_or rows e.0 []) i) ≡ cond (i == p) t (coefficient (get_or old e.0 []) i)
      own i t is = elim (cases_eq i p) [
        | inl same ↦ ap (λ b. cond b e.1 (coefficient (get_or rows e.0 []) i)) (eq-eqb i p same) ∙ sym is
            ∙ sym (ap (λ b. cond b t (coefficient (get_or old e.0 []) i)) (eq-eqb i p same))
        | inr other ↦
            ap (λ b. cond b e.1 (coefficient (get_or rows e.0 []) i)) (ne_eqb i p other) ∙ so_far.same e.0 i
            ∙ ap (λ b. cond b (coefficient (take k column) e.0) (coefficient (get_or old e.0 []) i)) (ne_eqb i p other)
            ∙ sym (ap (λ b. cond b t (coefficient (get_or old e.0 []) i)) (ne_eqb i p other))
      ]

  pub spread_end : (k : ℕ) (rows : List (List (ℕ × ℕ))) → IsSpreadSoFar p column old k rows → length column ≤ k
      → (row i : ℕ) → coefficient (get_or rows row []) i ≡ cond (i == p) (coefficient column row) (coefficient (get_or old row []) i)
  spread_end k rows so_far all row i =
      so_far.same row i ∙ ap (λ (es : List (ℕ × ℕ)). cond (i == p) (coefficient es row) (coefficient (get_or old row []) i)) (take_all k column all)

-- the rows have the first k columns
pub record IsTransposedSoFar (count : ℕ) (columns : List (List (ℕ × ℕ))) (k : ℕ) (rows : List (List (ℕ × ℕ))) : Type 0 where
  pub length_is : length rows ≡ count
  pub before : All (λ es. All (λ e. e.0 < k) es) rows
  pub same : (row i : ℕ) → coefficient (get_or rows row []) i ≡ coefficient (get_or (take k columns) i []) row
  pub codes : (n : ℕ) → All (λ es. All (λ e. e.1 < n) es) columns → All (λ es. All (λ e. e.1 < n) es) rows

module _ (count : ℕ) (columns : List (List (ℕ × ℕ))) where
  pub transposed_start : (rows : List (List (ℕ × ℕ))) → length rows ≡ count → ((k : ℕ) → get_or rows k [] ≡ []) → IsTransposedSoFar count columns 0 rows
  transposed_start rows length_is empty = record {
    length_is = length_is;
    before = λ k d within. subst (λ (es : List (ℕ × ℕ)). All (λ e. e.0 < 0) es) (sym (nothing k d within)) (nothing_before 0);
    same = λ row i. ap (λ (es : List (ℕ × ℕ)). coefficient es i) (empty row);
    codes = λ n all k d within. subst (λ (es : List (ℕ × ℕ)). All (λ e. e.1 < n) es) (sym (nothing k d within)) (λ i e none. absurd (omega arith));
  } where
    nothing : (k : ℕ) (d : List (ℕ × ℕ)) → k < length rows → get_or rows k d ≡ []
    nothing k d within = get_or_default rows k d [] within ∙ empty k

  pub transposed_more : (k : ℕ) (rows new : List (List (ℕ × ℕ))) (column : List (ℕ × ℕ)) → IsTransposedSoFar count columns k rows → k < length columns
      → column ≡ get_or columns k []
      → length new ≡ length rows → ((row i : ℕ) → coefficient (get_or new row []) i ≡ cond (i == k) (coefficient column row)
      (coefficient (get_or rows row []) i))
      → All (λ es. All (λ e. e.0 ≤ k) es) new → ((n : ℕ) → All (λ e. e.1 < n) column → All (λ es. All (λ e. e.1 < n) es) rows
      → All (λ es. All (λ e. e.1 < n) es) new)
      → IsTransposedSoFar count columns (k + 1) new
  transposed_more k rows new column so_far below is length_is entries places codes = record {
    length_is = length_is ∙ so_far.length_is;
    before = All-weaker (λ (es : List (ℕ × ℕ)). All (λ e. e.0 ≤ k) es) (λ (es : List (ℕ × ℕ)). All (λ e. e.0 < k + 1) es)
        (λ es low. All-weaker (λ (e : ℕ × ℕ). e.0 ≤ k) (λ (e : ℕ × ℕ). e.0 < k + 1) (λ e h. omega arith) es low) new places;
    same = λ row i. entries row i ∙ elim (cases_eq i k) [
      | inl last ↦
          ap (λ b. cond b (coefficient column row) (coefficient (get_or rows row []) i)) (eq-eqb i k last)
          ∙ ap (λ (es : List (ℕ × ℕ)). coefficient es row) (is ∙ sym (ap (λ (j : ℕ). get_or (take (k + 1) columns) j []) last
          ∙ get_or-take (k + 1) columns k [] (omega arith)))
      | inr other ↦
          ap (λ b. cond b (coefficient column row) (coefficient (get_or rows row []) i)) (ne_eqb i k other)
          ∙ so_far.same row i ∙ ap (λ (es : List (ℕ × ℕ)). coefficient es row) (elim (cases_lt i k) [
            | inl earlier ↦ get_or-take k columns i [] earlier ∙ sym (get_or-take (k + 1) columns i [] (omega arith))
            | inr later ↦ get_or-eq_default (take k columns) [] (omega (arith, length-take k columns))
                ∙ sym (get_or-eq_default (take (k + 1) columns) [] (omega (arith, length-take (k + 1) columns)))
          ])
    ];
    codes = λ n all. codes n (subst (λ (es : List (ℕ × ℕ)). All (λ e. e.1 < n) es) (sym is) (all k [] below)) (so_far.codes n all);
  }

  module _ (k : ℕ) (rows : List (List (ℕ × ℕ))) (so_far : IsTransposedSoFar count columns k rows) (all : k ≡ length columns) where
    pub transposed_end : (row i : ℕ) → coefficient (get_or rows row []) i ≡ coefficient (get_or columns i []) row
    transposed_end row i = so_far.same row i ∙ ap (λ (xs : List (List (ℕ × ℕ))). coefficient (get_or xs i []) row) (take_all k columns (omega arith))

    pub transposed_keeps : KeepsRows (length columns) rows
    transposed_keeps = All-weaker (λ (es : List (ℕ × ℕ)). All (λ e. e.0 < k) es) (λ (es : List (ℕ × ℕ)). (i : ℕ) → length columns ≤ i → coefficient es i ≡ 0)
        (λ es low i far. coefficient-beyond es k i low (omega arith)) rows so_far.before

-- the table of a transpose
pub IsTable-transposed : {F : Arithmetic} {m n : ℕ} {a b : Table} → IsTable F m n a → ((K : Arithmetic) → AllCodes K a → IsTable K (column_count a) a.rows b)
    → IsTable F n m b
IsTable-transposed {F} {m} {n} {a} {b} is turned = subst (λ (k : ℕ). IsTable F k m b) is.columns
    (subst (λ (k : ℕ). IsTable F (column_count a) k b) is.rows (turned F is.codes))
