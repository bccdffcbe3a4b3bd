-- What the limits say where they aren't passed, and how they are found to be.
use Rattle.std.proofs.Common.{◌≡◌, ◌+◌, ◌-◌, ◌<◌, ◌≤◌, ℕ, List, [], inl, inr, map, Vec, String, string_bytes, length, get_or, refl, sym, ◌∙◌, ap, arith, lit<, All}
use Rattle.std.specs.Prelude.{Any}
use Rattle.std.specs.declared.alloc.Global.{Global}
use Rattle.std.proofs.lemmas.Bool.{cases_lt}
use Rattle.std.proofs.lemmas.List.{get_or_default, get_or-map, length-map}
use Rattle.conley_lists.specs.Lists.{items_of}
use Rattle.conley_input.specs.File.{File}
use Rattle.conley_input.specs.Limits.{most_cells, most_listed, most_sets, most_dimension}
use Rattle.conley_input.specs.Listing.{labels_of, dims_of, count_of}
use Rattle.conley_input.specs.Meaning.{cell_texts}
use Rattle.conley_input.specs.Refusals.{PassesLimit, IsClear}
use Rattle.conley_input.specs.declared.error.FileFault.TheVariants.{TooMany}

pub no_limit : (file : File) → IsClear file 5 → (limit least : ℕ) → ¬ PassesLimit file limit least
no_limit file clear limit least passes = clear.none (TooMany limit least) (lit< tt) passes

module _ (file : File) (none : (limit least : ℕ) → ¬ PassesLimit file limit least) where
  pub few_labels : length (labels_of file.complex) ≤ most_cells
  few_labels = elim (cases_lt most_cells (length (labels_of file.complex))) [
    | inl more ↦ absurd (none 1 (most_cells + 1) (inl (refl, refl, more)))
    | inr
        few ↦ few
  ]

  pub few_listed : count_of file.complex ≤ most_listed
  few_listed = elim (cases_lt most_listed (count_of file.complex)) [
    | inl more ↦ absurd (none 2 (most_listed + 1) (inr (inl (refl, refl, more))))
    | inr
        few ↦ few
  ]

  pub few_names : length file.sets.names ≤ most_sets
  few_names = elim (cases_lt most_sets (length file.sets.names)) [
    | inl more ↦ absurd (none 3 (most_sets + 1) (inr (inr (inl (refl, refl, more)))))
    | inr
        few ↦ few
  ]

  pub dims_within : All (λ dim. dim ≤ most_dimension) (dims_of file.complex)
  dims_within k d lt = elim (cases_lt most_dimension (get_or (dims_of file.complex) k d)) [
    | inl above ↦ absurd (none 4 (most_dimension + 1)
        (inr (inr (inr (inl (
          refl,
          refl,
          (
            k,
            get_or (dims_of file.complex) k d,
            lt,
            get_or_default (dims_of file.complex) k (get_or (dims_of file.complex) k d)
                d lt,
            above,
          ),
        ))))))
    | inr within ↦ omega (arith, within)
  ]

-- ---- a search through a list

module _ {X : Type 0} (value : X → ℕ) (most : ℕ) (xs : List X) (d : X) where
  pub any_at : (k : ℕ) → k < length xs → most < value (get_or xs k d) → Any (λ x. most < value x) xs
  any_at k lt above = (k, get_or xs k d, lt, get_or_default xs k (get_or xs k d) d lt, above)

  pub no_any : (n : ℕ) → length xs ≤ n → ((j : ℕ) → j < n → value (get_or xs j d) ≤ most) → ¬ Any (λ x. most < value x) xs
  no_any n le before any =
      omega (arith, any.4, before any.0 (omega (arith, any.2, le)), ap value (get_or_default xs any.0 d any.1 any.2 ∙ any.3))

abbrev text_of : String Global × ℕ → List ℕ × ℕ
text_of cell = (string_bytes cell.0, cell.1)

-- the dimension and the label of a cell, and the length of a simplex
module _ (cells : List (String Global × ℕ)) (k : ℕ) (cell : String Global × ℕ) (lt : k < length cells) (is : cell ≡ get_or cells k cell) where
  text_at : get_or (cell_texts cells) k (string_bytes cell.0, cell.1) ≡ (string_bytes cell.0, cell.1)
  text_at = get_or-map text_of cells k cell (string_bytes cell.0, cell.1) lt ∙ ap text_of (sym is)

  within : k < length (cell_texts cells)
  within =
      let n : length (cell_texts cells) ≡ length cells = length-map cells text_of in
      omega (arith, lt, n)

  pub dim_at : get_or (map (λ (c : List ℕ × ℕ). c.1) (cell_texts cells)) k 0 ≡ cell.1
  dim_at = get_or-map (λ (c : List ℕ × ℕ). c.1) (cell_texts cells) k (string_bytes cell.0, cell.1) 0 within ∙ ap (λ (c : List ℕ × ℕ). c.1) text_at

  pub cell_label_at : get_or (map (λ (c : List ℕ × ℕ). c.0) (cell_texts cells)) k [] ≡ string_bytes cell.0
  cell_label_at = get_or-map (λ (c : List ℕ × ℕ). c.0) (cell_texts cells) k (string_bytes cell.0, cell.1) [] within ∙ ap (λ (c : List ℕ × ℕ). c.0) text_at

pub length-cells : {Y : Type 0} (f : List ℕ × ℕ → Y) (cells : List (String Global × ℕ)) → length (map f (cell_texts cells)) ≡ length cells
length-cells f cells = length-map (cell_texts cells) f ∙ length-map cells text_of

pub size_at : (simplices : List (Vec ℕ Global)) (k : ℕ) (s : Vec ℕ Global) → k < length simplices
    → s ≡ get_or simplices k s → get_or (map (λ (s : List ℕ). length s - 1) (items_of simplices)) k 0 ≡ length s.items - 1
size_at simplices k s lt is =
    let items : Vec ℕ Global → List ℕ = λ v. v.items in
    get_or-map (λ (s : List ℕ). length s - 1) (items_of simplices) k [] 0 (omega (arith, lt, length-map simplices items))
    ∙ ap (λ (s : List ℕ). length s - 1) (get_or-map items simplices k s [] lt ∙ ap items (sym is))

pub length-sizes : (simplices : List (Vec ℕ Global)) → length (map (λ (s : List ℕ). length s - 1) (items_of simplices)) ≡ length simplices
length-sizes simplices = length-map (items_of simplices) (λ (s : List ℕ). length s - 1) ∙ length-map simplices (λ (v : Vec ℕ Global). v.items)
