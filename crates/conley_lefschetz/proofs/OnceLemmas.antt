-- At most one complex is that of a listing.
use Rattle.std.proofs.Common.{◌≡◌, ◌<◌, ◌≤◌, ℕ, List, [], All, length, get_or, sym, ◌∙◌, ap, subst, arith}
use Rattle.std.proofs.lemmas.List.{ext_get_or}
use Rattle.conley_field.specs.Arithmetic.{Arithmetic}
use Rattle.conley_chains.specs.Matrix.{Table, entry, column_count}
use Rattle.conley_chains.proofs.EqualLemmas.{same_coefficients}
use Rattle.conley_lists.proofs.AscendingLemmas.{same_numbers}
use Rattle.conley_lefschetz.specs.Complex.{IsComplex, IsLevels, Layout, IsLayout, ComplexIsOne}

-- two least numbers above all dimensions
levels_once : (dims other : List ℕ) (m n : ℕ) → dims ≡ other → IsLevels dims m → IsLevels other n → m ≡ n
levels_once dims other m n same a b =
    let up : m ≤ n = a.least n (subst (λ ds. All (λ dim. dim < n) ds) (sym same) b.below) in
    let down : n ≤ m = b.least m (subst (λ ds. All (λ dim. dim < m) ds) same a.below) in
    omega arith

-- what is made of equal parts is equal
table_of : ℕ → List (List (ℕ × ℕ)) → Table
table_of rows columns = record { rows = rows; columns = columns }

table_once : (m n : Table) → m.rows ≡ n.rows → m.columns ≡ n.columns → m ≡ n
unfolding table_of
table_once m n rows columns = let same : table_of m.rows m.columns ≡ table_of n.rows n.columns = cc in same

layout_of : List (List ℕ) → Table → List ℕ → List (List ℕ) → ℕ → Layout
layout_of labels boundary dims faces levels = record { labels = labels; boundary = boundary; dims = dims; faces = faces; levels = levels }

layout_once : (a b : Layout) → a.labels ≡ b.labels → a.boundary ≡ b.boundary → a.dims ≡ b.dims → a.faces ≡ b.faces → a.levels ≡ b.levels → a ≡ b
unfolding layout_of
layout_once a b labels boundary dims faces levels =
    let same : layout_of a.labels a.boundary a.dims a.faces a.levels ≡ layout_of b.labels b.boundary b.dims b.faces b.levels = cc in
    same

-- two boundaries with the same entries, and the faces by them
module _ (F : Arithmetic) (m n : Table) (dims other : List ℕ) (faces lists : List (List ℕ)) (a : IsComplex F m dims faces) (b : IsComplex F n other lists)
    (same : dims ≡ other) (entries : (x y : ℕ) → entry m y x ≡ entry n y x) where
  count : column_count m ≡ column_count n
  count = sym a.dims_count ∙ ap length same ∙ b.dims_count

  columns_once : m.columns ≡ n.columns
  columns_once = ext_get_or [] m.columns n.columns count (λ x lt.
      same_coefficients (get_or m.columns x []) (get_or n.columns x []) (a.chains x [] lt) (b.chains x [] (omega (arith, lt, count))) (λ y. entries x y))

  boundary_once : m ≡ n
  boundary_once =
      let rows : m.rows ≡ n.rows = a.square ∙ count ∙ sym b.square in
      table_once m n rows columns_once

  faces_once : faces ≡ lists
  faces_once = ext_get_or [] faces lists (a.faces_count ∙ count ∙ sym b.faces_count) (λ x _.
      same_numbers (get_or faces x []) (get_or lists x []) (a.ascending x) (b.ascending x) (λ y. (
        (λ s. (b.direct x y).1 (λ zero. (a.direct x y).0 s (entries x y ∙ zero))),
        (λ s. (a.direct x y).1 (λ zero. (b.direct x y).0 s (sym (entries x y) ∙ zero))),
      )))

-- complexes with the same labels, dimensions and entries
pub same_layouts : (F : Arithmetic) (a b : Layout) → IsLayout F a → IsLayout F b → a.labels ≡ b.labels → a.dims ≡ b.dims
    → ((x y : ℕ) → entry a.boundary y x ≡ entry b.boundary y x) → a ≡ b
same_layouts F a b laws_a laws_b labels dims entries =
    layout_once a b
    labels
    (boundary_once F a.boundary b.boundary a.dims b.dims a.faces b.faces laws_a.complex laws_b.complex dims entries)
    dims
    (faces_once F a.boundary b.boundary a.dims b.dims a.faces b.faces laws_a.complex laws_b.complex dims entries)
    (levels_once a.dims b.dims a.levels b.levels dims laws_a.levels laws_b.levels)

pub complex_once : (F : Arithmetic) → ComplexIsOne F
complex_once F listing a b laws_a laws_b is_a is_b =
    same_layouts F a b laws_a laws_b (is_a.labels ∙ sym is_b.labels) (is_a.dims ∙ sym is_b.dims) (λ x y. is_a.boundary x y ∙ sym (is_b.boundary x y))
