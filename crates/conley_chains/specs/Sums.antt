-- What computed chains and matrices keep at each place.
--     IsChainSum F a by b sum                    the sum is a plus by times b
--     IsImage F m v image                        the image of chain v under matrix m: a sum over all columns of m
--     IsProduct F a b product                    the product: at each row and column, a sum over all columns of a
--     IsMatrixSum F a by b sum                   the sum is a plus by times b
--     AddsColumn F old target source by new      column target gained by times column source, and all other columns stay
--     IsChainPart places es part                 part keeps at i what es keeps at the i-th place of a list
--     IsMatrixPart rows columns m part           the same for listed rows and columns
use Rattle.std.specs.Prelude.{◌≡◌, ℕ, ◌<◌, ◌==◌, List, length, slice_index, if◌then◌else◌}
use Rattle.conley_field.specs.Arithmetic.{Arithmetic}
use Rattle.conley_algebra.specs.Entries.{product_of, image_of}
use Rattle.conley_chains.specs.Chain.{coefficient}
use Rattle.conley_chains.specs.Matrix.{Table, entry, column_count}

abbrev pub IsChainSum : Arithmetic → List (ℕ × ℕ) → ℕ → List (ℕ × ℕ) → List (ℕ × ℕ) → Type 0
IsChainSum F a by b sum = (place : ℕ) → coefficient sum place ≡ F.add (coefficient a place) (F.mul by (coefficient b place))

abbrev pub IsImage : Arithmetic → Table → List (ℕ × ℕ) → List (ℕ × ℕ) → Type 0
IsImage F m v image = (row : ℕ) → coefficient image row ≡ image_of F (column_count m) (entry m) (coefficient v) row

abbrev pub IsProduct : Arithmetic → Table → Table → Table → Type 0
IsProduct F a b product = (row column : ℕ) → entry product row column ≡ product_of F (column_count a) (entry a) (entry b) row column

abbrev pub IsMatrixSum : Arithmetic → Table → ℕ → Table → Table → Type 0
IsMatrixSum F a by b sum = (row column : ℕ) → entry sum row column ≡ F.add (entry a row column) (F.mul by (entry b row column))

abbrev pub AddsColumn : Arithmetic → Table → ℕ → ℕ → ℕ → Table → Type 0
AddsColumn F old target source by new =
    (row column : ℕ) → entry new row column
    ≡ (if column == target then F.add (entry old row target) (F.mul by (entry old row source)) else entry old row column)

abbrev pub IsChainPart : List ℕ → List (ℕ × ℕ) → List (ℕ × ℕ) → Type 0
IsChainPart places es part = (i : ℕ) → i < length places → coefficient part i ≡ coefficient es (slice_index places i)

abbrev pub IsMatrixPart : List ℕ → List ℕ → Table → Table → Type 0
IsMatrixPart rows columns m part =
    (i j : ℕ) → i < length rows → j < length columns → entry part i j ≡ entry m (slice_index rows i) (slice_index columns j)
