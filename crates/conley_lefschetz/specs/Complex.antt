-- What a contract sees of a complex, beside its field.
--     Layout                   labels, boundary, dimensions, direct faces and the number of levels
--     IsComplex F m dims faces the boundary, the dimensions and the direct faces fit each other; columns and lists of faces ascend
--     IsLevels dims levels     one more than the greatest dimension, 0 without cells
--     IsLayout F c             the laws of a complex: the above, and distinct labels
--     IsComplexOf F listing c  the listing has no fault, and this is its complex
--     ComplexIsOne F           a listing has at most one complex
-- After Mrozek and Wanner; the wording is this project's own.
use Rattle.std.specs.Prelude.{◌≡◌, ◌≢◌, ◌↔◌, ℕ, ◌+◌, ◌<◌, ◌≤◌, ◌^◌, List, All, length}
use Rattle.conley_field.specs.Arithmetic.{Arithmetic}
use Rattle.conley_algebra.specs.Entries.{product_of, zero_entries, SameEntries, OnlyWhere}
use Rattle.conley_chains.specs.Chain.{IsChain}
use Rattle.conley_chains.specs.Matrix.{Table, entry, column_count, AllCodes}
use Rattle.conley_lists.specs.Lists.{ListedStep, AllAscend}
use Rattle.conley_lefschetz.specs.Listing.{Listing, dim_in, incidence_of}
use Rattle.conley_lefschetz.specs.Fault.{IsDuplicate, Fails}
use Rattle.conley_lefschetz.specs.declared.error.ComplexError.{ComplexError}

-- a square boundary matrix of square zero that leads one dimension down, and lists of the cells in its columns
pub record IsComplex (F : Arithmetic) (m : Table) (dims : List ℕ) (faces : List (List ℕ)) : Type 0 where
  pub few : column_count m < 2 ^ 32
  pub square : m.rows ≡ column_count m
  pub codes : AllCodes F m
  -- each column is a chain: its places ascend, and no code is zero
  pub chains : All IsChain m.columns
  pub dims_count : length dims ≡ column_count m
  -- the sum over y of κ(x, y)·κ(y, z) is zero for all x and z
  pub squares : SameEntries (product_of F (column_count m) (entry m) (entry m)) zero_entries
  pub one_down : OnlyWhere (λ y x. dim_in dims x ≡ dim_in dims y + 1) (entry m)
  pub faces_count : length faces ≡ column_count m
  -- y is directly under x exactly where κ(x, y) isn't zero
  pub direct : (x y : ℕ) → ListedStep faces x y ↔ (entry m y x ≢ 0)
  -- the cells directly under each cell ascend
  pub ascending : AllAscend faces

-- the least number above all dimensions
pub record IsLevels (dims : List ℕ) (levels : ℕ) : Type 0 where
  pub below : All (λ dim. dim < levels) dims
  pub least : (k : ℕ) → All (λ dim. dim < k) dims → levels ≤ k

-- column x of the boundary has κ(x, y) in row y
pub record Layout : Type 0 where
  pub labels : List (List ℕ)
  pub boundary : Table
  pub dims : List ℕ
  pub faces : List (List ℕ)
  pub levels : ℕ

pub record IsLayout (F : Arithmetic) (c : Layout) : Type 0 where
  pub complex : IsComplex F c.boundary c.dims c.faces
  pub labels_count : length c.labels ≡ length c.dims
  pub distinct : (i j : ℕ) → ¬ IsDuplicate c.labels i j
  pub levels : IsLevels c.dims c.levels

pub record IsComplexOf (F : Arithmetic) (listing : Listing) (c : Layout) : Type 0 where
  pub accepted : (fault : ComplexError) → ¬ Fails F listing fault
  pub labels : c.labels ≡ listing.labels
  pub dims : c.dims ≡ listing.dims
  pub boundary : (x y : ℕ) → entry c.boundary y x ≡ incidence_of listing.incidences x y

-- at most one complex has the laws and is that of the listing
abbrev pub ComplexIsOne : Arithmetic → Type 0
ComplexIsOne F = (listing : Listing) (a b : Layout) → IsLayout F a → IsLayout F b → IsComplexOf F listing a → IsComplexOf F listing b → a ≡ b
