-- Graded complexes: generators with bases and dimensions, and a boundary that goes downward.
--     Generators                  a complex, graded or not, and a Morse complex: generators, and a matrix on them
--     IsPreorder below            the relation is reflexive and transitive
--     IsGradedComplex F below C   the boundary squares to zero, leads one dimension down, and to a grade at or below
--     IsStrict below C            no entry leads from a grade to itself
-- Two bases have one grade where each is below the other. After Harker, Mischaikow and Spendlove; the wording is this project's own.
use Rattle.std.specs.Prelude.{◌≡◌, ℕ, ◌+◌}
use Rattle.conley_field.specs.Arithmetic.{Arithmetic}
use Rattle.conley_algebra.specs.Entries.{Entries, product_of, zero_entries, IsMatrix, SameEntries, OnlyWhere}

-- generators 0, 1, .., each with the cell that gives its grade, its base, and with its dimension
pub record Generators : Type 0 where
  pub count : ℕ
  pub base : ℕ → ℕ
  pub dim : ℕ → ℕ
  pub boundary : Entries

pub record IsPreorder (below : ℕ → ℕ → Type 0) : Type 0 where
  pub reflexive : (a : ℕ) → below a a
  pub transitive : (a b c : ℕ) → below a b → below b c → below a c

pub record IsGradedComplex (F : Arithmetic) (below : ℕ → ℕ → Type 0) (C : Generators) : Type 0 where
  pub matrix : IsMatrix F C.count C.count C.boundary
  pub squares : SameEntries (product_of F C.count C.boundary C.boundary) zero_entries
  pub one_down : OnlyWhere (λ h g. C.dim g ≡ C.dim h + 1) C.boundary
  pub down : OnlyWhere (λ h g. below (C.base h) (C.base g)) C.boundary

abbrev pub IsStrict : (ℕ → ℕ → Type 0) → Generators → Type 0
IsStrict below C = OnlyWhere (λ h g. below (C.base g) (C.base h) → ⊥) C.boundary
