-- Sets of vectors closed under the operations, and the scalars that a matrix takes to zero.
--     IsSubspace F Z         Z holds of zero, of sums and of multiples
--     IsKernel F r s a c     the s scalars c are not all zero, and the first r rows of a take them to zero
use Rattle.std.specs.Prelude.{◌≡◌, ◌≢◌, ℕ, ◌<◌}
use Rattle.conley_field.specs.Arithmetic.{Arithmetic}
use Rattle.conley_algebra.specs.Entries.{Vector, Entries, image_of, AreCodes}

-- closed under sums and multiples
pub record IsSubspace (F : Arithmetic) (Z : Vector → Type 0) : Type 0 where
  pub zero_in : Z (λ x. 0)
  pub add_in : (u v : Vector) → Z u → Z v → Z (λ x. F.add (u x) (v x))
  pub mul_in : (c : ℕ) (v : Vector) → c < F.order → Z v → Z (λ x. F.mul c (v x))

-- scalars, not all of them zero, with which the rows below r give zero
pub record IsKernel (F : Arithmetic) (r s : ℕ) (a : Entries) (c : Vector) : Type 0 where
  pub codes : AreCodes F c
  pub some : (j : ℕ) × ((j < s) × (c j ≢ 0))
  pub zero_rows : (i : ℕ) → i < r → image_of F s a c i ≡ 0
