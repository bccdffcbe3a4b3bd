-- What is left of a complex, and the maps to it and back, where a pair of generators K and Q is taken out.
--     rest_entry F d K Q y x      the boundary without the pair, over the numbers of the large complex
--     phi_entry F n d K Q y x     column x: x, less as many times K as cancel its entry at Q
--     psi_entry F n d K Q x y     column y: y, and for Q what the rest of the boundary of K says of it
--     gamma_entry F d K Q y x     Q goes to the inverse of the entry times K
--     ArePairFormulas F L K Q S m S and m are these, over the generators other than K and Q
use Rattle.std.specs.Prelude.{◌≡◌, ℕ, ◌+◌, ◌<◌, ◌==◌, ◌&&◌, if◌then◌else◌}
use Rattle.conley_field.specs.Arithmetic.{Arithmetic}
use Rattle.conley_algebra.specs.Entries.{Entries, identity_of, SameEntries, IsZero}
use Rattle.conley_homotopy.specs.Graded.{Generators}
use Rattle.conley_homotopy.specs.Equivalence.{Maps}
use Rattle.conley_algebra.specs.Others.{other}

abbrev pub rest_entry : Arithmetic → Entries → ℕ → ℕ → Entries
rest_entry F d K Q y x = F.add (d y x) (F.neg (F.mul (F.mul (d Q x) (F.inv (d Q K))) (d y K)))

abbrev pub phi_entry : Arithmetic → ℕ → Entries → ℕ → ℕ → Entries
phi_entry F n d K Q y x = F.add (identity_of n y x) (F.neg (if y == K then F.mul (d Q x) (F.inv (d Q K)) else 0))

abbrev pub psi_entry : Arithmetic → ℕ → Entries → ℕ → ℕ → Entries
psi_entry F n d K Q x y = F.add (identity_of n x y) (F.neg (if y == Q then F.mul (F.inv (d Q K)) (d x K) else 0))

abbrev pub gamma_entry : Arithmetic → Entries → ℕ → ℕ → Entries
gamma_entry F d K Q y x = if (y == K) && (x == Q) then F.inv (d Q K) else 0

pub record ArePairFormulas (F : Arithmetic) (L : Generators) (K Q : ℕ) (S : Generators) (m : Maps) : Type 0 where
  pub count : S.count + 2 ≡ L.count
  pub base : (i : ℕ) → i < S.count → S.base i ≡ L.base (other K Q i)
  pub dim : (i : ℕ) → i < S.count → S.dim i ≡ L.dim (other K Q i)
  pub boundary : SameEntries S.boundary (λ i j. rest_entry F L.boundary K Q (other K Q i) (other K Q j))
  pub phi : SameEntries m.phi (λ y j. phi_entry F L.count L.boundary K Q y (other K Q j))
  pub psi : SameEntries m.psi (λ i y. psi_entry F L.count L.boundary K Q (other K Q i) y)
  pub gamma : SameEntries m.gamma (gamma_entry F L.boundary K Q)
  pub gamma2 : IsZero m.gamma2
