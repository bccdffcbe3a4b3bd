-- A strong equivalence onto generators that were kept.
--     AreKept L S kept              generator i of S is generator kept i of L
--     IsReduction F below L S kept m  a strong equivalence in which each of them stands for itself
--     IsPairStep F below C k q D kept m  D is C without k and q
--     IsReducedTo F below L S m     S is a graded complex, and a reduction of L
use Rattle.std.specs.Prelude.{◌≡◌, ◌≢◌, ℕ, ◌<◌}
use Rattle.conley_field.specs.Arithmetic.{Arithmetic}
use Rattle.conley_algebra.specs.Entries.{Entries, product_of, identity_of, zero_entries, SameEntries, IsZero}
use Rattle.conley_homotopy.specs.Graded.{Generators, IsGradedComplex}
use Rattle.conley_homotopy.specs.Equivalence.{Maps, IsGradedEquivalence}

-- generator i of S is generator kept i of L, ascending
pub record AreKept (L S : Generators) (kept : ℕ → ℕ) : Type 0 where
  pub ascending : (i j : ℕ) → i < j → j < S.count → kept i < kept j
  pub within : (i : ℕ) → i < S.count → kept i < L.count
  pub base : (i : ℕ) → i < S.count → S.base i ≡ L.base (kept i)
  pub dim : (i : ℕ) → i < S.count → S.dim i ≡ L.dim (kept i)

-- a strong equivalence in which each generator of S stands for the one that it is in L
pub record IsReduction (F : Arithmetic) (below : ℕ → ℕ → Type 0) (L S : Generators) (kept : ℕ → ℕ) (m : Maps) : Type 0 where
  pub equivalence : IsGradedEquivalence F below L S m
  pub strong : SameEntries (product_of F L.count m.psi m.phi) (identity_of S.count)
  pub no_gamma2 : IsZero m.gamma2
  pub are_kept : AreKept L S kept
  -- the row of a kept generator in phi, and its column in psi, are 1 at its own place alone
  pub phi_row : (i : ℕ) → i < S.count → (j : ℕ) → m.phi (kept i) j ≡ identity_of S.count i j
  pub psi_column : (i j : ℕ) → j < S.count → m.psi i (kept j) ≡ identity_of S.count i j

-- D is C without the generators k and q: a reduction, whose boundary is that of C less what passes from q to k
pub record IsPairStep (F : Arithmetic) (below : ℕ → ℕ → Type 0) (C : Generators) (k q : ℕ) (D : Generators) (kept : ℕ → ℕ) (m : Maps) : Type 0 where
  pub complex : IsGradedComplex F below D
  pub reduction : IsReduction F below C D kept m
  pub others : (i : ℕ) → i < D.count → (kept i ≢ k) × (kept i ≢ q)
  pub all : (y : ℕ) → y < C.count → y ≢ k → y ≢ q → (i : ℕ) × ((i < D.count) × (kept i ≡ y))
  pub entry : (i j : ℕ) → i < D.count → j < D.count
      → D.boundary i j ≡ F.add (C.boundary (kept i) (kept j)) (F.neg (F.mul (C.boundary (kept i) k) (F.mul (F.inv (C.boundary q k)) (C.boundary q (kept j)))))
  pub psi_upper : (i : ℕ) → m.psi i k ≡ 0

-- S is a graded complex, and a reduction of L
pub record IsReducedTo (F : Arithmetic) (below : ℕ → ℕ → Type 0) (L S : Generators) (m : Maps) : Type 0 where
  pub complex : IsGradedComplex F below S
  pub kept : ℕ → ℕ
  pub reduction : IsReduction F below L S kept m

-- the generators of L that kept lists, with the part of a matrix on them
abbrev pub selected : Generators → ℕ → (ℕ → ℕ) → Entries → Generators
selected L s kept w = record { count = s; base = λ i. L.base (kept i); dim = λ i. L.dim (kept i); boundary = λ i j. w (kept i) (kept j) }

-- the columns of phi and the rows of psi that kept lists
abbrev pub selected_maps : (ℕ → ℕ) → Entries → Entries → Entries → Maps
selected_maps kept phi psi gamma = record { phi = λ y j. phi y (kept j); psi = λ i y. psi (kept i) y; gamma = gamma; gamma2 = zero_entries }
