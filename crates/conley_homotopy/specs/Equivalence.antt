-- Graded chain equivalences between graded complexes.
--     Maps                             phi from the small complex S to the large one L, psi back, gamma on L, gamma2 on S
--     IsLevel below L S row column     where a map from S to L may have an entry: in equal dimensions, and downward
--     IsRaised below L row column      where a homotopy may have one: in a row one dimension above the column, and downward
--     IsGradedEquivalence F below L S m  chain maps, inverse to each other up to the homotopies, all of them downward
--     IsConnection F below L S m       S is strict and graded, and equivalent to L: its boundary is a connection matrix of L
--     composed F n first second        the maps one after another, through a complex with n generators
--     identity_maps n                  those from a complex with n generators to itself
-- After Harker, Mischaikow and Spendlove; the wording is this project's own.
use Rattle.std.specs.Prelude.{◌≡◌, ℕ, ◌+◌}
use Rattle.conley_field.specs.Arithmetic.{Arithmetic}
use Rattle.conley_algebra.specs.Entries.{Entries, product_of, plus_of, minus_of, zero_entries, identity_of, IsMatrix, SameEntries, OnlyWhere}
use Rattle.conley_homotopy.specs.Graded.{Generators, IsGradedComplex, IsStrict}

pub record Maps : Type 0 where
  pub phi : Entries
  pub psi : Entries
  pub gamma : Entries
  pub gamma2 : Entries

abbrev pub IsLevel : (ℕ → ℕ → Type 0) → Generators → Generators → ℕ → ℕ → Type 0
IsLevel below L S row column = (L.dim row ≡ S.dim column) × below (L.base row) (S.base column)

abbrev pub IsRaised : (ℕ → ℕ → Type 0) → Generators → ℕ → ℕ → Type 0
IsRaised below L row column = (L.dim row ≡ L.dim column + 1) × below (L.base row) (L.base column)

pub record IsGradedEquivalence (F : Arithmetic) (below : ℕ → ℕ → Type 0) (L S : Generators) (m : Maps) : Type 0 where
  pub phi_matrix : IsMatrix F L.count S.count m.phi
  pub psi_matrix : IsMatrix F S.count L.count m.psi
  pub gamma_matrix : IsMatrix F L.count L.count m.gamma
  pub gamma2_matrix : IsMatrix F S.count S.count m.gamma2
  pub phi_down : OnlyWhere (IsLevel below L S) m.phi
  pub psi_down : OnlyWhere (IsLevel below S L) m.psi
  pub gamma_down : OnlyWhere (IsRaised below L) m.gamma
  pub gamma2_down : OnlyWhere (IsRaised below S) m.gamma2
  -- dφ = φδ
  pub phi_commutes : SameEntries (product_of F L.count L.boundary m.phi) (product_of F S.count m.phi S.boundary)
  -- δψ = ψd
  pub psi_commutes : SameEntries (product_of F S.count S.boundary m.psi) (product_of F L.count m.psi L.boundary)
  -- id - φψ = dγ + γd
  pub phi_psi : SameEntries (minus_of F (identity_of L.count) (product_of F S.count m.phi m.psi))
      (plus_of F (product_of F L.count L.boundary m.gamma) (product_of F L.count m.gamma L.boundary))
  -- ψφ - id = δγ₂ + γ₂δ
  pub psi_phi : SameEntries (minus_of F (product_of F L.count m.psi m.phi) (identity_of S.count))
      (plus_of F (product_of F S.count S.boundary m.gamma2) (product_of F S.count m.gamma2 S.boundary))

pub record IsConnection (F : Arithmetic) (below : ℕ → ℕ → Type 0) (L S : Generators) (m : Maps) : Type 0 where
  pub complex : IsGradedComplex F below S
  pub strict : IsStrict below S
  pub equivalence : IsGradedEquivalence F below L S m

-- first leads from B to A, second from C to B, where B has n generators
abbrev pub composed : Arithmetic → ℕ → Maps → Maps → Maps
composed F n first second = record {
  phi = product_of F n first.phi second.phi;
  psi = product_of F n second.psi first.psi;
  gamma = plus_of F first.gamma (product_of F n (product_of F n first.phi second.gamma) first.psi);
  gamma2 = plus_of F second.gamma2 (product_of F n (product_of F n second.psi first.gamma2) second.phi);
}

abbrev pub identity_maps : ℕ → Maps
identity_maps n = record { phi = identity_of n; psi = identity_of n; gamma = zero_entries; gamma2 = zero_entries }
