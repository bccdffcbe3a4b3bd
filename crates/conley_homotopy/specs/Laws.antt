-- The laws of graded complexes, for every relation and every set of cells that a test tells.
--     Holds test                a relation by its test
--     EquivalencesCompose F     of two equivalences one after the other, and of the identity
--     PairsAreTakenOut F        what is left without a pair inside a grade is strongly equivalent to the complex
--     GradesRestrict F          the generators of a grade, by dimension, are as many as a basis of the homology of its class
--     OwnBasesAreRelative F     a basis of homology for the cells of a set alone is one for its closure relative to its mouth
use Rattle.std.specs.Prelude.{◌≡◌, ◌≢◌, ℕ, Bool, true, IsTrue}
use Rattle.conley_field.specs.Arithmetic.{Arithmetic}
use Rattle.conley_algebra.specs.Entries.{Vector, Entries}
use Rattle.conley_algebra.specs.Homology.{IsHomologyBasis}
use Rattle.conley_algebra.specs.Listing.{IsListing}
use Rattle.conley_algebra.specs.Others.{other}
use Rattle.conley_homotopy.specs.Graded.{Generators, IsPreorder, IsGradedComplex, IsStrict}
use Rattle.conley_homotopy.specs.Equivalence.{Maps, IsGradedEquivalence, composed, identity_maps}
use Rattle.conley_homotopy.specs.Pair.{ArePairFormulas}
use Rattle.conley_homotopy.specs.Reduction.{IsPairStep}
use Rattle.conley_homotopy.specs.Restriction.{IsClosedAround, IsClassAround, own_boundary}

abbrev pub Holds : (ℕ → ℕ → Bool) → ℕ → ℕ → Type 0
Holds test a b = IsTrue (test a b)

pub record EquivalencesCompose (F : Arithmetic) : Type 0 where
  pub composition : (below : ℕ → ℕ → Bool) → IsPreorder (Holds below) → (A B C : Generators) (first second : Maps)
      → IsGradedEquivalence F (Holds below) A B first → IsGradedEquivalence F (Holds below) B C second
      → IsGradedEquivalence F (Holds below) A C (composed F B.count first second)
  pub identity : (below : ℕ → ℕ → Bool) → IsPreorder (Holds below) → (C : Generators) → IsGradedComplex F (Holds below) C
      → IsGradedEquivalence F (Holds below) C C (identity_maps C.count)

abbrev pub PairsAreTakenOut : Arithmetic → Type 0
PairsAreTakenOut F = (below : ℕ → ℕ → Bool) → IsPreorder (Holds below) → (L : Generators) → IsGradedComplex F (Holds below) L
    → (K Q : ℕ) → L.boundary Q K ≢ 0 → Holds below (L.base K) (L.base Q)
    → (S : Generators) (m : Maps) → ArePairFormulas F L K Q S m → IsPairStep F (Holds below) L K Q S (other K Q) m

abbrev pub GradesRestrict : Arithmetic → Type 0
GradesRestrict F = (below : ℕ → ℕ → Bool) → IsPreorder (Holds below) → (L S : Generators) (m : Maps)
    → IsGradedEquivalence F (Holds below) L S m → IsGradedComplex F (Holds below) L → IsGradedComplex F (Holds below) S → IsStrict (Holds below) S
    → (p : ℕ) (inside closure mouth : ℕ → Bool) → IsClassAround (Holds below) L p inside (λ x. IsTrue (closure x)) (λ x. IsTrue (mouth x))
    → (k r : ℕ) (list : ℕ → ℕ) → IsListing S.count (λ g. (Holds below (S.base g) p × Holds below p (S.base g)) × (S.dim g ≡ k)) r list
    → (z : ℕ → Vector) × IsHomologyBasis F L.count L.boundary L.dim (λ x. IsTrue (closure x)) (λ x. IsTrue (mouth x)) k r z

abbrev pub OwnBasesAreRelative : Arithmetic → Type 0
OwnBasesAreRelative F = (n : ℕ) (d : Entries) (dim : ℕ → ℕ) (inside closure mouth : ℕ → Bool)
    → IsClosedAround d inside (λ x. IsTrue (closure x)) (λ x. IsTrue (mouth x)) → (k r : ℕ) (z : ℕ → Vector)
    → IsHomologyBasis F n (own_boundary inside d) dim (λ x. inside x ≡ true) (λ x. ⊥) k r z
    → IsHomologyBasis F n d dim (λ x. IsTrue (closure x)) (λ x. IsTrue (mouth x)) k r z
