-- From the places of one number to all faults.
use Rattle.std.proofs.Common.{◌≡◌, ◌≢◌, ◌<◌, ℕ, List, [], ◌∷◌, Some, length, refl, arith}
use Rattle.conley_field.specs.Arithmetic.{Arithmetic}
use Rattle.conley_first.specs.First.{Precedes, IsTold}
use Rattle.conley_first.proofs.FirstLemmas.{clear-next, first-next, first-one}
use Rattle.conley_first.specs.Places.{FindsFirst}
use Rattle.conley_lefschetz.specs.Listing.{Listing, square_at}
use Rattle.conley_lefschetz.specs.Fault.{IsFault, IsDuplicate, number, place, Fails, IsFirstFault, IsClear}
use Rattle.conley_lefschetz.specs.Making.{FindsDuplicate}
use Rattle.conley_lefschetz.specs.declared.error.ComplexError.{ComplexError}
use Rattle.conley_lefschetz.specs.declared.error.ComplexError.TheVariants.{DuplicateLabel, BadIncidence, NotBoundary, NoMemory}

module _ (F : Arithmetic) (l : Listing) where
  start : (fault : ComplexError) → number fault < 1 → ¬ Fails F l fault
  start NoMemory lt fails = absurd fails
  start fault lt fails = absurd (omega arith)

  pub clear_start : IsClear F l 1
  clear_start = record { none = start }

  of_duplicate : (Q : List ℕ → Type 0) → ((i j : ℕ) → Q (j ∷ i ∷ []) → ¬ IsDuplicate l.labels i j) → (other : ComplexError) → number other ≡ 1
      → Q (place other) → ¬ Fails F l other
  of_duplicate Q none (DuplicateLabel i j) e q = none i j q
  of_duplicate Q none other e q = absurd (omega arith)

  pub clear_duplicate : ((i j : ℕ) → ¬ IsDuplicate l.labels i j) → IsClear F l 2
  clear_duplicate none = clear-next number place (Fails F l) 1 clear_start (λ other e. of_duplicate (λ _. Unit {0}) (λ i j _. none i j) other e tt)

  pub first_duplicate : (fault : ComplexError) → fault ≢ NoMemory → FindsDuplicate l.labels fault → IsFirstFault F l fault
  first_duplicate NoMemory ne found = absurd (ne refl)
  first_duplicate (DuplicateLabel i j) ne found = first-next number place (Fails F l) 1 clear_start (DuplicateLabel i j) refl found.0
      (of_duplicate (λ a. Precedes a (j ∷ i ∷ [])) found.1)
  first_duplicate (BadIncidence k w) ne found = absurd found
  first_duplicate (NotBoundary x z) ne found = absurd found

  of_incidence : (Q : List ℕ → Type 0) → ((k w : ℕ) → Q (k ∷ w ∷ []) → ¬ IsFault l.dims l.incidences k w) → (other : ComplexError) → number other ≡ 2
      → Q (place other) → ¬ Fails F l other
  of_incidence Q none (BadIncidence k w) e q = none k w q
  of_incidence Q none other e q = absurd (omega arith)

  pub clear_incidence : IsClear F l 2 → ((k w : ℕ) → ¬ IsFault l.dims l.incidences k w) → IsClear F l 3
  clear_incidence before none = clear-next number place (Fails F l) 2 before (λ other e. of_incidence (λ _. Unit {0}) (λ k w _. none k w) other e tt)

  pub first_incidence : IsClear F l 2 → (k w : ℕ) → FindsFirst (IsFault l.dims l.incidences) (Some (k, w)) → IsFirstFault F l (BadIncidence k w)
  first_incidence before k w found = first-next number place (Fails F l) 2 before (BadIncidence k w) refl found.0
      (of_incidence (λ a. Precedes a (k ∷ w ∷ [])) found.1)

  of_square : (Q : List ℕ → Type 0) → ((x z : ℕ) → Q (x ∷ z ∷ []) → ¬ (square_at F l.incidences (length l.dims) x z ≢ 0)) → (other : ComplexError)
      → number other ≡ 3 → Q (place other) → ¬ Fails F l other
  of_square Q none (NotBoundary x z) e q = none x z q
  of_square Q none other e q = absurd (omega arith)

  pub first_square : IsClear F l 3 → (x z : ℕ) → FindsFirst (λ x z. square_at F l.incidences (length l.dims) x z ≢ 0) (Some (x, z))
      → IsFirstFault F l (NotBoundary x z)
  first_square before x z found = first-next number place (Fails F l) 3 before (NotBoundary x z) refl found.0 (of_square (λ a. Precedes a (x ∷ z ∷ [])) found.1)

  below : (fault : ComplexError) → number fault < 4
  below NoMemory = omega arith
  below fault = omega arith

  -- where no place has a fault, none fails
  pub accepted : IsClear F l 3 → ((x z : ℕ) → ¬ (square_at F l.incidences (length l.dims) x z ≢ 0)) → (fault : ComplexError) → ¬ Fails F l fault
  accepted before none fault = (clear-next number place (Fails F l) 3 before (λ other e. of_square (λ _. Unit {0}) (λ x z _. none x z) other e tt)).none fault
      (below fault)

  -- number and place of a fault tell the rest of it
  told : IsTold number place (Fails F l)
  told (DuplicateLabel i j) (DuplicateLabel h k) fa fb e same = cc
  told (BadIncidence k w) (BadIncidence h v) fa fb e same = cc
  told (NotBoundary x z) (NotBoundary u w) fa fb e same = cc
  told NoMemory b fa fb e same = absurd fa
  told a NoMemory fa fb e same = absurd fb
  told a b fa fb e same = absurd (omega arith)

  pub first_is_one : (a b : ComplexError) → IsFirstFault F l a → IsFirstFault F l b → a ≡ b
  first_is_one = first-one number place (Fails F l) told
