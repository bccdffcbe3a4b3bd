-- From the places of one number to all faults.
use Rattle.std.proofs.Common.{◌≡◌, ◌<◌, ℕ, List, [], ◌∷◌, inl, inr, Some, None, length, refl, arith}
use Rattle.conley_first.specs.First.{Precedes, IsTold}
use Rattle.conley_first.proofs.FirstLemmas.{clear-next, first-next, first-one}
use Rattle.conley_first.specs.Places.{FindsFirst, FindsFirstPlace}
use Rattle.conley_faces.specs.Face.{IsGap}
use Rattle.std.specs.Prelude.{slice_index_or}
use Rattle.conley_mvf.specs.Fault.{IsUnknown, StoodEarlier, IsEmptyList, Fails, number, place, IsFirstFault, IsClear}
use Rattle.conley_mvf.specs.Making.{FindsFirstGap}
use Rattle.conley_mvf.specs.declared.error.PartError.{PartError}
use Rattle.conley_mvf.specs.declared.error.PartError.TheVariants.{Unknown, Repeated, EmptyPart, Gap, NoMemory}

module _ (faces lists : List (List ℕ)) where
  start : (fault : PartError) → number fault < 1 → ¬ Fails faces lists fault
  start NoMemory lt fails = absurd fails
  start fault lt fails = absurd (omega arith)

  clear_start : IsClear faces lists 1
  clear_start = record { none = start }

  of_unknown : (Q : List ℕ → Type 0) → ((l p : ℕ) → Q (l ∷ p ∷ []) → ¬ IsUnknown (length faces) lists l p) → (other : PartError) → number other ≡ 1
      → Q (place other) → ¬ Fails faces lists other
  of_unknown Q none (Unknown l p) e q = none l p q
  of_unknown Q none other e q = absurd (omega arith)

  pub clear_unknown : FindsFirst (IsUnknown (length faces) lists) None → IsClear faces lists 2
  clear_unknown none = clear-next number place (Fails faces lists) 1 clear_start (λ other e. of_unknown (λ _. Unit {0}) (λ l p _. none l p) other e tt)

  pub first_unknown : (l p : ℕ) → FindsFirst (IsUnknown (length faces) lists) (Some (l, p)) → IsFirstFault faces lists (Unknown l p)
  first_unknown l p found = first-next number place (Fails faces lists) 1 clear_start (Unknown l p) refl found.0
      (of_unknown (λ a. Precedes a (l ∷ p ∷ [])) found.1)

  of_repeated : (Q : List ℕ → Type 0) → ((l p : ℕ) → Q (l ∷ p ∷ []) → ¬ StoodEarlier lists l p) → (other : PartError) → number other ≡ 2 → Q (place other)
      → ¬ Fails faces lists other
  of_repeated Q none (Repeated l p) e q = none l p q
  of_repeated Q none other e q = absurd (omega arith)

  pub clear_repeated : IsClear faces lists 2 → FindsFirst (StoodEarlier lists) None → IsClear faces lists 3
  clear_repeated before none = clear-next number place (Fails faces lists) 2 before (λ other e. of_repeated (λ _. Unit {0}) (λ l p _. none l p) other e tt)

  pub first_repeated : IsClear faces lists 2 → (l p : ℕ) → FindsFirst (StoodEarlier lists) (Some (l, p)) → IsFirstFault faces lists (Repeated l p)
  first_repeated before l p found = first-next number place (Fails faces lists) 2 before (Repeated l p) refl found.0
      (of_repeated (λ a. Precedes a (l ∷ p ∷ [])) found.1)

  of_empty : (Q : List ℕ → Type 0) → ((k : ℕ) → Q (k ∷ []) → ¬ IsEmptyList lists k) → (other : PartError) → number other ≡ 3 → Q (place other)
      → ¬ Fails faces lists other
  of_empty Q none (EmptyPart k) e q = none k q
  of_empty Q none other e q = absurd (omega arith)

  -- the first empty list, in the words of the table
  less_only : (j k : ℕ) → Precedes (j ∷ []) (k ∷ []) → j < k
  less_only j k (inl less) = less
  less_only j k (inr both) = absurd both.1

  pub clear_empty : IsClear faces lists 3 → FindsFirstPlace (length lists) (λ k. slice_index_or lists k [] ≡ []) None → IsClear faces lists 4
  clear_empty before none = clear-next number place (Fails faces lists) 3 before (λ other e. of_empty (λ _. Unit {0}) (λ k _ f. none k f.0 f.1) other e tt)

  pub first_empty : IsClear faces lists 3 → (k : ℕ) → FindsFirstPlace (length lists) (λ k. slice_index_or lists k [] ≡ []) (Some k)
      → IsFirstFault faces lists (EmptyPart k)
  first_empty before k found = first-next number place (Fails faces lists) 3 before (EmptyPart k) refl (found.0, found.1)
      (of_empty (λ a. Precedes a (k ∷ [])) (λ j p f. found.2 j (less_only j k p) f.1))

  of_gap : (Q : List ℕ → Type 0) → ((k x y z : ℕ) → Q (k ∷ x ∷ y ∷ z ∷ []) → ¬ IsGap faces (slice_index_or lists k []) x y z) → (other : PartError)
      → number other ≡ 4 → Q (place other) → ¬ Fails faces lists other
  of_gap Q none (Gap k x y z) e q = none k x y z q
  of_gap Q none other e q = absurd (omega arith)

  pub first_gap : IsClear faces lists 4 → (k x y z : ℕ) → FindsFirstGap (λ k. IsGap faces (slice_index_or lists k [])) (Some (k, (x, y, z)))
      → IsFirstFault faces lists (Gap k x y z)
  first_gap before k x y z found = first-next number place (Fails faces lists) 4 before (Gap k x y z) refl found.0
      (of_gap (λ a. Precedes a (k ∷ x ∷ y ∷ z ∷ [])) found.1)

  below : (fault : PartError) → number fault < 5
  below NoMemory = omega arith
  below fault = omega arith

  -- where no place has a fault, none fails
  pub accepted : IsClear faces lists 4 → FindsFirstGap (λ k. IsGap faces (slice_index_or lists k [])) None → (fault : PartError) → ¬ Fails faces lists fault
  accepted before none fault = (clear-next number place (Fails faces lists) 4 before (λ other e. of_gap (λ _. Unit {0}) (λ k x y z _. none k x y z) other e
      tt)).none fault (below fault)

  -- number and place of a fault tell the rest of it
  told : IsTold number place (Fails faces lists)
  told (Unknown l p) (Unknown k q) fa fb e same = cc
  told (Repeated l p) (Repeated k q) fa fb e same = cc
  told (EmptyPart j) (EmptyPart k) fa fb e same = cc
  told (Gap j x y z) (Gap k u v w) fa fb e same = cc
  told NoMemory b fa fb e same = absurd fa
  told a NoMemory fa fb e same = absurd fb
  told a b fa fb e same = absurd (omega arith)

  pub first_is_one : (a b : PartError) → IsFirstFault faces lists a → IsFirstFault faces lists b → a ≡ b
  first_is_one = first-one number place (Fails faces lists) told
