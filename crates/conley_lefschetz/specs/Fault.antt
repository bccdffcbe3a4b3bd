-- Why a listing makes no complex. Each fault says of one place that something is wrong there.
--     IsDuplicate labels i j       labels i and j are equal
--     FindsEqual labels answer     the first two equal labels, by the later one, then the earlier, or that there are none
--     StoodBefore incidences k x y one of the first k triples is of x and y
--     IsFault dims incidences k why triple k has this fault: 1 a cell out of range, 2 other dimensions than one apart, 3 zero, 4 its cells stood before
--     Fails F listing fault        the sentence of the fault, at its place
--     number fault, place fault    where it stands among the faults
--     IsFirstFault F listing fault it fails, and none that fails stands before it
--     IsClear F listing n          none with a number below n fails
use Rattle.std.specs.Prelude.{◌≡◌, ◌≢◌, ◌⊎◌, ◌+◌, ◌<◌, ◌≤◌, ℕ, Option, Some, None, List, [], ◌∷◌, length, slice_index_or}
use Rattle.conley_chains.specs.Faults.{triple_at}
use Rattle.conley_field.specs.Arithmetic.{Arithmetic}
use Rattle.conley_first.specs.First as first
use Rattle.conley_lefschetz.specs.Listing.{Listing, dim_in, square_at}
use Rattle.conley_lefschetz.specs.declared.error.ComplexError.{ComplexError}
use Rattle.conley_lefschetz.specs.declared.error.ComplexError.TheVariants.{DuplicateLabel, BadIncidence, NotBoundary, NoMemory}

-- labels i and j are equal, and i stands before j
abbrev pub IsDuplicate : List (List ℕ) → ℕ → ℕ → Type 0
IsDuplicate labels i j = (i < j) × (j < length labels) × (slice_index_or labels i [] ≡ slice_index_or labels j [])

-- of equal labels the later one counts first
abbrev pub FindsEqual : List (List ℕ) → Option (ℕ × ℕ) → Type 0
FindsEqual labels None = (i j : ℕ) → ¬ IsDuplicate labels i j
FindsEqual labels (Some p) = IsDuplicate labels p.0 p.1 × ((h k : ℕ) → first.Precedes (k ∷ h ∷ []) (p.1 ∷ p.0 ∷ []) → ¬ IsDuplicate labels h k)

-- what is wrong with the triple of x, y and a code by itself
abbrev pub IsFaultAlone : List ℕ → ℕ → ℕ → ℕ → ℕ → Type 0
IsFaultAlone dims x y code why =
    ((why ≡ 1) × ((length dims ≤ x) ⊎ (length dims ≤ y)))
    ⊎ ((why ≡ 2) × (dim_in dims x ≢ dim_in dims y + 1))
    ⊎ ((why ≡ 3) × (code ≡ 0))

abbrev pub StoodBefore : List (ℕ × ℕ × ℕ) → ℕ → ℕ → ℕ → Type 0
StoodBefore incidences k x y = (j : ℕ) × (j < k) × ((triple_at incidences j).0 ≡ x) × ((triple_at incidences j).1 ≡ y)

abbrev pub IsFault : List ℕ → List (ℕ × ℕ × ℕ) → ℕ → ℕ → Type 0
IsFault dims incidences k why = (k < length incidences)
    × (IsFaultAlone dims (triple_at incidences k).0 (triple_at incidences k).1 (triple_at incidences k).2 why
    ⊎ ((why ≡ 4) × StoodBefore incidences k (triple_at incidences k).0 (triple_at incidences k).1))

-- want of memory is no fault of a listing
abbrev pub Fails : Arithmetic → Listing → ComplexError → Type 0
Fails F listing NoMemory = ⊥
Fails F listing (DuplicateLabel i j) = IsDuplicate listing.labels i j
Fails F listing (BadIncidence k why) = IsFault listing.dims listing.incidences k why
Fails F listing (NotBoundary x z) = square_at F listing.incidences (length listing.dims) x z ≢ 0

abbrev pub number : ComplexError → ℕ
number NoMemory = 0
number (DuplicateLabel i j) = 1
number (BadIncidence k why) = 2
number (NotBoundary x z) = 3

-- of equal labels the later one counts first
abbrev pub place : ComplexError → List ℕ
place NoMemory = []
place (DuplicateLabel i j) = j ∷ i ∷ []
place (BadIncidence k why) = k ∷ why ∷ []
place (NotBoundary x z) = x ∷ z ∷ []

abbrev pub IsFirstFault : Arithmetic → Listing → ComplexError → Type 0
IsFirstFault F listing fault = first.IsFirst number place (Fails F listing) fault

abbrev pub IsClear : Arithmetic → Listing → ℕ → Type 0
IsClear F listing n = first.IsClear number place (Fails F listing) n

-- at most one fault is the first
abbrev pub FirstFaultIsOne : Arithmetic → Type 0
FirstFaultIsOne F = (listing : Listing) (a b : ComplexError) → IsFirstFault F listing a → IsFirstFault F listing b → a ≡ b
