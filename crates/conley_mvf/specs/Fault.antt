-- Why lists of cells make no partition into locally closed parts. Each fault says of one place that something is wrong there.
--     IsAt lists list at x         x stands in this list at this place
--     IsUnknown n lists list at    the number at this list and place isn't below n
--     StoodEarlier lists list at   the number at this list and place stood at an earlier one
--     IsEmptyList lists k          list k has no number
--     Fails faces lists fault      the sentence of the fault, at its place
--     number fault, place fault    where it stands among the faults
--     IsFirstFault faces lists fault    it fails, and none that fails stands before it
--     IsClear faces lists n        none with a number below n fails
use Rattle.std.specs.Prelude.{◌≡◌, ◌<◌, ◌≤◌, ℕ, List, [], ◌∷◌, length, slice_index, slice_index_or}
use Rattle.conley_first.specs.First as first
use Rattle.conley_faces.specs.Face.{IsGap}
use Rattle.conley_mvf.specs.declared.error.PartError.{PartError}
use Rattle.conley_mvf.specs.declared.error.PartError.TheVariants.{Unknown, Repeated, EmptyPart, Gap, NoMemory}

abbrev pub IsAt : List (List ℕ) → ℕ → ℕ → ℕ → Type 0
IsAt lists list at x = (at < length (slice_index_or lists list [])) × (slice_index (slice_index_or lists list []) at ≡ x)

abbrev pub IsUnknown : ℕ → List (List ℕ) → ℕ → ℕ → Type 0
IsUnknown n lists list at = (at < length (slice_index_or lists list [])) × (n ≤ slice_index (slice_index_or lists list []) at)

abbrev pub StoodEarlier : List (List ℕ) → ℕ → ℕ → Type 0
StoodEarlier lists list at = (l : ℕ) × (p : ℕ) × (x : ℕ) × IsAt lists list at x × IsAt lists l p x × first.Precedes (l ∷ p ∷ []) (list ∷ at ∷ [])

abbrev pub IsEmptyList : List (List ℕ) → ℕ → Type 0
IsEmptyList lists k = (k < length lists) × (slice_index_or lists k [] ≡ [])

-- want of memory is no fault of lists
abbrev pub Fails : List (List ℕ) → List (List ℕ) → PartError → Type 0
Fails faces lists NoMemory = ⊥
Fails faces lists (Unknown list at) = IsUnknown (length faces) lists list at
Fails faces lists (Repeated list at) = StoodEarlier lists list at
Fails faces lists (EmptyPart k) = IsEmptyList lists k
Fails faces lists (Gap k x y z) = IsGap faces (slice_index_or lists k []) x y z

abbrev pub number : PartError → ℕ
number NoMemory = 0
number (Unknown list at) = 1
number (Repeated list at) = 2
number (EmptyPart k) = 3
number (Gap k x y z) = 4

abbrev pub place : PartError → List ℕ
place NoMemory = []
place (Unknown list at) = list ∷ at ∷ []
place (Repeated list at) = list ∷ at ∷ []
place (EmptyPart k) = k ∷ []
place (Gap k x y z) = k ∷ x ∷ y ∷ z ∷ []

abbrev pub IsFirstFault : List (List ℕ) → List (List ℕ) → PartError → Type 0
IsFirstFault faces lists fault = first.IsFirst number place (Fails faces lists) fault

abbrev pub IsClear : List (List ℕ) → List (List ℕ) → ℕ → Type 0
IsClear faces lists n = first.IsClear number place (Fails faces lists) n

-- at most one fault is the first
abbrev pub FirstFaultIsOne : Type 0
FirstFaultIsOne = (faces lists : List (List ℕ)) (a b : PartError) → IsFirstFault faces lists a → IsFirstFault faces lists b → a ≡ b
