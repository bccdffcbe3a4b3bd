-- Places gathered by the numbers that stand there.
--     IsNumberedUpTo n numbers       at the first n places, each smaller number than the one that stands there stands at an earlier place
--     IsNumbering numbers            the same at all places
--     StayBelow count n numbers      the numbers at the first n places are below the count
--     AreTaken count n numbers       each number below the count stands at one of the first n places
--     AreToldApart n a b             two of the first n places have one number in a exactly where they have one in b
--     AreToldBy first labels n list  the first n places have what `first` has at their labels
--     AreGathered numbers n lists    list k has those of the first n places at which k stands, ascending
use Rattle.std.specs.Prelude.{◌≡◌, ◌↔◌, ◌<◌, ◌≤◌, ℕ, List, length, slice_index}
use Rattle.conley_lists.specs.Lists.{ListedStep, AllAscend}

abbrev pub IsNumberedUpTo : ℕ → List ℕ → Type 0
IsNumberedUpTo n numbers = (x k : ℕ) → x < n → k < slice_index numbers x → (y : ℕ) × (y < x) × (slice_index numbers y ≡ k)

abbrev pub IsNumbering : List ℕ → Type 0
IsNumbering numbers = IsNumberedUpTo (length numbers) numbers

abbrev pub StayBelow : ℕ → ℕ → List ℕ → Type 0
StayBelow count n numbers = (x : ℕ) → x < n → slice_index numbers x < count

abbrev pub AreTaken : ℕ → ℕ → List ℕ → Type 0
AreTaken count n numbers = (k : ℕ) → k < count → (x : ℕ) × (x < n) × (slice_index numbers x ≡ k)

abbrev pub AreToldApart : ℕ → List ℕ → List ℕ → Type 0
AreToldApart n a b = (x y : ℕ) → x < n → y < n → (slice_index a x ≡ slice_index a y) ↔ (slice_index b x ≡ slice_index b y)

abbrev pub AreToldBy : List ℕ → List ℕ → ℕ → List ℕ → Type 0
AreToldBy first labels n list = (x : ℕ) → x < n → slice_index list x ≡ slice_index first (slice_index labels x)

pub record AreGathered (numbers : List ℕ) (n : ℕ) (lists : List (List ℕ)) : Type 0 where
  pub few : length lists ≤ n
  pub below : StayBelow (length lists) n numbers
  pub used : AreTaken (length lists) n numbers
  pub ascending : AllAscend lists
  pub same : (k x : ℕ) → ListedStep lists k x ↔ ((x < n) × (slice_index numbers x ≡ k))
