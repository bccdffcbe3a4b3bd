-- What the steps that make a partition say of what they made; no public clause cites it.
--     FindsFirstGap P answer         the first number and triple at which P holds, if there is one
--     IsKnown seen part k            number k of the part has a mark or stands before in the part
--     MarksPart part seen seen' answer   the first number that is known; where there is none, all are marked besides
--     MarkedSoFar lists n seen       the marks are those of the first n lists, of which no number stood earlier
--     first_in lists k               the first number of list k
--     PutsFirst old new list         the numbers of the list have its first number, all others what they had
--     TellsFirst lists n cells least    a cell of one of the first n lists has the first cell of such a list, any other has itself
--     AreLeast least                 a cell that is had by another is no later and has itself
--     FirstsSoFar labels n first least   for each label the first of the first n cells that has it, and for each of these the first with its label
--     TellsFirstByLabel labels least     for each cell the first cell that has its label
--     NumbersSoFar least n part_of next   parts of the first n cells: cells of one part are those that have one cell
--     IsPartitionTable part_of cells what a value of `Partition` keeps
use Rattle.std.specs.Prelude.{◌≡◌, ◌≢◌, ◌⊎◌, ◌↔◌, ◌<◌, ◌≤◌, ℕ, List, [], ◌∷◌, Bool, Option, Some, None, Contains, length, slice_index, slice_index_or}
use Rattle.conley_first.specs.First.{Precedes}
use Rattle.conley_lists.specs.Lists.{IsMarked, ListedStep, KeepsOthers}
use Rattle.conley_lists.specs.Gathered.{AreGathered, IsNumberedUpTo, StayBelow, AreTaken, AreToldApart, AreToldBy}
use Rattle.conley_mvf.specs.Fault.{IsAt, StoodEarlier}
use Rattle.conley_mvf.specs.Partition.{IsPartition}

abbrev pub FindsFirstGap : (ℕ → ℕ → ℕ → ℕ → Type 0) → Option (ℕ × (ℕ × ℕ × ℕ)) → Type 0
FindsFirstGap P None = (k x y z : ℕ) → ¬ P k x y z
FindsFirstGap P (Some (k, t)) = P k t.0 t.1 t.2 × ((l x y z : ℕ) → Precedes (l ∷ x ∷ y ∷ z ∷ []) (k ∷ t.0 ∷ t.1 ∷ t.2 ∷ []) → ¬ P l x y z)

abbrev pub IsKnown : List Bool → List ℕ → ℕ → Type 0
IsKnown seen part k = IsMarked seen (slice_index part k) ⊎ ((j : ℕ) × (j < k) × (slice_index part j ≡ slice_index part k))

-- the marks of seen, and those of the first n numbers of the part
abbrev pub MarksFirst : List ℕ → ℕ → List Bool → List Bool → Type 0
MarksFirst part n seen seen' = (x : ℕ) → IsMarked seen' x ↔ (IsMarked seen x ⊎ ((j : ℕ) × (j < n) × (slice_index part j ≡ x)))

abbrev pub MarksPart : List ℕ → List Bool → List Bool → Option ℕ → Type 0
MarksPart part seen seen' (Some k) = (k < length part) × IsKnown seen part k × ((j : ℕ) → j < k → ¬ IsKnown seen part j)
MarksPart part seen seen' None = ((j : ℕ) → j < length part → ¬ IsKnown seen part j) × MarksFirst part (length part) seen seen'

pub record MarkedSoFar (lists : List (List ℕ)) (n : ℕ) (seen : List Bool) : Type 0 where
  pub marks : (x : ℕ) → IsMarked seen x ↔ ((l : ℕ) × (p : ℕ) × (l < n) × IsAt lists l p x)
  pub none : (l p : ℕ) → l < n → ¬ StoodEarlier lists l p

abbrev pub first_in : List (List ℕ) → ℕ → ℕ
first_in lists k = slice_index (slice_index_or lists k []) 0

pub record PutsFirst (old new list : List ℕ) : Type 0 where
  pub count : length new ≡ length old
  pub put : (x : ℕ) → Contains list x → slice_index new x ≡ slice_index list 0
  pub kept : KeepsOthers list old new

pub record TellsFirst (lists : List (List ℕ)) (n cells : ℕ) (least : List ℕ) : Type 0 where
  pub count : length least ≡ cells
  pub cases : (x : ℕ) → x < cells → ((slice_index least x ≡ x) × ((k : ℕ) → k < n → ¬ ListedStep lists k x))
      ⊎ ((k : ℕ) × (k < n) × ListedStep lists k x × (slice_index least x ≡ first_in lists k))

pub record AreLeast (least : List ℕ) : Type 0 where
  pub low : (x : ℕ) → x < length least → slice_index least x ≤ x
  pub fixed : (x : ℕ) → x < length least → slice_index least (slice_index least x) ≡ slice_index least x

pub record FirstsSoFar (labels : List ℕ) (n : ℕ) (first least : List ℕ) : Type 0 where
  pub count : length least ≡ n
  pub width : length first ≡ length labels
  pub firsts : (p : ℕ) → p < length labels →
      ((slice_index first p ≡ length labels) × ((y : ℕ) → y < n → slice_index labels y ≢ p))
      ⊎ ((slice_index first p < n) × (slice_index labels (slice_index first p) ≡ p) × ((y : ℕ) → y < n → slice_index labels y ≡ p → slice_index first p ≤ y))
  pub told : AreToldBy first labels n least

pub record TellsFirstByLabel (labels least : List ℕ) : Type 0 where
  pub count : length least ≡ length labels
  pub are_least : AreLeast least
  pub same : AreToldApart (length labels) least labels

pub record NumbersSoFar (least : List ℕ) (n : ℕ) (part_of : List ℕ) (next : ℕ) : Type 0 where
  pub count : length part_of ≡ n
  pub few : next ≤ n
  pub below : StayBelow next n part_of
  pub used : AreTaken next n part_of
  pub same : AreToldApart n part_of least
  pub in_order : IsNumberedUpTo n part_of

pub record IsPartitionTable (part_of : List ℕ) (cells : List (List ℕ)) : Type 0 where
  pub partition : IsPartition part_of
  pub parts : AreGathered part_of (length part_of) cells
