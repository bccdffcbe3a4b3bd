-- What the steps that make a complex say of what they made; no public clause cites it.
--     NumbersLabel old new label found   one label more, or the equal one that stood before
--     FindsDuplicate labels error        the first two equal labels, or want of memory
--     NoneAloneBelow dims x y code why   a triple has no fault by itself that comes before this one
--     NoneAlone dims x y code            it has none
--     FaultAlone dims x y code why       the least fault of a triple by itself, or 0
--     NextFault dims old new x y code why  the least fault of the next triple, or 0
--     AreFacesOf incidences n faces      ascending lists of the cells directly under each of n cells
--     cells_in_triple triple             the two cells of a triple
--     column_of incidences x cells       the entries of column x of the boundary, at the cells
--     AddsMultiple F old new by chain    the sums gain a multiple of a chain
--     IsSquareColumn F m x sums          the sums are column x of the square of m
use Rattle.std.specs.Prelude.{◌≡◌, ◌≢◌, ◌⊎◌, ◌↔◌, ◌<◌, ℕ, List, [], ◌∷◌, ◌++◌, Bool, true, false, Option, Some, None, Contains, length, map, slice_index, slice_index_or}
use Rattle.conley_field.specs.Arithmetic.{Arithmetic}
use Rattle.conley_algebra.specs.Entries.{product_of}
use Rattle.conley_chains.specs.Chain.{coefficient}
use Rattle.conley_chains.specs.Matrix.{Table, entry, column_count}
use Rattle.conley_first.specs.First.{Precedes}
use Rattle.conley_lists.specs.Lists.{ListedStep, AllAscend, AllBelow}
use Rattle.conley_lefschetz.specs.Listing.{incidence_of}
use Rattle.conley_lefschetz.specs.Fault.{IsDuplicate, IsFaultAlone, StoodBefore}
use Rattle.conley_lefschetz.specs.declared.error.ComplexError.{ComplexError}
use Rattle.conley_lefschetz.specs.declared.error.ComplexError.TheVariants.{DuplicateLabel, NoMemory}

-- the label is the next, and no earlier one equals it; or it equals this one and none before that
abbrev pub NumbersLabel : List (List ℕ) → List (List ℕ) → List ℕ → Option ℕ → Type 0
NumbersLabel old new label None = (new ≡ old ++ label ∷ []) × ((i : ℕ) → i < length old → slice_index_or old i [] ≡ label → ⊥)
NumbersLabel old new label (Some i) = (i < length old) × (slice_index_or old i [] ≡ label) × ((h : ℕ) → h < i → slice_index_or old h [] ≡ label → ⊥)

abbrev pub FindsDuplicate : List (List ℕ) → ComplexError → Type 0
FindsDuplicate labels NoMemory = Unit {0}
FindsDuplicate labels (DuplicateLabel i j) = IsDuplicate labels i j × ((h k : ℕ) → Precedes (k ∷ h ∷ []) (j ∷ i ∷ []) → ¬ IsDuplicate labels h k)
FindsDuplicate labels error = ⊥

abbrev pub NoneAloneBelow : List ℕ → ℕ → ℕ → ℕ → ℕ → Type 0
NoneAloneBelow dims x y code why = (other : ℕ) → other < why → ¬ IsFaultAlone dims x y code other

abbrev pub NoneAlone : List ℕ → ℕ → ℕ → ℕ → Type 0
NoneAlone dims x y code = (other : ℕ) → ¬ IsFaultAlone dims x y code other

pub record FaultAlone (dims : List ℕ) (x y code why : ℕ) : Type 0 where
  pub fault : why ≢ 0 → IsFaultAlone dims x y code why
  pub least : NoneAloneBelow dims x y code why
  pub none : why ≡ 0 → NoneAlone dims x y code
  pub few : why < 4

-- the cells x and y are among those noted; they were new or they stood before
pub record NotesCells (old new : List (ℕ × ℕ)) (x y : ℕ) (added : Bool) : Type 0 where
  pub noted : added ≡ true → new ≡ old ++ (x, y) ∷ []
  pub fresh : added ≡ true → ¬ Contains old (x, y)
  pub stood : added ≡ false → Contains old (x, y)

-- where there is no fault the cells are noted
pub record NextFault (dims : List ℕ) (old new : List (ℕ × ℕ)) (x y code why : ℕ) : Type 0 where
  pub fault : why ≢ 0 → IsFaultAlone dims x y code why ⊎ ((why ≡ 4) × Contains old (x, y))
  pub least : NoneAloneBelow dims x y code why
  pub none : why ≡ 0 → NoneAlone dims x y code
  pub few : why < 5
  pub fresh : why ≡ 0 → ¬ Contains old (x, y)
  pub noted : why ≡ 0 → new ≡ old ++ (x, y) ∷ []

pub record AreFacesOf (incidences : List (ℕ × ℕ × ℕ)) (n : ℕ) (faces : List (List ℕ)) : Type 0 where
  pub count : length faces ≡ n
  pub steps : (x y : ℕ) → ListedStep faces x y ↔ StoodBefore incidences (length incidences) x y
  pub ascending : AllAscend faces

abbrev pub cells_in_triple : ℕ × ℕ × ℕ → ℕ × ℕ
cells_in_triple triple = (triple.0, triple.1)

abbrev pub column_of : List (ℕ × ℕ × ℕ) → ℕ → List ℕ → List (ℕ × ℕ)
column_of incidences x cells = map (λ y. (y, incidence_of incidences x y)) cells

pub record AddsMultiple (F : Arithmetic) (old new : List ℕ) (by : ℕ) (chain : List (ℕ × ℕ)) : Type 0 where
  pub count : length new ≡ length old
  pub codes : AllBelow F.order new
  pub sums : (z : ℕ) → slice_index new z ≡ F.add (slice_index old z) (F.mul by (coefficient chain z))

pub record IsSquareColumn (F : Arithmetic) (m : Table) (x : ℕ) (row : List ℕ) : Type 0 where
  pub count : length row ≡ m.rows
  pub sums : (z : ℕ) → slice_index row z ≡ product_of F (column_count m) (entry m) (entry m) z x
