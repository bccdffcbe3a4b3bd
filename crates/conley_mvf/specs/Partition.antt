-- Partitions of cells: the number of the part of each cell. The cells are the numbers below the length of that list.
--     IsInPart part_of p x           x is a cell of part p
--     ShareAPart part_of x y         x and y are cells of one part
--     IsPartNumber part_of p         part p has a cell
--     AreCellsOf part_of p cells     the list has the cells of part p and no others
--     IsPartition part_of            parts are numbered in the order of their least cells
--     IsMultivectorField faces part_of    each cell of the faces has a part, and every part is locally closed
--     HaveNoGap faces part_of        what lies between two cells of a part is in the part
--     HaveSameParts a b              the parts of the one are those of the other, whatever their numbers
--     ShareAList lists x y           x and y stand in one of the lists
--     IsWhole lists part_of          the parts are the lists, and one part for each other cell
-- After Mrozek and Wanner; the wording is this project's own.
use Rattle.std.specs.Prelude.{◌≡◌, ◌⊎◌, ◌↔◌, ◌<◌, ◌^◌, ℕ, List, Contains, length, slice_index}
use Rattle.conley_lists.specs.Lists.{ListedStep}
use Rattle.conley_lists.specs.Gathered.{IsNumbering}
use Rattle.conley_faces.specs.Face.{IsFace, IsLocallyClosed}

abbrev pub IsInPart : List ℕ → ℕ → ℕ → Type 0
IsInPart part_of p x = (x < length part_of) × (slice_index part_of x ≡ p)

abbrev pub ShareAPart : List ℕ → ℕ → ℕ → Type 0
ShareAPart part_of x y = (x < length part_of) × IsInPart part_of (slice_index part_of x) y

abbrev pub IsPartNumber : List ℕ → ℕ → Type 0
IsPartNumber part_of p = (x : ℕ) × IsInPart part_of p x

pub record AreCellsOf (part_of : List ℕ) (p : ℕ) (cells : List ℕ) : Type 0 where
  pub same : (x : ℕ) → Contains cells x ↔ IsInPart part_of p x

pub record IsPartition (part_of : List ℕ) : Type 0 where
  -- a cell's number has 32 bits
  pub few : length part_of < 2 ^ 32
  -- each smaller number is that of an earlier cell
  pub in_order : IsNumbering part_of

pub record IsMultivectorField (faces : List (List ℕ)) (part_of : List ℕ) : Type 0 where
  pub count : length part_of ≡ length faces
  pub closed : (p : ℕ) (cells : List ℕ) → AreCellsOf part_of p cells → IsLocallyClosed faces cells

-- y is between x and z
abbrev pub HaveNoGap : List (List ℕ) → List ℕ → Type 0
HaveNoGap faces part_of = (x y z : ℕ) → IsFace faces x y → IsFace faces y z → ShareAPart part_of x z → ShareAPart part_of x y

abbrev pub HaveSameParts : List ℕ → List ℕ → Type 0
HaveSameParts a b = (x y : ℕ) → ShareAPart b x y ↔ ShareAPart a x y

abbrev pub ShareAList : List (List ℕ) → ℕ → ℕ → Type 0
ShareAList lists x y = (k : ℕ) × ListedStep lists k x × ListedStep lists k y

abbrev pub IsWhole : List (List ℕ) → List ℕ → Type 0
IsWhole lists part_of = (x y : ℕ) → x < length part_of → y < length part_of → (slice_index part_of x ≡ slice_index part_of y) ↔ ((x ≡ y) ⊎ ShareAList lists x y)
