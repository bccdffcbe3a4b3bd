-- What the arguments of the steps mean.
--     IsReachTest P count is_below    a preorder is reach: y is at or below x where x reaches y
--     AreGiven P C                    a problem and a certificate that fits it, in sizes that have numbers
--     GeneratorsNameSets C            each generator names a set, and no set is empty
--     AreRead P C read                sets, dimensions and first cells of the generators, and the cells
--     AreClassNumbers P class_of      for each cell the number of its class of mutual reach, in the order of least cells
--     ArePlaces P C place             for each cell 1 plus the number of its set, or 0
--     AreFirsts P C firsts            the first cell of each set
--     AreLeasts P class_of leasts     the least cell of each class, by the numbers of the classes
use Rattle.std.specs.Prelude.{◌≡◌, ◌≢◌, ◌<◌, ◌≤◌, ◌↔◌, true, ◌^◌, ◌-◌, ℕ, Bool, List, length, slice_index}
use Rattle.conley_lists.specs.Lists.{AllBelow}
use Rattle.conley_lists.specs.Gathered.{IsNumberedUpTo, StayBelow}
use Rattle.conley_checker.specs.declared.refusals.Read.{Read}
use Rattle.conley_certificate.specs.Problem.{Problem, IsProblem, cell_count}
use Rattle.conley_certificate_file.specs.Certificate.{Certificate, Fits, NoneIsEmpty}
use Rattle.conley_certificate.specs.Certificate.{set_count, generator_count, set_of, dim_of, base_of, first_cell}
use Rattle.conley_certificate.specs.Reach.{reaches, recurs}
use Rattle.conley_certificate.specs.Values.{place_of}

pub record IsReachTest (P : Problem) (count : ℕ) (is_below : ℕ → ℕ → Bool) : Type 0 where
  pub cells : count ≡ cell_count P
  pub same : (x y : ℕ) → x < cell_count P → y < cell_count P → is_below y x ≡ reaches P x y

pub record AreGiven (P : Problem) (C : Certificate) : Type 0 where
  pub problem : IsProblem P
  pub fits : Fits P.scalars P.complex C
  pub few_cells : cell_count P < 2 ^ 32 - 1
  pub few_sets : set_count C < 2 ^ 32 - 1
  pub few_generators : generator_count C < 2 ^ 32 - 1
  pub few_levels : P.complex.levels < 2 ^ 32 - 1

pub record GeneratorsNameSets (C : Certificate) : Type 0 where
  pub names : (g : ℕ) → g < generator_count C → set_of C g < set_count C
  pub non_empty : NoneIsEmpty C.morse

pub record AreRead (P : Problem) (C : Certificate) (read : Read) : Type 0 where
  pub sets_count : length read.sets.items ≡ generator_count C
  pub sets : (g : ℕ) → g < generator_count C → slice_index read.sets.items g ≡ set_of C g
  pub dims_count : length read.dims.items ≡ generator_count C
  pub dims : (g : ℕ) → g < generator_count C → slice_index read.dims.items g ≡ dim_of C g
  pub bases_count : length read.bases.items ≡ generator_count C
  pub bases : (g : ℕ) → g < generator_count C → slice_index read.bases.items g ≡ base_of C g
  pub bases_cells : AllBelow (cell_count P) read.bases.items
  pub cells_count : length read.cells.items ≡ cell_count P
  pub cells : (x : ℕ) → x < cell_count P → slice_index read.cells.items x ≡ x
  pub cells_cells : AllBelow (cell_count P) read.cells.items

pub record AreClassNumbers (P : Problem) (class_of : List ℕ) : Type 0 where
  pub count : length class_of ≡ cell_count P
  pub same : (x y : ℕ) → x < cell_count P → y < cell_count P → (slice_index class_of x ≡ slice_index class_of y) ↔ (recurs P x y ≡ true)
  pub in_order : IsNumberedUpTo (cell_count P) class_of

pub record ArePlaces (P : Problem) (C : Certificate) (place : List ℕ) : Type 0 where
  pub count : length place ≡ cell_count P
  pub places : (x : ℕ) → x < cell_count P → slice_index place x ≡ place_of C x

pub record AreFirsts (P : Problem) (C : Certificate) (firsts : List ℕ) : Type 0 where
  pub count : length firsts ≡ set_count C
  pub first : (i : ℕ) → i < set_count C → slice_index firsts i ≡ first_cell C i
  pub cells : AllBelow (cell_count P) firsts

pub record AreLeasts (P : Problem) (class_of leasts : List ℕ) : Type 0 where
  pub few : length leasts ≤ cell_count P
  pub classes : StayBelow (length leasts) (cell_count P) class_of
  pub cells : (c : ℕ) → c < length leasts → slice_index leasts c < cell_count P
  pub class : (c : ℕ) → c < length leasts → slice_index class_of (slice_index leasts c) ≡ c
  pub least : (c y : ℕ) → c < length leasts → y < slice_index leasts c → slice_index class_of y ≢ c
