-- Rows of bits that say which classes reach which. The class of a class is that of its nodes.
--     IsClosingOrder lists class_of order           these nodes, one of each class, come after those of the other classes that they reach
--     IsRowOf lists class_of count x row            bit b of the row says whether node x reaches class b
--     HaveRows lists class_of rows x                the heads of node x are of its class, or of a class that has its row
--     IsRowSoFar lists class_of count class row     a row in the making: it is closed under reach from other classes
--     JoinsHeads old new class_of heads             the bits of these heads are set besides
--     AreRowsSoFar lists class_of order n rows      the classes of the first n nodes of the order have their rows
--     AreRowsOf lists class_of rows                 each class has its row
use Rattle.std.specs.Prelude.{◌≡◌, ◌≢◌, ◌⊎◌, ◌+◌, ◌/◌, ◌<◌, ◌↔◌, ℕ, List, [], Contains, length, slice_index, slice_index_or}
use Rattle.conley_walk.specs.Walk.{ReachesIn}
use Rattle.conley_lists.specs.Lists.{ListedStep}
use Rattle.conley_lists.specs.Gathered.{StayBelow, AreTaken}
use Rattle.conley_order.specs.ClassRows.{word_bit}

pub record IsClosingOrder (lists : List (List ℕ)) (class_of order : List ℕ) : Type 0 where
  pub nodes : (k : ℕ) → k < length order → slice_index order k < length lists
  pub all : (x : ℕ) → x < length lists → (k : ℕ) × (k < length order) × (slice_index class_of x ≡ slice_index class_of (slice_index order k))
  pub steps : (k x y : ℕ) → k < length order → x < length lists → slice_index class_of x ≡ slice_index class_of (slice_index order k) → ListedStep lists x y →
      (slice_index class_of y ≡ slice_index class_of x) ⊎ ((j : ℕ) × (j < k) × (slice_index class_of y ≡ slice_index class_of (slice_index order j)))

pub record IsRowOf (lists : List (List ℕ)) (class_of : List ℕ) (count x : ℕ) (row : List ℕ) : Type 0 where
  pub width : length row ≡ count / 64 + 1
  pub bits : (y : ℕ) → y < length lists → (word_bit row (slice_index class_of y) ≡ 1) ↔ ReachesIn lists x y

abbrev pub HaveRows : List (List ℕ) → List ℕ → List (List ℕ) → ℕ → Type 0
HaveRows lists class_of rows x = (y : ℕ) → ListedStep lists x y →
    (slice_index class_of y ≡ slice_index class_of x) ⊎ IsRowOf lists class_of (length rows) y (slice_index_or rows (slice_index class_of y) [])

pub record IsRowSoFar (lists : List (List ℕ)) (class_of : List ℕ) (count class : ℕ) (row : List ℕ) : Type 0 where
  pub width : length row ≡ count / 64 + 1
  pub own : word_bit row class ≡ 1
  pub sound : (x y : ℕ) → x < length lists → y < length lists → slice_index class_of x ≡ class → word_bit row (slice_index class_of y) ≡ 1 → ReachesIn lists x y
  pub full : (y z : ℕ) → y < length lists → z < length lists → slice_index class_of y ≢ class
      → word_bit row (slice_index class_of y) ≡ 1 → ReachesIn lists y z → word_bit row (slice_index class_of z) ≡ 1

pub record JoinsHeads (old new class_of heads : List ℕ) : Type 0 where
  pub kept : (b : ℕ) → word_bit old b ≡ 1 → word_bit new b ≡ 1
  pub joined : (y : ℕ) → Contains heads y → word_bit new (slice_index class_of y) ≡ 1

abbrev pub AreRowsSoFar : List (List ℕ) → List ℕ → List ℕ → ℕ → List (List ℕ) → Type 0
AreRowsSoFar lists class_of order n rows = (k x : ℕ) → k < n → x < length lists → slice_index class_of x ≡ slice_index class_of (slice_index order k) →
    IsRowOf lists class_of (length rows) x (slice_index_or rows (slice_index class_of x) [])

pub record AreRowsOf (lists : List (List ℕ)) (class_of : List ℕ) (rows : List (List ℕ)) : Type 0 where
  pub below : StayBelow (length rows) (length lists) class_of
  pub used : AreTaken (length rows) (length lists) class_of
  pub row : (x : ℕ) → x < length lists → IsRowOf lists class_of (length rows) x (slice_index_or rows (slice_index class_of x) [])
