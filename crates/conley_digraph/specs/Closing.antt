-- Classes of mutual reach in the order in which a search closes them.
--     AreNumbers stages numbers n        the first n nodes are closed, in classes of these numbers
--     AreClosing lists numbers roots     the number of the class of each node, and a node of each class; a class comes after those that it reaches
use Rattle.std.specs.Prelude.{◌≡◌, ◌<◌, ◌≤◌, ℕ, List, length, slice_index}
use Rattle.conley_walk.specs.Walk.{ReachesIn}
use Rattle.conley_lists.specs.Lists.{ListedStep}
use Rattle.conley_lists.specs.Gathered.{StayBelow}
use Rattle.conley_digraph.specs.declared.search.Stage.{Stage}
use Rattle.conley_digraph.specs.declared.search.Stage.TheVariants.{Closed}
use Rattle.conley_digraph.specs.Search.{stage_of}

pub record AreNumbers (stages : List Stage) (numbers : List ℕ) (n : ℕ) : Type 0 where
  pub count : length numbers ≡ n
  pub same : (y : ℕ) → y < n → stage_of stages y ≡ Closed (slice_index numbers y)

pub record AreClosing (lists : List (List ℕ)) (numbers roots : List ℕ) : Type 0 where
  pub count : length numbers ≡ length lists
  pub below : StayBelow (length roots) (length lists) numbers
  pub root : (k : ℕ) → k < length roots → (slice_index roots k < length lists) × (slice_index numbers (slice_index roots k) ≡ k)
  pub steps : (x y : ℕ) → ListedStep lists x y → slice_index numbers y ≤ slice_index numbers x
  pub same : (x y : ℕ) → x < length lists → y < length lists → slice_index numbers x ≡ slice_index numbers y → ReachesIn lists x y
