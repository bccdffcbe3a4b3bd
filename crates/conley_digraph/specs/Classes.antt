-- Classes of mutual reach.
--     AreClasses lists class_of    the number of the class of each node, in the order of the classes' least nodes
-- The wording is this project's own.
use Rattle.std.specs.Prelude.{◌≡◌, ◌<◌, ◌↔◌, ℕ, List, length, slice_index}
use Rattle.conley_walk.specs.Walk.{AreRecurrent}
use Rattle.conley_lists.specs.Gathered.{IsNumberedUpTo}
use Rattle.conley_lists.specs.Lists.{ListedStep}

pub record AreClasses (lists : List (List ℕ)) (class_of : List ℕ) : Type 0 where
  pub count : length class_of ≡ length lists
  pub same : (x y : ℕ) → x < length lists → y < length lists → (slice_index class_of x ≡ slice_index class_of y) ↔ AreRecurrent (ListedStep lists) x y
  -- each smaller number is that of an earlier node
  pub in_order : IsNumberedUpTo (length lists) class_of
