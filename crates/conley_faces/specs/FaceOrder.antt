-- What every value of `Faces` is.
--     IsFaceOrder direct             ascending lists of the cells directly under each cell, by which no cell is below itself
-- The wording is this project's own.
use Rattle.std.specs.Prelude.{◌+◌, ◌<◌, ◌^◌, ℕ, List, length}
use Rattle.conley_lists.specs.Lists.{IsDigraph, entries_of, AllAscend}
use Rattle.conley_faces.specs.Face.{IsBelowItself}

pub record IsFaceOrder (direct : List (List ℕ)) : Type 0 where
  -- cells and entries together can be counted in 32 bits
  pub few : length direct + length (entries_of direct) < 2 ^ 32
  -- what stands directly under a cell is a cell
  pub digraph : IsDigraph direct
  pub ascending : AllAscend direct
  pub no_cycle : (x : ℕ) → ¬ IsBelowItself direct x
