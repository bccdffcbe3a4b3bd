-- What every value of `Digraph` is.
--     AreHeads heads       ascending lists of the nodes that the steps of each node lead to
-- The wording is this project's own.
use Rattle.std.specs.Prelude.{◌<◌, ◌^◌, ℕ, List, length}
use Rattle.conley_lists.specs.Lists.{IsDigraph, AllAscend}

pub record AreHeads (heads : List (List ℕ)) : Type 0 where
  -- a node's number has 32 bits
  pub few : length heads < 2 ^ 32
  pub digraph : IsDigraph heads
  pub ascending : AllAscend heads
