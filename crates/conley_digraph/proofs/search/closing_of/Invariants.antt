use Rattle.std.proofs.Common.{◌≡◌, ◌<◌, ℕ, length}
use Rattle.conley_lists.specs.Lists.{items_of}
use Rattle.conley_digraph.specs.Search.{IsMet, IsSearchOf}
use Rattle.conley_digraph.proofs.search.closing_of.Given as goal

-- the nodes so far are met, and none is open
abbrev pub invariant-loop-root : goal.invariant-loop-root
invariant-loop-root l = record {
  search : IsSearchOf (items_of l.steps) l.search;
  path : length l.search.path.items ≡ 0;
  met : (y : ℕ) → y < l.root → IsMet l.search.stages.items y;
}
