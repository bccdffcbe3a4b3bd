use Rattle.std.proofs.Common.{ℕ}
use Rattle.std.specs.Prelude.{sum}
use Rattle.conley_lists.specs.Lists.{items_of}
use Rattle.conley_digraph.specs.Search.{IsMet, IsSearchOf}
use Rattle.conley_digraph.proofs.search.Search.visit.Given as goal

abbrev pub invariant-loop-self : goal.invariant-loop-self
invariant-loop-self l = record {
  search : IsSearchOf (items_of l.steps) l.self;
  met : (y : ℕ) → IsMet l.fn.self.stages.items y → IsMet l.self.stages.items y;
  root : IsMet l.self.stages.items l.root;
}

-- the turns that all nodes want
abbrev pub decreases-loop-self : goal.decreases-loop-self
decreases-loop-self l = sum l.self.turns.items
