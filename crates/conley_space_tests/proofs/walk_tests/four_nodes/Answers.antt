use Rattle.std.proofs.Common.{ℕ, List, Vec, subst}
use Rattle.std.specs.declared.alloc.Global.{Global}
use Rattle.conley_lists.specs.Lists.{items_of, IsDigraph}
use Rattle.conley_space_tests.proofs.walk_tests.four_nodes.Goals as goal

pub returns-clause-digraph : goal.returns-clause-digraph
returns-clause-digraph c = subst (λ (lists : List (Vec ℕ Global)). IsDigraph (items_of lists)) c.deref.ensures.value c.in_default.ensures.none
