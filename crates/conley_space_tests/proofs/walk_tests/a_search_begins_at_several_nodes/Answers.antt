use Rattle.std.proofs.Common.{ℕ, List, Vec, subst, sym}
use Rattle.std.specs.declared.alloc.Global.{Global}
use Rattle.conley_lists.specs.Lists.{items_of, IsDigraph}
use Rattle.conley_space_tests.proofs.walk_tests.a_search_begins_at_several_nodes.Goals as goal

pub reached_from-requires-clause-digraph : goal.reached_from-requires-clause-digraph
reached_from-requires-clause-digraph g c = subst (λ (lists : List (Vec ℕ Global)). IsDigraph (items_of lists)) (sym c.deref.ensures.value)
    c.in_ok-lists.ensures.digraph
