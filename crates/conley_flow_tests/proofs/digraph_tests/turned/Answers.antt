use Rattle.std.proofs.Common.{ℕ, List, Vec, subst, sym, ◌∙◌}
use Rattle.std.specs.declared.alloc.Global.{Global}
use Rattle.conley_lists.specs.Lists.{items_of, IsDigraph}
use Rattle.conley_flow_tests.proofs.digraph_tests.turned.Goals as goal

pub turned_round-requires-clause-digraph : goal.turned_round-requires-clause-digraph
turned_round-requires-clause-digraph c =
    subst (λ (lists : List (Vec ℕ Global)). IsDigraph (items_of lists)) (c.deref.ensures.value ∙ sym c.deref-2.ensures.value) c.in_default.ensures.none
