use Rattle.conley_digraph.proofs.digraph.Digraph.classes.Goals as goal

pub classes-requires-clause-digraph : goal.classes-requires-clause-digraph
classes-requires-clause-digraph c = rw c.deref.ensures.value c.self.invariant.digraph
