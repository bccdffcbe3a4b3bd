use Rattle.std.proofs.Common.{arith}
use Rattle.conley_faces.proofs.lists.gathered.Goals as goal

pub marked-requires-clause-range : goal.marked-requires-clause-range
marked-requires-clause-range c = λ x y s. let within = c.requires.range x y s in omega (arith, within, c.deref_mut.ensures.len, c.in_ok-seen.ensures.len)
