use Rattle.std.proofs.Common.{◌≡◌, length}
use Rattle.conley_isolation.specs.Making.{HasFirstsSoFar}
use Rattle.conley_isolation.proofs.places.firsts_of.Given as goal

abbrev pub invariant-loop-i : goal.invariant-loop-i
invariant-loop-i l = HasFirstsSoFar l.parts l.i l.first.items l.firsts.items × (length l.first.items ≡ l.count)
