use Rattle.std.proofs.Common.{◌<◌, ℕ}
use Rattle.conley_lists.specs.Lists.{items_of}
use Rattle.conley_mvf.specs.Fault.{IsUnknown}
use Rattle.conley_mvf.proofs.faults.first_unknown.Given as goal

abbrev pub invariant-loop-k : goal.invariant-loop-k
invariant-loop-k l = (j q : ℕ) → j < l.k → IsUnknown l.n (items_of l.lists) j q → ⊥
