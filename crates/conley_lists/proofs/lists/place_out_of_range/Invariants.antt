use Rattle.std.proofs.Common.{◌<◌, All, take}
use Rattle.conley_lists.proofs.lists.place_out_of_range.Given as goal

abbrev pub invariant-loop-k : goal.invariant-loop-k
invariant-loop-k l = All (λ y. y < l.n) (take l.k l.list)
