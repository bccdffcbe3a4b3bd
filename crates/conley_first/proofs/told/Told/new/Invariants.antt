use Rattle.std.proofs.Common.{◌≡◌, take, length}
use Rattle.conley_first.proofs.told.Told.new.Given as goal

abbrev pub invariant-loop-k : goal.invariant-loop-k
invariant-loop-k l = record { same : take l.k l.all ≡ take l.k l.numbers; wide : length l.all ≡ 5 }
