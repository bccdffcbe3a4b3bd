use Rattle.std.proofs.Common.{◌≡◌, ◌<◌, ℕ, length, get_or, take}
use Rattle.conley_lists.specs.Lists.{IsMarked}
use Rattle.conley_faces.specs.Closures.{IsPart}
use Rattle.conley_isolation.proofs.set_report.marked.Given as goal

abbrev pub invariant-loop-i : goal.invariant-loop-i
invariant-loop-i l = IsPart (λ x. (i : ℕ) × (i < length l.set) × (get_or l.set i 0 ≡ x) × IsMarked l.row i × IsMarked l.other i) (take l.i l.set) l.part.items
