use Rattle.std.proofs.Common.{◌≡◌, ◌<◌, ℕ, length, get_or}
use Rattle.conley_lists.specs.Lists.{items_of}
use Rattle.conley_mvf.specs.Making.{TellsFirst}
use Rattle.conley_mvf.proofs.numbering.firsts_of.Given as goal

abbrev pub invariant-loop-x : goal.invariant-loop-x
invariant-loop-x l = (length l.least.items ≡ l.x) × ((y : ℕ) → y < l.x → get_or l.least.items y 0 ≡ y)

abbrev pub invariant-loop-list : goal.invariant-loop-list
invariant-loop-list l = TellsFirst (items_of l.lists) l.list-index l.cells l.least.items
