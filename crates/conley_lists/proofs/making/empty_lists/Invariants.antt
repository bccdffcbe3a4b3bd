use Rattle.std.proofs.Common.{◌≡◌, ℕ, [], length, get_or}
use Rattle.conley_lists.specs.Lists.{items_of}
use Rattle.conley_lists.proofs.making.empty_lists.Given as goal

abbrev pub invariant-loop-turn : goal.invariant-loop-turn
invariant-loop-turn l = (length l.lists.items ≡ l.turn) × ((x : ℕ) → get_or (items_of l.lists.items) x [] ≡ [])
