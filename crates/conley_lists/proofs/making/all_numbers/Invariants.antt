use Rattle.std.proofs.Common.{◌≡◌, ◌<◌, ℕ, length, slice_index, All}
use Rattle.conley_lists.proofs.making.all_numbers.Given as goal

abbrev pub invariant-loop-x : goal.invariant-loop-x
invariant-loop-x l = (length l.all.items ≡ l.x) × ((y : ℕ) → y < l.x → slice_index l.all.items y ≡ y) × (All (λ y. y < l.n) l.all.items)
