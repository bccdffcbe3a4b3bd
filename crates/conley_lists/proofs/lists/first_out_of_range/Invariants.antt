use Rattle.std.proofs.Common.{◌≡◌, ◌<◌, All, length, take}
use Rattle.conley_lists.specs.Lists.{items_of, entries_of}
use Rattle.conley_lists.proofs.lists.first_out_of_range.Given as goal

-- the entries so far are in range
abbrev pub invariant-loop-list : goal.invariant-loop-list
invariant-loop-list l = record {
  counted : l.before ≡ length (entries_of (items_of (take l.list-index l.lists)));
  in_range : All (λ y. y < length l.lists) (entries_of (items_of (take l.list-index l.lists)));
}
