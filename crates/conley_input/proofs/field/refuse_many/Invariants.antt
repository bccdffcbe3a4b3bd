use Rattle.std.proofs.Common.{◌≡◌, ◌<◌, ◌^◌, length, take}
use Rattle.conley_lists.specs.Lists.{items_of, entries_of}
use Rattle.conley_input.proofs.field.refuse_many.Given as goal

-- the entries so far are counted
abbrev pub invariant-loop-list : goal.invariant-loop-list
invariant-loop-list l = record {
  counted : l.entries ≡ length (entries_of (items_of (take l.list-index l.lists)));
  few : l.entries < 2 ^ 32;
}
