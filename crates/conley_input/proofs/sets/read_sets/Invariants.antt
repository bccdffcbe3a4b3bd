use Rattle.std.proofs.Common.{◌≡◌, map, take, string_bytes}
use Rattle.conley_lefschetz.specs.Listing.{bytes_of}
use Rattle.conley_lists.specs.Lists.{items_of, IsOrderedCopy}
use Rattle.conley_input.specs.declared.sets.NamedSet.{NamedSet}
use Rattle.conley_input.proofs.sets.read_sets.Given as goal

abbrev pub invariant-loop-k : goal.invariant-loop-k
invariant-loop-k l = record {
  names : map (λ (set : NamedSet). string_bytes set.name) l.sets.items ≡ bytes_of (take l.k l.names);
  cells : IsOrderedCopy (items_of (map (λ (set : NamedSet). set.cells) l.sets.items)) (items_of (take l.k l.lists));
}
