use Rattle.std.proofs.Common.{◌≡◌, ◌++◌, ℕ}
use Rattle.conley_lefschetz.specs.Listing.{bytes_of}
use Rattle.conley_lefschetz.specs.Fault.{IsDuplicate}
use Rattle.conley_lefschetz.proofs.labels.number_labels.Given as goal

abbrev pub invariant-loop-label : goal.invariant-loop-label
invariant-loop-label l = record {
  numbered : bytes_of l.numbers.keys ≡ bytes_of l.yielded;
  rest : l.yielded ++ l.label-iterator.rest.items ≡ l.fn.labels.items;
  distinct : (i j : ℕ) → IsDuplicate (bytes_of l.yielded) i j → ⊥;
}
