use Rattle.std.proofs.Common.{◌≡◌, length}
use Rattle.conley_digraph.specs.Numbering.{IsRenumberedSoFar}
use Rattle.conley_digraph.proofs.numbering.renumbered.Given as goal

abbrev pub invariant-loop-number : goal.invariant-loop-number
invariant-loop-number l = record {
  so_far : IsRenumberedSoFar l.numbers l.class_of.items l.renamed.items l.next l.number-index;
  table : length l.renamed.items ≡ l.count;
}
