use Rattle.std.proofs.Common.{length}
use Rattle.conley_lists.specs.Lists.{items_of}
use Rattle.conley_morse.specs.Making.{AreCountedSoFar}
use Rattle.conley_morse.proofs.counting.counted.Given as goal

abbrev pub invariant-loop-class : goal.invariant-loop-class
invariant-loop-class g l =
    AreCountedSoFar (g.F.Field.arithmetic l.complex.0) l.complex.1 l.partition (items_of l.fn.classes.items) (length l.yielded) (items_of l.sets.items)
    (items_of l.numbers.items)
