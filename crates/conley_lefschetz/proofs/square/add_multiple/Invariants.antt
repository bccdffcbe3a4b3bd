use Rattle.std.proofs.Common.{take}
use Rattle.conley_lefschetz.specs.Making.{AddsMultiple}
use Rattle.conley_lefschetz.proofs.square.add_multiple.Given as goal

abbrev pub invariant-loop-e : goal.invariant-loop-e
invariant-loop-e g l = AddsMultiple (g.F.Field.arithmetic l.field) l.initial.sums l.sums l.by (take l.e-index l.chain)
