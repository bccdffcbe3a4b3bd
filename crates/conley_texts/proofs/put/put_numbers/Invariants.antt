use Rattle.std.proofs.Common.{◌≡◌, ◌≤◌, ◌∷◌, take}
use Rattle.std.specs.Prelude.{decimal}
use Rattle.conley_outside.specs.Sink.{gains}
use Rattle.std.specs.List.{flat_map}
use Rattle.conley_texts.proofs.put.put_numbers.Given as goal

abbrev pub invariant-loop-number : goal.invariant-loop-number
invariant-loop-number g l = record {
  written : g.S.Sink.written l.sink ≡ gains (g.S.Sink.written l.initial.sink) (flat_map (λ n. 32 ∷ decimal n) (take l.number-index l.numbers));
  later : g.S.Sink.faults l.initial.sink ≤ g.S.Sink.faults l.sink;
}
