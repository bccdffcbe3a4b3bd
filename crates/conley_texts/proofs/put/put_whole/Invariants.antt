use Rattle.std.proofs.Common.{◌≡◌, ◌-◌, ◌≤◌, length, take}
use Rattle.conley_outside.specs.Sink.{gains}
use Rattle.conley_texts.proofs.put.put_whole.Given as goal

-- so many bytes are written, and the count of faults has not fallen
abbrev pub invariant-loop-done : goal.invariant-loop-done
invariant-loop-done g l = record {
  within : l.done ≤ length l.text;
  written : g.S.Sink.written l.sink ≡ gains (g.S.Sink.written l.initial.sink) (take l.done l.text);
  later : g.S.Sink.faults l.initial.sink ≤ g.S.Sink.faults l.sink;
}

abbrev pub decreases-loop-done : goal.decreases-loop-done
decreases-loop-done g l = length l.text - l.done
