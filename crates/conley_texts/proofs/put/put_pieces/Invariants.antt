use Rattle.std.proofs.Common.{◌≡◌, ◌≤◌, take}
use Rattle.std.specs.List.{flat_map}
use Rattle.conley_outside.specs.Sink.{gains}
use Rattle.conley_texts.proofs.put.put_pieces.Given as goal

abbrev pub invariant-loop-piece : goal.invariant-loop-piece
invariant-loop-piece g l = record {
  written : g.S.Sink.written l.sink ≡ gains (g.S.Sink.written l.initial.sink) (flat_map (λ p. p.now) (take l.piece-index l.pieces));
  later : g.S.Sink.faults l.initial.sink ≤ g.S.Sink.faults l.sink;
}
