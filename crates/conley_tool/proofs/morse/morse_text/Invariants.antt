use Rattle.std.proofs.Common.{◌≡◌, ◌++◌, map, take, length}
use Rattle.std.specs.List.{range_with_len}
use Rattle.conley_texts.specs.Line.{text_of}
use Rattle.conley_tool.specs.Morse.{set_words, order_words}
use Rattle.conley_tool.specs.Ends.{graph_of}
use Rattle.conley_tool.proofs.morse.morse_text.Given as goal

abbrev pub invariant-loop-m : goal.invariant-loop-m
invariant-loop-m l = l.text.items ≡ text_of (map (set_words l.complex.1.labels (graph_of l.found)) (range_with_len 0 l.m))

abbrev pub invariant-loop-pair : goal.invariant-loop-pair
invariant-loop-pair l = l.text.items ≡ text_of (map (set_words l.complex.1.labels (graph_of l.found)) (range_with_len 0 (length l.found.sets.items)) ++ map
    order_words (take l.pair-index l.found.order.items))
