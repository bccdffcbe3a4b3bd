-- one more line
use Rattle.std.proofs.Common.{arith, ◌+◌, ◌++◌, ◌∷◌, [], ℕ, List, length, map, get_or, take, sym, ◌∙◌, ap, append_assoc}
use Rattle.std.specs.List.{range_with_len}
use Rattle.std.proofs.lemmas.List.{append-nil, map-append}
use Rattle.conley_texts.specs.Line.{line, text_of}
use Rattle.conley_texts.proofs.LineLemmas.{text_of-append, text_more}
use Rattle.conley_tool.specs.Morse.{set_words, order_words}
use Rattle.conley_tool.specs.Ends.{graph_of}
use Rattle.conley_tool.proofs.RangeLemmas.{range_more}
use Rattle.conley_tool.proofs.morse.morse_text.Goals as goal

pub loop-m-preserved : goal.loop-m-preserved
loop-m-preserved c =
    let words = set_words c.args.complex.now.1.labels (graph_of c.args.found.now) in
    let m : ℕ = c.loop-m.m in
    let more = ap text_of (ap (map words) (range_more m) ∙ map-append words (range_with_len 0 m) (m ∷ []))
    ∙ text_of-append (map words (range_with_len 0 m)) (words m ∷ []) ∙ ap (λ t. text_of (map words (range_with_len 0 m)) ++ t)
    (append-nil (line (words m))) in
    c.in_ok-push_set.ensures ∙ ap (λ (t : List ℕ). t ++ line (words m)) c.loop-m.invariant ∙ sym more

pub loop-pair-preserved : goal.loop-pair-preserved
loop-pair-preserved c =
    let order : List (ℕ × ℕ) = c.args.found.now.order.items in
    let k : ℕ = c.loop-pair.pair-index in
    let sets = map (set_words c.args.complex.now.1.labels (graph_of c.args.found.now)) (range_with_len 0 (length c.args.found.now.sets.items)) in
    let here = get_or order k (0, 0) in
    c.in_ok-push_pair.ensures
    ∙ ap (λ (l : List (ℕ × ℕ)). c.loop-pair.text.items ++ line (order_words (get_or l k (0, 0)))) c.deref-pair-items.ensures.value
    ∙ ap (λ (t : List ℕ). t ++ line (order_words here)) (c.loop-pair.invariant ∙ text_of-append sets (map order_words (take k order)))
    ∙ append_assoc (text_of sets) (text_of (map order_words (take k order))) (line (order_words here))
    ∙ ap (λ (t : List ℕ). text_of sets ++ t) (sym (text_more order_words order k (0, 0) (omega (arith, c.loop-pair-test.true, c.deref-pair-items.ensures.len))))
    ∙ sym (text_of-append sets (map order_words (take (k + 1) order)))
