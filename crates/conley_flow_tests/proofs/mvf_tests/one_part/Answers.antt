use Rattle.std.proofs.Common.{arith, ◌≡◌, ◌<◌, ℕ, replicate, sym, ◌∙◌}
use Rattle.std.proofs.lemmas.List.{get_or-replicate, length-replicate}
use Rattle.conley_flow_tests.proofs.mvf_tests.one_part.Goals as goal

pub labelled-requires-clause-closed : goal.labelled-requires-clause-closed
labelled-requires-clause-closed c =
    let labels : c.deref.result.now ≡ replicate 7 2 = c.deref.ensures.value ∙ c.in_ok-labels.ensures.items_if_clones_equal (λ y e. e) in
    let count = length-replicate {A = ℕ} 7 2 in
    rw labels (λ x y z f g s.
    let lx : x < 7 = omega (arith, s.0, count) in
    let ly : y < 7 = omega (arith, g.cell, c.in_ok-faces.ensures) in
    (s.0, (omega (arith, ly, count), get_or-replicate {A = ℕ} 7 y 2 0 ly ∙ sym (get_or-replicate {A = ℕ} 7 x 2 0 lx))))
