use Rattle.std.proofs.Common.{arith, ◌<◌, ℕ, length, get_or, subst, ◌∙◌}
use Rattle.std.specs.Prelude.{Contains, ◌↔◌}
use Rattle.conley_mvf.specs.Partition.{IsInPart}
use Rattle.conley_transitions.proofs.HeadLemmas.{heads_with, heads_without}
use Rattle.conley_transitions.proofs.steps.heads_of.Goals.{then-part-gt1+in_ok-push, else-part-gt1}
use Rattle.conley_transitions.proofs.steps.heads_of.Goals as goal

pub returns : goal.returns
returns c =
    let faces = c.args.faces.now in
    let part_of = c.args.partition.now in
    let part = c.cells_of-part.result.now in
    let cell : c.args.x < length part_of = omega (arith, c.requires.cell, c.requires.field.count) in
    let same : (y : ℕ) → Contains part y ↔ IsInPart part_of (get_or part_of c.args.x 0) y =
    subst (λ p. (y : ℕ) → Contains part y ↔ IsInPart part_of p y) c.part_of.ensures c.cells_of-part.ensures.cells in
    let down = c.in_ok-heads.ensures.items ∙ c.direct.ensures.cells in
    elim c.if-part-gt1.branch [
      | then-part-gt1+in_ok-push w ↦
          rw (w.heads-is, w.in_ok-push.ensures.items, down)
          (heads_with faces part_of c.args.x cell part c.cells_of-part.ensures.ascending same w.next_in.result w.if-part-gt1.true w.next_in.ensures)
      | else-part-gt1 w ↦ rw (w.heads-is, down) (heads_without faces part_of c.args.x cell part c.cells_of-part.ensures.ascending same w.if-part-gt1.false)
    ]
