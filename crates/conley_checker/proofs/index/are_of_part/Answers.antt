use Rattle.std.proofs.Common.{◌≡◌, arith, refl, slice_index, get_or, ◌∙◌}
use Rattle.std.proofs.lemmas.Bool.{false≢true}
use Rattle.std.proofs.lemmas.List.Elements.{Contains-get_or}
use Rattle.conley_checker.proofs.IndexLemmas.{all_by}
use Rattle.conley_checker.proofs.index.are_of_part.Goals as goal

pub returns-then-here-part : goal.returns-then-here-part
returns-then-here-part c = (
  (λ h. absurd (false≢true h)),
  (λ all. absurd (c.if-here-part.true (c.part_of-here.ensures ∙ all (get_or c.args.cells.now c.loop-k.k 0)
      (Contains-get_or c.args.cells.now c.loop-k.k 0 c.loop-k-test.true)))),
)

pub returns : goal.returns
returns c = (
  (λ h. all_by (λ x. slice_index c.args.partition.now x ≡ c.args.part) c.args.cells.now (λ k below. c.loop-k.invariant k
      (omega (arith, below, c.loop-k-test.false)))),
  (λ all. refl),
)
