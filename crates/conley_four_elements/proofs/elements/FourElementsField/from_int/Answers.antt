use Rattle.std.proofs.Common.{ap, ◌∙◌, ℕ, ◌%◌}
use Rattle.std.proofs.lemmas.Int.{to_z-of_z}
use mir.Syntax.{w64}
use Rattle.conley_four_elements.proofs.FourLemmas.{code_of_int-four}
use Rattle.conley_four_elements.proofs.elements.FourElementsField.from_int.Goals as goal

pub returns : goal.returns
returns c = code_of_int-four c.of.result c.args.n (c.of.ensures ∙ ap (λ (n : ℕ). n % 2) (rw (to_z-of_z w64 c.args.n c.ranges.n)
    at c.unsigned_abs.ensures.value))
