use Rattle.std.proofs.Common.{ap, ◌∙◌, ℕ, ◌%◌, unsigned_abs}
use Rattle.std.proofs.lemmas.Int.{to_z-of_z}
use mir.Syntax.{w64}
use Rattle.conley_field.proofs.ResidueLemmas.{code-negative, code-not_negative}
use Rattle.conley_field.specs.PrimeField.{order_of, order_of-IsField}
use Rattle.conley_field.proofs.prime.PrimeFieldField.from_int.Goals as goal

pub returns-then-n-lt0 : goal.returns-then-n-lt0
returns-then-n-lt0 c =
    let above = (order_of-IsField c.args.self.now).one_below in
    let passed = to_z-of_z w64 c.args.n c.ranges.n in
    c.neg.ensures
    ∙ code-negative (order_of c.args.self.now) c.of-ones.result c.args.n above (rw passed at c.if-n-lt0.true)
    (c.of-ones.ensures ∙ ap (λ (n : ℕ). n % c.order.result) (rw passed at c.unsigned_abs.ensures.value)
    ∙ ap (λ (n : ℕ). unsigned_abs c.args.n % n) c.order.ensures.order)

pub returns-else-n-lt0 : goal.returns-else-n-lt0
returns-else-n-lt0 c =
    let above = (order_of-IsField c.args.self.now).one_below in
    let passed = to_z-of_z w64 c.args.n c.ranges.n in
    code-not_negative (order_of c.args.self.now) c.of-ones.result c.args.n above (rw passed at c.if-n-lt0.false)
    (c.of-ones.ensures ∙ ap (λ (n : ℕ). n % c.order.result) (rw passed at c.unsigned_abs.ensures.value)
    ∙ ap (λ (n : ℕ). unsigned_abs c.args.n % n) c.order.ensures.order)
