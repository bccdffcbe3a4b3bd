use Rattle.std.proofs.Common.{◌∙◌, ap, ◌%◌, ◌*◌, ℕ}
use Rattle.conley_field.specs.PrimeField.{order_of}
use Rattle.conley_field.proofs.ResidueLemmas.{power-step}
use Rattle.conley_field.proofs.prime.PrimeFieldField.inv.Goals as goal

pub loop-preserved : goal.loop-preserved
loop-preserved c =
    c.mul-power.ensures ∙ ap (λ (n : ℕ). n * c.args.a % (order_of c.args.self.now)) c.loop.invariant
    ∙ power-step (order_of c.args.self.now) c.args.a c.loop.counter
