use Rattle.std.proofs.Common.{arith}
use Rattle.std.proofs.lemmas.Grind.{common_steps}
use Rattle.std.proofs.Math.Seq.{take-add}
use Rattle.conley_outside.proofs.GainsLemmas.{gains-gains}
use Rattle.conley_texts.proofs.put.put_whole.Goals as goal

pub loop-done-preserved : goal.loop-done-preserved
loop-done-preserved g c = record {
  within = grind (arith, common_steps);
  written = rw take-add (grind (arith, common_steps, gains-gains, c.in_ok-done.ensures.bytes));
  later = omega (arith, c.in_ok-done.ensures.cause.later);
}
