use Rattle.std.proofs.Common.{arith, sym, ◌∙◌}
use Rattle.conley_tool.proofs.WordLemmas.{number_of-from, found_here, found_later, found_none}
use Rattle.conley_tool.proofs.words.number_of.Goals as goal

pub loop-number-init : goal.loop-number-init
loop-number-init c = record { found = number_of-from c.args.word.now; some = omega arith }

pub returns-then-says-clause-number : goal.returns-then-says-clause-number
returns-then-says-clause-number c =
    sym (c.loop-number.invariant.found ∙ found_here c.args.word.now c.loop-number.number (omega (arith, c.loop-number-test.true))
    (sym c.says.ensures ∙ c.if-says.true))

pub loop-number-preserved : goal.loop-number-preserved
loop-number-preserved c = record {
  found = c.loop-number.invariant.found ∙ found_later c.args.word.now c.loop-number.number (omega (arith, c.loop-number-test.true))
      (sym c.says.ensures ∙ c.if-says.false);
  some = omega (arith, c.loop-number.invariant.some);
}

pub returns-clause-number : goal.returns-clause-number
returns-clause-number c = sym (c.loop-number.invariant.found ∙ found_none c.args.word.now c.loop-number.number (omega (arith, c.loop-number-test.false)))
