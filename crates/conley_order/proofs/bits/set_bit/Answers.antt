-- one bit is set, and all others stay
use Rattle.std.proofs.Common.{arith, inl, inr}
use Rattle.std.proofs.lemmas.Bool.{cases_eq}
use Rattle.conley_order.proofs.BitLemmas.{bit_set, bit_kept}
use Rattle.conley_order.proofs.bits.set_bit.Goals as goal

pub returns-clause-set : goal.returns-clause-set
returns-clause-set c = bit_set c.args.words.now c.args.b (omega (arith, c.requires))

pub returns-clause-kept : goal.returns-clause-kept
returns-clause-kept c = λ k. elim (cases_eq k c.args.b) [ inl e ↦ inl e | inr ne ↦ inr (bit_kept c.args.words.now c.args.b k (omega (arith, c.requires)) ne) ]
