use Rattle.std.proofs.Common.{arith, inl, inr, subst}
use Rattle.std.proofs.lemmas.Bool.{cases_eq}
use Rattle.conley_lists.specs.Lists.{items_of}
use Rattle.conley_lists.proofs.ListLemmas.{length-items_of, row_of, at_list}
use Rattle.conley_mvf.specs.Fault.{IsUnknown}
use Rattle.conley_mvf.proofs.faults.first_unknown.Goals as goal

pub loop-k-preserved : goal.loop-k-preserved
loop-k-preserved c = λ j q lt unknown. elim (cases_eq j c.loop-k.k) [
  | inl e ↦
      let row = row_of c.args.lists.now c.loop-k.k c.index-lists-k.result c.loop-k-test.true c.index-lists-k.is in
      let none = rw (c.deref.ensures.value, ← row) at c.in_default.ensures in
      let here = subst (λ i. IsUnknown c.args.n (items_of c.args.lists.now) i q) e unknown in
      none q here.0 here.1
  | inr ne ↦ c.loop-k.invariant j q (omega arith) unknown
]

pub returns : goal.returns
returns c = λ l q unknown. c.loop-k.invariant l q (omega (
  arith,
  at_list (items_of c.args.lists.now) l q unknown.0,
  length-items_of c.args.lists.now,
  c.loop-k-test.false,
)) unknown
