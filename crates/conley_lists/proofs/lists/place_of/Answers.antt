use Rattle.std.proofs.Common.{arith, Err, inl, inr}
use Rattle.std.proofs.lemmas.Bool.{cases_lt}
use Rattle.std.proofs.lemmas.List.Sorted.{searched}
use Rattle.conley_lists.proofs.ListLemmas.{not_falling}
use Rattle.conley_lists.proofs.TestLemmas.{not_listed}
use Rattle.conley_lists.proofs.lists.place_of.Goals as goal

pub returns-in-Err-clause-none : goal.returns-in-Err-clause-none
returns-in-Err-clause-none c =
    let found = searched c.args.list.now c.args.x (Err c.in-Err.field-0) c.in-Err.ensures.position (not_falling c.args.list.now c.requires) in
    not_listed c.args.list.now c.args.x (λ k below same. elim (cases_lt k c.in-Err.field-0) [
      | inl before ↦ omega (arith, found.1 k before)
      | inr after ↦ omega (arith, found.2 k after below)
    ])
