use Rattle.std.proofs.Common.{arith, Err, inl, inr}
use Rattle.std.proofs.lemmas.Bool.{cases_lt, true≢false}
use Rattle.std.proofs.lemmas.List.Sorted.{searched}
use Rattle.conley_lists.proofs.ListLemmas.{place_of, not_falling}
use Rattle.conley_lists.proofs.lists.stands_in.Goals as goal

pub returns-in-Err : goal.returns-in-Err
returns-in-Err c =
    let found = searched c.args.list.now c.args.x (Err c.in-Err.field-0) c.in-Err.ensures.position (not_falling c.args.list.now c.requires) in (
      (λ t. absurd (search (t, true≢false))),
      (λ contained.
          let p = place_of c.args.list.now c.args.x contained in
          elim (cases_lt p.0 c.in-Err.field-0) [
            | inl before ↦ absurd (omega (arith, found.1 p.0 before, p.2))
            | inr after ↦ absurd (omega (arith, found.2 p.0 after p.1, p.2))
          ]),
    )
