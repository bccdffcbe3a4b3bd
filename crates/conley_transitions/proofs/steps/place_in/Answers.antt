use Rattle.std.proofs.Common.{arith, ℕ, Err, inl, inr, get_or, ap}
use Rattle.std.proofs.lemmas.Bool.{cases_eq, cases_lt}
use Rattle.std.proofs.lemmas.List.Sorted.{searched}
use Rattle.conley_lists.proofs.ListLemmas.{place_of, rises}
use Rattle.conley_transitions.proofs.steps.place_in.Goals as goal

pub unreachable-requires : goal.unreachable-requires
unreachable-requires c =
    let cells = c.args.cells.now in
    let found = searched cells c.args.x (Err c.in-Err.field-0) c.in-Err.ensures.position (λ i j before below. elim (cases_eq i j) [
      | inl same ↦ omega (arith, ap (λ (k : ℕ). get_or cells k 0) same)
      | inr other ↦ omega (arith, rises cells c.requires.ascending i j (omega arith) below)
    ]) in
    let p = place_of cells c.args.x c.requires.cell in
    elim (cases_lt p.0 c.in-Err.field-0) [
      | inl before ↦ absurd (omega (arith, found.1 p.0 before, p.2))
      | inr after ↦ absurd (omega (arith, found.2 p.0 after p.1, p.2))
    ]
