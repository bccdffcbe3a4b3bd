use Rattle.std.proofs.Common.{arith, ◌≡◌, ℕ, List, [], length, ap, sym, ◌∙◌, subst}
use Rattle.std.specs.Prelude.{◌↔◌}
use Rattle.std.proofs.lemmas.List.{length-replicate, get_or_default}
use Rattle.conley_lists.specs.Lists.{items_of, ListedStep, PutsUnder, entries_of}
use Rattle.conley_lists.proofs.ListLemmas.{length-items_of}
use Rattle.conley_lefschetz.specs.Fault.{StoodBefore}
use Rattle.conley_lists.proofs.EntryLemmas.{empty_entries, empty_steps}
use Rattle.conley_lefschetz.proofs.FaceLemmas.{steps_more}
use Rattle.conley_lefschetz.proofs.incidences.face_lists.Goals as goal

pub loop-incidence-init : goal.loop-incidence-init
loop-incidence-init c = record {
  count = omega (arith, length-items_of c.loop.lists.items, ap length c.loop.invariant, length-replicate c.loop.counter (let none : List ℕ = [] in none));
  entries = omega (arith, ap (λ l. length (entries_of l)) c.loop.invariant, ap length (empty_entries c.loop.counter));
  steps = λ x y. (
    (λ s. absurd (empty_steps c.loop.counter x y (subst (λ l. ListedStep l x y) c.loop.invariant s))),
    (λ u. absurd (omega (arith, u.1))),
  );
}

pub loop-incidence-preserved : goal.loop-incidence-preserved
loop-incidence-preserved c =
    let at = get_or_default c.args.incidences.now c.loop-incidence.incidence-index (0, 0, 0) c.incidence-item.result c.loop-incidence-test.true
    ∙ sym c.incidence-item.is in
    let puts = subst (λ (i : ℕ × ℕ × ℕ). PutsUnder (items_of c.loop-incidence.lists.items) (items_of c.put_under.new.lists.items) i.0 i.1) (sym at)
    c.in_ok-put_under.ensures.puts in
    record {
      count = omega (
        arith,
        c.in_ok-put_under.ensures.puts.count,
        c.loop-incidence.invariant.count,
        length-items_of c.loop-incidence.lists.items,
        length-items_of c.put_under.new.lists.items,
      );
      entries = omega (arith, c.in_ok-put_under.ensures.puts.entries, c.loop-incidence.invariant.entries);
      steps = steps_more c.args.incidences.now c.loop-incidence.incidence-index (items_of c.loop-incidence.lists.items) _ c.loop-incidence.invariant.steps puts;
    }

pub returns-clause-steps : goal.returns-clause-steps
returns-clause-steps c =
    let e : c.loop-incidence.incidence-index ≡ length c.args.incidences.now = omega (
      arith,
      c.loop-incidence-test.false,
      c.loop-incidence.auto.incidence-index-end,
    ) in
    subst (λ k. (x y : ℕ) → ListedStep (items_of c.loop-incidence.lists.items) x y ↔ StoodBefore c.args.incidences.now k x y) e c.loop-incidence.invariant.steps
