-- one cell that waits less
use Rattle.std.proofs.Common.{arith, ◌≡◌, inl, inr, [], ◌∷◌, ℕ, List, subst}
use Rattle.std.specs.Prelude.{Contains}
use Rattle.std.proofs.lemmas.Bool.{false≢true}
use Rattle.std.proofs.lemmas.List.Elements.{Contains-append_left, Contains-push}
use Rattle.conley_lists.specs.Lists.{items_of, ListedStep}
use Rattle.conley_lists.proofs.ListLemmas.{Contains-none, empty_unless}
use Rattle.conley_mvf.specs.Partition.{HaveNoGap}
use Rattle.conley_hull.specs.Making.{IsClosedOver}
use Rattle.conley_hull.proofs.ClosingLemmas.{closes-none, closes-on, closes-more}
use Rattle.conley_hull.proofs.closing.close_all.Goals as goal

pub loop-x-init : goal.loop-x-init
loop-x-init c = record {
  table = c.requires.table;
  closes = closes-none (HaveNoGap c.args.faces.now) c.args.labels.now.items;
  cells = c.requires.cells;
  settled = λ x y z f g. c.requires.settled x y z ((c.all_faces-below.ensures.faces x y).0 f) ((c.all_faces-below.ensures.faces y z).0 g);
}

pub look-requires-clause-cell : goal.look-requires-clause-cell
look-requires-clause-cell c =
    let waits : Contains c.loop-x.waiting.items c.in-Some.x = rw c.in-Some.ensures.items (Contains-push c.pop.new.self.items c.in-Some.x) in
    omega (arith, c.loop-x.invariant.cells c.in-Some.x waits, c.all_faces-below.ensures.count)

pub look-requires-clause-settled : goal.look-requires-clause-settled
look-requires-clause-settled c = rw (← c.in-Some.ensures.items) c.loop-x.invariant.settled

pub loop-x-preserved : goal.loop-x-preserved
loop-x-preserved c =
    let faces = c.all_faces-below.ensures.faces in
    let below = items_of c.all_faces-below.result.now in
    let Keeps : List ℕ → Type 0 = HaveNoGap c.args.faces.now in
    let old = c.loop-x.labels.items in
    let new = c.look.new.labels.items in
    record {
      table = c.in_ok-look.ensures.table;
      closes = closes-on Keeps c.args.labels.now.items old new c.loop-x.invariant.closes
          (closes-more (IsClosedOver (ListedStep below)) Keeps old new (λ other none x y z f g s. none x y z ((faces x y).0 f) ((faces y z).0 g) s)
          c.in_ok-look.ensures.closes);
      cells = λ z waits. elim (c.in_ok-look.ensures.cells z waits) [
        | inl before ↦ c.loop-x.invariant.cells z (rw c.in-Some.ensures.items (Contains-append_left c.pop.new.self.items (c.in-Some.x ∷ []) z before))
        | inr lt ↦ omega (arith, lt, c.loop-x.invariant.closes.count, c.requires.count)
      ];
      settled = c.in_ok-look.ensures.settled;
    }

pub returns-clause-closed : goal.returns-clause-closed
returns-clause-closed c = λ x y z f g s.
    let faces = c.all_faces-below.ensures.faces in
    let none : c.loop-x.waiting.items ≡ [] = empty_unless _ (λ l. false≢true (c.in_default.ensures.variant.1 (omega (arith, c.loop-x.waiting.ok.0)))) in
    elim (c.loop-x.invariant.settled x y z ((faces x y).1 f) ((faces y z).1 g) s) [
      | inl t ↦ t
      | inr waits ↦ elim waits [
        | inl w ↦ Contains-none x (subst (λ (l : List ℕ). Contains l x) none w)
        | inr w ↦ Contains-none z (subst (λ (l : List ℕ). Contains l z) none w)
      ]
    ]
