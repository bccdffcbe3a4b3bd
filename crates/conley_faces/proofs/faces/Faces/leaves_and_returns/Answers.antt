use Rattle.std.proofs.Common.{arith, ◌<◌, length, get_or, refl, below_more}
use Rattle.std.proofs.lemmas.Bool.{false≢true}
use Rattle.std.proofs.lemmas.List.Elements.{Contains-get_or, All-contains}
use Rattle.conley_lists.specs.Lists.{ListedStep}
use Rattle.conley_walk.proofs.WalkLemmas.{reaches_by_step}
use Rattle.conley_lists.proofs.ListLemmas.{place_of}
use Rattle.conley_faces.proofs.faces.Faces.leaves_and_returns.Goals.{then-not-stands_in+in_default, else-not-stands_in, After-stands_in}
use Rattle.conley_faces.proofs.faces.Faces.leaves_and_returns.Goals as goal

-- the cell that is looked at stands directly under x
under : (c : After-stands_in) → ListedStep c.args.self.now c.args.x (get_or c.direct-y-items.result.now c.loop-y.y-index 0)
under c = rw (← c.direct-y-items.ensures.cells) (Contains-get_or c.direct-y-items.result.now c.loop-y.y-index 0 c.loop-y-test.true)

cell : (c : After-stands_in) → get_or c.direct-y-items.result.now c.loop-y.y-index 0 < length c.args.self.now
cell c = c.direct-y-items.ensures.order.digraph c.args.x _ (under c)

pub first_face_in-requires-clause-cell : goal.first_face_in-requires-clause-cell
first_face_in-requires-clause-cell c = cell (goal.at.first_face_in-requires-clause-cell c).After-stands_in

pub returns-in-Some-clause-yes : goal.returns-in-Some-clause-yes
returns-in-Some-clause-yes c = λ _ closed.
    let y = get_or c.direct-y-items.result.now c.loop-y.y-index 0 in
    closed c.args.x y c.in-Some.field-0 (record {
      upper = c.requires.cell;
      lower = c.in-Some.ensures.found.0;
      outside = λ d. false≢true (c.if-not-stands_in.ensures.1 d);
      down = record {
        cell = All-contains (λ q. q < length c.args.self.now) c.args.set.now c.args.x c.requires.set.cells c.requires.cell;
        walk =
            reaches_by_step {Step = ListedStep c.args.self.now} {x = c.args.x} {y = y} (under (goal.at.returns-in-Some-clause-yes c).After-stands_in);
      };
      further = c.in-Some.ensures.found.1;
    })

pub loop-y-preserved : goal.loop-y-preserved
loop-y-preserved c = below_more _ _ c.loop-y.invariant (λ z out d back. elim c.if-not-stands_in.branch [
  | then-not-stands_in+in_default w ↦ w.in_default.ensures.none z d (record { cell = cell (goal.at.loop-y-preserved c).After-stands_in; walk = back })
  | else-not-stands_in w ↦ out (w.if-not-stands_in.ensures.0 refl)
])

pub returns-clause-no : goal.returns-clause-no
returns-clause-no c = λ _ y z s out d back.
    let p = place_of c.direct-y-items.result.now y (rw c.direct-y-items.ensures.cells s) in
    c.loop-y.invariant p.0 (omega (arith, p.1, c.loop-y-test.false)) z (rw p.2 out) d (rw p.2 back)
