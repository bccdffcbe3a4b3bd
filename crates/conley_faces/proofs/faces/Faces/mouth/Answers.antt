use Rattle.std.proofs.Common.{length, ◌<◌}
use Rattle.std.proofs.lemmas.List.Elements.{All-contains}
use Rattle.conley_lists.proofs.ListLemmas.{All-from_contained}
use Rattle.conley_faces.proofs.faces.Faces.mouth.Goals as goal

pub returns-clause-cells : goal.returns-clause-cells
returns-clause-cells c =
    let part = rw c.deref.ensures.value at c.in_ok-list.ensures in
    record {
      ascending = part.ascending;
      cells = All-from_contained (λ y. y < length c.args.self.now) c.in_ok-list.list.items (λ y d.
          All-contains (λ y. y < length c.args.self.now) c.in_ok-closure.closure.items y c.in_ok-closure.ensures.cells.cells ((part.same y).0 d).0);
    }

pub returns-clause-mouth : goal.returns-clause-mouth
returns-clause-mouth c = λ y.
    let part = rw c.deref.ensures.value at c.in_ok-list.ensures in
    let closure = c.in_ok-closure.ensures.closure y in
    ((λ d. let h = (part.same y).0 d in (closure.0 h.0, h.1)), (λ h. (part.same y).1 (closure.1 h.0, h.1)))
