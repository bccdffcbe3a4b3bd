use Rattle.std.proofs.Common.{arith, ◌≡◌, ◌<◌, ℕ, List, [], length, get_or, ap, ◌∙◌, subst}
use Rattle.std.specs.Prelude.{Contains, ◌↔◌}
use Rattle.conley_lists.specs.Lists.{items_of}
use Rattle.conley_lists.proofs.ListLemmas.{row_of, length-items_of}
use Rattle.conley_mvf.specs.Partition.{IsInPart}
use Rattle.conley_mvf.proofs.partition.Partition.cells_of.Goals.{After-index}
use Rattle.conley_mvf.proofs.partition.Partition.cells_of.Goals as goal

-- what is read is the list of the part
row : (c : After-index) → get_or (items_of c.self.inside.cells.items) c.args.part [] ≡ c.index.result.now.items
row c =
    let rows = c.self.inside.cells.items in
    let x = c.requires.0 in
    let cells : length c.self.inside.part_of.items ≡ length c.args.self.now = ap length c.self.view_is in
    let part : get_or c.self.inside.part_of.items x 0 ≡ c.args.part = ap (λ (l : List ℕ). get_or l x 0) c.self.view_is ∙ c.requires.1.1 in
    let lt : c.args.part < length rows = omega (arith, c.self.invariant.parts.below x (omega (arith, c.requires.1.0, cells)), part, length-items_of rows) in
    row_of rows c.args.part c.index.result.now lt c.index.ensures

pub returns-clause-cells : goal.returns-clause-cells
returns-clause-cells c =
    let same = c.self.invariant.parts.same c.args.part in
    rw (c.deref.ensures.value, ← (row (goal.at.returns-clause-cells c).After-index))
    (λ x. subst (λ (l : List ℕ). Contains (get_or (items_of c.self.inside.cells.items) c.args.part []) x ↔ IsInPart l c.args.part x) c.self.view_is (same x))

pub returns-clause-ascending : goal.returns-clause-ascending
returns-clause-ascending c = rw (c.deref.ensures.value, ← (row (goal.at.returns-clause-ascending c).After-index)) (c.self.invariant.parts.ascending c.args.part)
