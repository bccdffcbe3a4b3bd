use Rattle.std.proofs.Common.{arith, ◌≡◌, ◌<◌, ℕ, List, length, subst}
use Rattle.std.specs.Prelude.{◌↔◌}
use Rattle.conley_lists.specs.Lists.{items_of}
use Rattle.conley_lists.proofs.ListLemmas.{length-items_of}
use Rattle.conley_mvf.specs.Partition.{IsPartNumber}
use Rattle.conley_mvf.proofs.partition.Partition.count.Goals as goal

pub returns-clause-count : goal.returns-clause-count
returns-clause-count c =
    let parts = c.self.invariant.parts in
    let whole : c.len.result ≡ length (items_of c.self.inside.cells.items) = omega (
      arith,
      c.len.ensures,
      c.self.inside.cells.ok.0,
      length-items_of c.self.inside.cells.items,
    ) in
    λ p. subst (λ (l : List ℕ). (p < c.len.result) ↔ IsPartNumber l p) c.self.view_is (
      (λ lt. let w = parts.used p (omega (arith, lt, whole)) in (w.0, (w.1, w.2))),
      (λ n. omega (arith, parts.below n.0 n.1.0, n.1.1, whole)),
    )
