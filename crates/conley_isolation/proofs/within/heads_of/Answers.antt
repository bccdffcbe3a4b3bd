use Rattle.std.proofs.Common.{arith, ◌<◌, ℕ, length, sym, subst}
use Rattle.std.specs.Prelude.{Contains, ◌↔◌, slice_index}
use Rattle.conley_lists.proofs.ListLemmas.{row_of}
use Rattle.conley_isolation.specs.Making.{IsUnder}
use Rattle.conley_isolation.proofs.within.heads_of.Goals as goal

pub returns-then-direct : goal.returns-then-direct
returns-then-direct c =
    subst (λ b. (j : ℕ) → Contains c.in_ok-heads.heads.items j ↔ ((j < length c.args.set.now)
    × IsUnder b c.args.faces.now c.args.x (slice_index c.args.set.now j))) (sym c.if-direct.true)
    (rw c.direct.ensures.cells at c.in_ok-heads.ensures)

pub returns : goal.returns
returns c =
    let set = c.args.set.now in
    let rows = c.all_faces.result.now in
    let lt : c.args.x < length rows = omega (arith, c.requires.cell, c.all_faces.ensures.count) in
    let row = row_of rows c.args.x c.index-all_faces-x.result lt c.index-all_faces-x.is in
    subst (λ b. (j : ℕ) → Contains c.in_ok-heads-2.heads.items j ↔ ((j < length set) × IsUnder b c.args.faces.now c.args.x (slice_index set j)))
    (sym c.if-direct.false) (λ j.
    let heads = rw (c.deref.ensures.value, ← row) at (c.in_ok-heads-2.ensures j) in
    let faces = c.all_faces.ensures.faces c.args.x (slice_index set j) in (
      (λ h. let v = heads.0 h in (v.0, faces.0 v.1)),
      (λ v. heads.1 (v.0, faces.1 v.1)),
    ))
