use Rattle.std.proofs.Common.{arith, ◌≡◌, ◌<◌, ◌⊎◌, inr, ℕ, [], Vec, Global, length, get_or, refl, sym, ◌∙◌}
use Rattle.std.specs.Prelude.{Contains, ◌↔◌}
use Rattle.std.proofs.lemmas.Bool.{eqb-true}
use Rattle.std.proofs.lemmas.List.{map-set}
use Rattle.conley_lists.specs.Lists.{items_of, ListedStep}
use Rattle.conley_lists.proofs.ListLemmas.{row_of, row_in_range, length-items_of}
use Rattle.conley_faces.specs.Closures.{IsMade, IsInListOf}
use Rattle.conley_faces.proofs.ClosureLemmas.{closures_more, unmade-less, closures_in_range}
use Rattle.conley_faces.proofs.closures.make.Goals as goal
use Rattle.conley_faces.proofs.closures.make.Goals.{After-drop-index_mut}

pub are_made-requires : goal.are_made-requires
are_made-requires c =
    let width : length c.args.closures.now.items ≡ length c.args.direct.now = sym (length-items_of c.args.closures.now.items) ∙ c.requires.state.height
    ∙ length-items_of c.args.direct.now in
    rw (c.deref-2.ensures.value, c.deref.ensures.value, width)
    (row_in_range c.args.direct.now c.args.x c.index-direct-x.result c.requires.digraph c.requires.cell c.index-direct-x.is)

pub returns-then-not-are_made-clause-stuck : goal.returns-then-not-are_made-clause-stuck
returns-then-not-are_made-clause-stuck c = λ _.
    let row = row_of c.args.direct.now c.args.x c.index-direct-x.result c.requires.cell c.index-direct-x.is in
    let g = rw (c.deref-2.ensures.value, c.deref.ensures.value) at (c.if-not-are_made.ensures.no refl) in
    inr (g.0, (rw row g.1.0, g.1.1))

pub closure_over-requires-clause-heads : goal.closure_over-requires-clause-heads
closure_over-requires-clause-heads c =
    let width : length c.args.closures.now.items ≡ length c.args.direct.now = sym (length-items_of c.args.closures.now.items) ∙ c.requires.state.height
    ∙ length-items_of c.args.direct.now in
    rw (c.deref-4.ensures.value, c.deref-3.ensures.value, width)
    (row_in_range c.args.direct.now c.args.x c.index-direct-x.result c.requires.digraph c.requires.cell c.index-direct-x.is)

row : (c : After-drop-index_mut) → get_or (items_of c.args.direct.now) c.args.x [] ≡ c.index-direct-x.result.items
row c = row_of c.args.direct.now c.args.x c.index-direct-x.result c.requires.cell c.index-direct-x.is

not_made : (c : After-drop-index_mut) → length (get_or (items_of c.args.closures.now.items) c.args.x []) ≡ 0
not_made c =
    let lt : c.args.x < length c.args.closures.now.items = omega (
      arith,
      c.requires.cell,
      length-items_of c.args.closures.now.items,
      c.requires.state.height,
      length-items_of c.args.direct.now,
    ) in
    let none = eqb-true _ 0 (sym c.is_empty.ensures ∙ c.if-not-is_empty.false) in
    rw (row_of c.args.closures.now.items c.args.x c.index.result.now lt c.index.ensures) (omega (arith, none, c.index.result.now.ok.0))

heads : (c : After-drop-index_mut) (y : ℕ) → ListedStep (items_of c.args.direct.now) c.args.x y → IsMade (items_of c.args.closures.now.items) y
heads c y s =
    let yes = rw (c.deref-2.ensures.value, c.deref.ensures.value) at (c.if-not-are_made.ensures.yes refl) in
    yes y (rw (row c) at s)

same : (c : After-drop-index_mut) (y : ℕ) → Contains c.in_ok-list.list.items y ↔ (IsInListOf (items_of c.args.closures.now.items)
    (get_or (items_of c.args.direct.now) c.args.x []) y ⊎ (y ≡ c.args.x))
same c y = rw (row c) (rw (c.deref-3.ensures.value, c.deref-4.ensures.value) at (c.in_ok-list.ensures.same y))

pub returns-clause-state : goal.returns-clause-state
returns-clause-state c =
    rw (map-set (λ (r : Vec ℕ Global). r.items) c.args.closures.now.items c.args.x c.in_ok-list.list)
    (closures_more (items_of c.args.direct.now) (items_of c.args.closures.now.items) c.requires.digraph c.requires.state c.args.x
    (rw (length-items_of c.args.direct.now) c.requires.cell) c.in_ok-list.list.items
    (not_made c) (heads c) c.in_ok-list.ensures.ascending (same c))

pub returns-clause-more : goal.returns-clause-more
returns-clause-more c = λ _.
    rw (map-set (λ (r : Vec ℕ Global). r.items) c.args.closures.now.items c.args.x c.in_ok-list.list)
    (unmade-less (items_of c.args.direct.now) (items_of c.args.closures.now.items) c.requires.digraph c.requires.state c.args.x
    (rw (length-items_of c.args.direct.now) c.requires.cell) c.in_ok-list.list.items
    (not_made c) (heads c) c.in_ok-list.ensures.ascending (same c))

pub closure_over-requires-clause-range : goal.closure_over-requires-clause-range
closure_over-requires-clause-range c = λ a y s.
    let within = closures_in_range (items_of c.args.direct.now) (items_of c.args.closures.now.items) c.requires.digraph c.requires.state a y
    (rw c.deref-3.ensures.value at s) in
    omega (arith, within, length-items_of c.args.direct.now, c.requires.width)
