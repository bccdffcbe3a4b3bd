-- A visit of a new node, and the classes at the end.
use Rattle.std.proofs.Common.{◌≡◌, inl, inr, ◌<◌, ℕ, List, length, sym, ap, ◌∙◌, subst, arith}
use Rattle.std.specs.Prelude.{slice_index}
use Rattle.conley_lists.proofs.ListLemmas.{step_begins}
use Rattle.conley_digraph.specs.declared.search.Search.{Search}
use Rattle.conley_digraph.specs.declared.search.Stage.{Stage}
use Rattle.conley_digraph.specs.declared.search.Stage.TheVariants.{New, Closed}
use Rattle.conley_digraph.specs.Search.{stage_of, IsMet, IsSearch, IsSearchOf}
use Rattle.conley_digraph.specs.Turn.{Meets}
use Rattle.conley_digraph.specs.Closing.{AreNumbers, AreClosing}
use Rattle.conley_digraph.proofs.StackLemmas.{same_class, closed_below}
use Rattle.conley_digraph.proofs.MeetLemmas.{meet_search, meet_keeps, meet_meets}
use Rattle.conley_digraph.proofs.TurnLemmas.{search_along}

-- with an empty path no node is open
module _ (lists : List (List ℕ)) (o : Search) (s : IsSearchOf lists o) (empty : length o.path.items ≡ 0) where
  pub none_open : {P : Type 0} (p : ℕ) → p < length o.stack.items → P
  none_open p lt = let c = s.bounds_are.on_path 0 (s.bounds_are.first (omega arith)) in absurd (omega (arith, c.1, empty))

  -- so a new node may be met
  module _ (n : Search) (x : ℕ) (lx : x < length lists) (new : stage_of o.stages.items x ≡ New) (meets : Meets o n x) where
    pub visit_search : IsSearchOf lists n
    visit_search =
        search_along lists _ n.stages.items _ n.turns.items _ n.stack.items _ n.bounds.items _ n.path.items _ n.roots.items meets.stages meets.turns
        meets.stack meets.bounds meets.path meets.roots
        (meet_search lists o.stages.items o.turns.items o.stack.items o.bounds.items o.path.items o.roots.items s x lx new (λ p lt. none_open p lt))

    pub visit_keeps : (y : ℕ) → IsMet o.stages.items y → IsMet n.stages.items y
    visit_keeps y m = subst (λ st. IsMet st y) (sym meets.stages) (meet_keeps lists o.stages.items o.turns.items o.stack.items o.bounds.items o.path.items
        o.roots.items s x lx new (λ p lt. none_open p lt) y m)

    pub visit_meets : IsMet n.stages.items x
    visit_meets = subst (λ st. IsMet st x) (sym meets.stages) (meet_meets lists o.stages.items o.turns.items o.stack.items o.bounds.items o.path.items
        o.roots.items s x lx new (λ p lt. none_open p lt))

  -- and what is met is closed
  pub met_closed : (y : ℕ) → IsMet o.stages.items y → (k : ℕ) × (stage_of o.stages.items y ≡ Closed k)
  met_closed y (inl m) = none_open m.0 (s.stages_are.open_at y m.0 m.1).0
  met_closed y (inr c) = c

-- all nodes are closed
pub closing_all : (lists : List (List ℕ)) (stages : List Stage) (turns stack bounds path roots numbers : List ℕ)
    → IsSearch lists stages turns stack bounds path roots →
    AreNumbers stages numbers (length stages) → AreClosing lists numbers roots
closing_all lists stages turns stack bounds path roots numbers s numbered = record {
  count = numbered.count ∙ s.stages_are.count;
  below = λ y ly. s.stages_are.closed_at y (slice_index numbers y) (is y ly);
  root = λ k lk.
      let h = s.stages_are.root k lk in
      let lt : slice_index roots k < length lists = omega (arith, closed_below stages (slice_index roots k) k h, s.stages_are.count) in
      (lt, same_class (slice_index numbers (slice_index roots k)) k (stage_of stages (slice_index roots k)) (is (slice_index roots k) lt) h);
  steps = λ x y step.
      let w = s.closed_are.steps x y (slice_index numbers x) (is x (step_begins lists x y step)) step in
      let ly : y < length lists = omega (arith, closed_below stages y w.0 w.2, s.stages_are.count) in
      omega (arith, w.1, same_class (slice_index numbers y) w.0 (stage_of stages y) (is y ly) w.2);
  same = λ x y lx ly e. s.closed_are.same x y (slice_index numbers x) (is x lx) (is y ly ∙ ap Closed (sym e));
}
  where
    is : (y : ℕ) → y < length lists → stage_of stages y ≡ Closed (slice_index numbers y)
    is y ly = numbered.same y (omega (arith, s.stages_are.count))
