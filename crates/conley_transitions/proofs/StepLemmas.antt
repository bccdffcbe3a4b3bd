-- Walks by transitions connect the cells that walks by steps connect.
use Rattle.std.proofs.Common.{◌≡◌, inl, inr, ℕ, List, length, arith}
use Rattle.std.specs.Prelude.{◌↔◌}
use Rattle.conley_walk.specs.Walk.{Reaches}
use Rattle.conley_lists.specs.Lists.{ListedStep, IsDigraph}
use Rattle.conley_walk.proofs.WalkLemmas.{reaches_itself, reaches_on, reaches_by_step, reaches_least}
use Rattle.conley_lists.proofs.ListLemmas.{step_begins}
use Rattle.conley_transitions.specs.Step.{Step, HasTransitions}
use Rattle.conley_transitions.proofs.NextLemmas.{next_reaches}

module _ (faces : List (List ℕ)) (part_of : List ℕ) (heads : List (List ℕ)) (given : HasTransitions faces part_of heads) where
  -- a transition is a step
  step_of_transition : (x y : ℕ) → ListedStep heads x y → Step faces part_of x y
  step_of_transition x y s = elim ((given.steps x y).0 s) [
    | inl down ↦ inl (record { cell = step_begins faces x y down; walk = reaches_by_step {Step = ListedStep faces} {x = x} {y = y} down })
    | inr next ↦ inr next.part
  ]

  -- and each step a walk by transitions
  reach_of_step : (x y : ℕ) → Step faces part_of x y → Reaches (ListedStep heads) x y
  reach_of_step x y (inl f) = reaches_least (Reaches (ListedStep heads) x) (λ a b s r. reaches_on r
      (reaches_by_step {Step = ListedStep heads} {x = a} {y = b} ((given.steps a b).1 (inl s)))) f.walk (reaches_itself x)
  reach_of_step x y (inr s) = next_reaches (ListedStep heads) part_of (λ a b n. (given.steps a b).1 (inr n)) x y s

  pub same_reach : (x y : ℕ) → Reaches (ListedStep heads) x y ↔ Reaches (Step faces part_of) x y
  same_reach x y = (
    (λ r. reaches_least (Reaches (Step faces part_of) x) (λ a b s t. reaches_on t (reaches_by_step {Step = Step faces part_of} {x = a} {y = b}
        (step_of_transition a b s))) r (reaches_itself x)),
    (λ r. reaches_least (Reaches (ListedStep heads) x) (λ a b s t. reaches_on t (reach_of_step a b s)) r (reaches_itself x)),
  )

-- the heads are cells
pub transitions_digraph : (faces : List (List ℕ)) (part_of : List ℕ) (heads : List (List ℕ)) → HasTransitions faces part_of heads → IsDigraph faces
    → length part_of ≡ length faces → IsDigraph heads
transitions_digraph faces part_of heads given digraph count x y s = elim ((given.steps x y).0 s) [
  | inl down ↦ omega (arith, digraph x y down, given.count)
  | inr next ↦ omega (arith, next.part.1.0, given.count, count)
]
