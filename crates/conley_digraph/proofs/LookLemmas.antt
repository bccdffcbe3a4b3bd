-- A turn of an open node: a head is looked at, or the node is left.
use Rattle.std.proofs.Common.{◌≡◌, ◌≢◌, inl, inr, ◌+◌, ◌-◌, ◌<◌, ◌≤◌, ℕ, List, [], ◌∷◌, ◌++◌, length, get_or, set, sym, ap, ◌∙◌, subst, arith, get_or-set_other, get_or-set_same}
use Rattle.std.specs.Prelude.{Contains, slice_index}
use Rattle.std.proofs.Math.ListN.{length-set}
use Rattle.std.proofs.lemmas.Bool.{cases_eq}
use Rattle.std.proofs.lemmas.List.Elements.{Contains-append_left, Contains-push, Contains-push_cases}
use Rattle.conley_walk.specs.Walk.{Reaches}
use Rattle.conley_lists.specs.Lists.{ListedStep}
use Rattle.conley_walk.proofs.WalkLemmas.{reaches_on, reaches_by_step}
use Rattle.conley_digraph.specs.declared.search.Stage.{Stage}
use Rattle.conley_digraph.specs.declared.search.Stage.TheVariants.{New}
use Rattle.conley_digraph.specs.Search.{stage_of, IsPassed, AreTurns, IsSearch}
use Rattle.conley_digraph.proofs.StackLemmas.{increasing_before, before_last, new_open, same_place, open_below}

-- an open node has one place
module _ (lists : List (List ℕ)) (stages : List Stage) (turns stack bounds path roots : List ℕ) (s : IsSearch lists stages turns stack bounds path roots)
    (q : ℕ) (lq : q < length stack) where
  pub is_node : slice_index stack q < length lists
  is_node = omega (arith, open_below stages (slice_index stack q) q (s.stages_are.stands q lq), s.stages_are.count)

  pub one_place : (r : ℕ) → r < length stack → slice_index stack r ≡ slice_index stack q → r ≡ q
  one_place r lr e = same_place r q (stage_of stages (slice_index stack r)) (s.stages_are.stands r lr) (ap (stage_of stages) e ∙ s.stages_are.stands q lq)

  -- turns of this node and of the others
  pub turn_here : (t : ℕ) → slice_index (set turns (slice_index stack q) t) (slice_index stack q) ≡ t
  turn_here t = get_or-set_same turns (slice_index stack q) t 0 (omega (arith, is_node, s.turns_are.count))

  pub turn_there : (t y : ℕ) → y ≢ slice_index stack q → slice_index (set turns (slice_index stack q) t) y ≡ slice_index turns y
  turn_there t y ne = get_or-set_other turns (slice_index stack q) y t 0 ne

  -- fewer turns of this node
  module _ (t : ℕ) (less : t < slice_index turns (slice_index stack q)) where
    pub bound_less : (y : ℕ) → y < length lists → slice_index (set turns (slice_index stack q) t) y ≤ length (get_or lists y []) + 1
    bound_less y ly = elim (cases_eq y (slice_index stack q)) [
      | inl e ↦ omega (arith, ap (slice_index (set turns (slice_index stack q) t)) e, turn_here t, less, ap (slice_index turns) e, s.turns_are.bound y ly)
      | inr ne ↦ omega (arith, turn_there t y ne, s.turns_are.bound y ly)
    ]

    pub fresh_still : (y : ℕ) → y < length lists → stage_of stages y ≡ New → slice_index (set turns (slice_index stack q) t) y ≡ length (get_or lists y []) + 1
    fresh_still y ly h = turn_there t y (λ e. new_open q (stage_of stages y) h (ap (stage_of stages) e ∙ s.stages_are.stands q lq)) ∙ s.turns_are.fresh y ly h

-- a head has been looked at, and the node stays on the path
module _ (lists : List (List ℕ)) (stages : List Stage) (turns stack bounds path roots : List ℕ) (s : IsSearch lists stages turns stack bounds path roots)
    (q : ℕ) (cq : Contains path q) (t : ℕ) (more : 0 < t) (is : slice_index turns (slice_index stack q) ≡ t + 1)
    (passed : IsPassed stages bounds q (slice_index (get_or lists (slice_index stack q) []) (t - 1))) where
  lq : q < length stack
  lq = s.bounds_are.on_stack q cq

  look_turns : AreTurns lists stages (set turns (slice_index stack q) t) stack bounds path
  look_turns = record {
    count = length-set turns (slice_index stack q) t ∙ s.turns_are.count;
    bound = bound_less lists stages turns stack bounds path roots s q lq t (omega arith);
    fresh = fresh_still lists stages turns stack bounds path roots s q lq t (omega arith);
    wants = λ r c. elim (cases_eq (slice_index stack r) (slice_index stack q)) [
      | inl e ↦ omega (arith, ap (slice_index (set turns (slice_index stack q) t)) e, turn_here lists stages turns stack bounds path roots s q lq t)
      | inr ne ↦ omega (arith, turn_there lists stages turns stack bounds path roots s q lq t (slice_index stack r) ne, s.turns_are.wants r c)
    ];
    left = λ r lr. elim (s.turns_are.left r lr) [
      | inl c ↦ inl c
      | inr none ↦ inr (turn_there lists stages turns stack bounds path roots s q lq t (slice_index stack r)
          (λ e. omega (arith, ap (slice_index turns) e, none, is)) ∙ none)
    ];
    looked = λ r i lr li le. elim (cases_eq (slice_index stack r) (slice_index stack q)) [
      | inl e ↦
          let here : r ≡ q = one_place lists stages turns stack bounds path roots s q lq r lr e in
          elim (cases_eq i (t - 1)) [
            | inl last ↦ subst (λ z. IsPassed stages bounds z (slice_index (get_or lists (slice_index stack z) []) i)) (sym here)
                (subst (λ j. IsPassed stages bounds q (slice_index (get_or lists (slice_index stack q) []) j)) (sym last) passed)
            | inr ne ↦ s.turns_are.looked r i lr li (omega (
              arith,
              ap (slice_index (set turns (slice_index stack q) t)) e,
              turn_here lists stages turns stack bounds path roots s q lq t,
              le,
              ap (slice_index turns) e,
              is,
            ))
          ]
      | inr ne ↦ s.turns_are.looked r i lr li (omega (arith, turn_there lists stages turns stack bounds path roots s q lq t (slice_index stack r) ne, le))
    ];
  }

  pub look_search : IsSearch lists stages (set turns (slice_index stack q) t) stack bounds path roots
  look_search = record { stages_are = s.stages_are; bounds_are = s.bounds_are; segments = s.segments; turns_are = look_turns; closed_are = s.closed_are }

-- the same, by the node's name
pub look_at : (lists : List (List ℕ)) (stages : List Stage) (turns stack bounds path roots : List ℕ) (s : IsSearch lists stages turns stack bounds path roots)
    (q x : ℕ) (at : slice_index stack q ≡ x) (cq : Contains path q) (t : ℕ) (more : 0 < t) (is : slice_index turns x ≡ t + 1)
    (passed : IsPassed stages bounds q (slice_index (get_or lists x []) (t - 1))) → IsSearch lists stages (set turns x t) stack bounds path roots
look_at lists stages turns stack bounds path roots s q x at cq t more =
    subst (λ z. slice_index turns z ≡ t + 1 → IsPassed stages bounds q (slice_index (get_or lists z []) (t - 1))
    → IsSearch lists stages (set turns z t) stack bounds path roots) at
    (look_search lists stages turns stack bounds path roots s q cq t more)

-- the last node of the path
module _ (lists : List (List ℕ)) (stages : List Stage) (turns stack bounds rest roots : List ℕ) (q : ℕ)
    (s : IsSearch lists stages turns stack bounds (rest ++ q ∷ []) roots) where
  pub last_on_stack : q < length stack
  last_on_stack = s.bounds_are.on_stack q (Contains-push rest q)

  -- it is of the last segment, so each open node reaches it
  pub bound_to_last : (b : ℕ) → Contains bounds b → b ≤ q
  bound_to_last b c = elim (Contains-push_cases rest q b (s.bounds_are.on_path b c)) [
    | inl d ↦ omega (arith, before_last rest q s.bounds_are.path_rises b d)
    | inr e ↦ omega (arith, e)
  ]

  pub last_reached : (r : ℕ) → r < length stack → Reaches (ListedStep lists) (slice_index stack r) (slice_index stack q)
  last_reached r lr = s.segments q r last_on_stack lr (λ b c le. bound_to_last b c)

  pub head_reached : (y : ℕ) → ListedStep lists (slice_index stack q) y → (r : ℕ) → r < length stack → Reaches (ListedStep lists) (slice_index stack r) y
  head_reached y step r lr = reaches_on (last_reached r lr) (reaches_by_step {Step = ListedStep lists} {x = slice_index stack q} {y = y} step)

  -- the node is left, and its segment stays open
  module _ (is : slice_index turns (slice_index stack q) ≡ 1) (inner : (b : ℕ) → Contains bounds b → Contains rest b) where
    left_turns : AreTurns lists stages (set turns (slice_index stack q) 0) stack bounds rest
    left_turns = record {
      count = length-set turns (slice_index stack q) 0 ∙ s.turns_are.count;
      bound = bound_less lists stages turns stack bounds (rest ++ q ∷ []) roots s q last_on_stack 0 (omega arith);
      fresh = fresh_still lists stages turns stack bounds (rest ++ q ∷ []) roots s q last_on_stack 0 (omega arith);
      wants = λ r c.
          let on = Contains-append_left rest (q ∷ []) r c in
          let ne : slice_index stack r ≢ slice_index stack q = λ e.
          let here = one_place lists stages turns stack bounds (rest ++ q ∷ []) roots s q last_on_stack r (s.bounds_are.on_stack r on) e in
          absurd (omega (arith, here, before_last rest q s.bounds_are.path_rises r c)) in
          omega (arith, turn_there lists stages turns stack bounds (rest ++ q ∷ []) roots s q last_on_stack 0 (slice_index stack r) ne, s.turns_are.wants r on);
      left = λ r lr. elim (cases_eq (slice_index stack r) (slice_index stack q)) [
        | inl e ↦ inr (ap (slice_index (set turns (slice_index stack q) 0)) e ∙ turn_here lists stages turns stack bounds (rest ++ q ∷ []) roots s q
            last_on_stack 0)
        | inr ne ↦ elim (s.turns_are.left r lr) [
          | inl c ↦ elim (Contains-push_cases rest q r c) [ inl d ↦ inl d | inr e ↦ absurd (ne (ap (slice_index stack) (sym e))) ]
          | inr none ↦ inr (turn_there lists stages turns stack bounds (rest ++ q ∷ []) roots s q last_on_stack 0 (slice_index stack r) ne ∙ none)
        ]
      ];
      looked = λ r i lr li le. elim (cases_eq (slice_index stack r) (slice_index stack q)) [
        | inl e ↦ s.turns_are.looked r i lr li (omega (arith, ap (slice_index turns) e, is))
        | inr ne ↦ s.turns_are.looked r i lr li (omega (
          arith,
          turn_there lists stages turns stack bounds (rest ++ q ∷ []) roots s q last_on_stack 0
              (slice_index stack r) ne,
          le,
        ))
      ];
    }

    pub leave_search : IsSearch lists stages (set turns (slice_index stack q) 0) stack bounds rest roots
    leave_search = record {
      stages_are = s.stages_are;
      bounds_are = record {
        bounds_rise = s.bounds_are.bounds_rise;
        path_rises = increasing_before rest q s.bounds_are.path_rises;
        on_stack = λ p c. s.bounds_are.on_stack p (Contains-append_left rest (q ∷ []) p c);
        on_path = inner;
        first = s.bounds_are.first;
      };
      segments = s.segments;
      turns_are = left_turns;
      closed_are = s.closed_are;
    }
