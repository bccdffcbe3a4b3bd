-- Closing nodes, one after another and a segment together.
use Rattle.std.proofs.Common.{◌≡◌, ◌⊎◌, inl, inr, ◌+◌, ◌<◌, ◌≤◌, ℕ, List, [], ◌∷◌, ◌++◌, length, get_or, set, take, drop, refl, sym, ap, ◌∙◌, subst, arith, get_or-set_other, get_or-set_same, get_or-take}
use Rattle.std.specs.Prelude.{Contains, slice_index}
use Rattle.std.proofs.Math.ListN.{length-set}
use Rattle.std.proofs.Math.Seq.{get_or-append_seam}
use Rattle.std.proofs.lemmas.Bool.{cases_eq, cases_lt}
use Rattle.std.proofs.lemmas.List.{length-take-le, length_push, get_or_append_left}
use Rattle.std.proofs.lemmas.List.Elements.{Contains-append_left, Contains-push, Contains-push_cases}
use Rattle.conley_lists.specs.Lists.{ListedStep}
use Rattle.conley_lists.proofs.ListLemmas.{Contains-none, place_of}
use Rattle.conley_digraph.specs.declared.search.Stage.{Stage}
use Rattle.conley_digraph.specs.declared.search.Stage.TheVariants.{New, Open, Closed}
use Rattle.conley_digraph.specs.Search.{stage_of, IsMet, IsPassed, AreStages, AreBounds, AreSegments, AreTurns, AreClosed, IsSearch}
use Rattle.conley_digraph.specs.Turn.{ClosesAll}
use Rattle.conley_digraph.proofs.StackLemmas.{increasing_before, before_last, from_place, stands_from, new_closed, open_closed, same_class, reaches_at}
use Rattle.conley_digraph.proofs.LookLemmas.{one_place, turn_there, bound_less, fresh_still, bound_to_last}

-- no node is closed yet
pub closes_none : (old : List Stage) (class : ℕ) → ClosesAll old old [] class
closes_none old class = record { count = refl; closed = λ y c. Contains-none y c; kept = λ y. inr refl }

-- one node more
pub closes_more : (old new : List Stage) (nodes : List ℕ) (class x : ℕ) → ClosesAll old new nodes class → x < length new
    → ClosesAll old (set new x (Closed class)) (nodes ++ x ∷ []) class
closes_more old new nodes class x so_far lt = record {
  count = length-set new x (Closed class) ∙ so_far.count;
  closed = λ y c. elim (cases_eq y x) [
    | inl e ↦ subst (λ z. stage_of (set new x (Closed class)) z ≡ Closed class) (sym e) (get_or-set_same new x (Closed class) New lt)
    | inr ne ↦ get_or-set_other new x y (Closed class) New ne ∙ elim (Contains-push_cases nodes x y c)
        [ inl d ↦ so_far.closed y d | inr e ↦ absurd (ne (sym e)) ]
  ];
  kept = λ y. elim (cases_eq y x) [
    | inl e ↦ inl (subst (Contains (nodes ++ x ∷ [])) (sym e) (Contains-push nodes x))
    | inr ne ↦ elim (so_far.kept y) [
      | inl d ↦ inl (Contains-append_left nodes (x ∷ []) y d)
      | inr e ↦ inr (get_or-set_other new x y (Closed class) New ne ∙ e)
    ]
  ];
}

-- the segment of the last bound, whose first node is the last of the path, is closed
module _ (lists : List (List ℕ)) (stages : List Stage) (turns stack bounds rest roots : List ℕ) (q : ℕ)
    (s : IsSearch lists stages turns stack (bounds ++ q ∷ []) (rest ++ q ∷ []) roots)
    (is : slice_index turns (slice_index stack q) ≡ 1) (stages' : List Stage) (closes : ClosesAll stages stages' (drop q stack) (length roots)) where
  lq : q < length stack
  lq = s.bounds_are.on_stack q (Contains-push rest q)

  -- stages of the segment and of the other nodes
  inside : (p : ℕ) → q ≤ p → p < length stack → stage_of stages' (slice_index stack p) ≡ Closed (length roots)
  inside p le lt = closes.closed (slice_index stack p) (stands_from stack q p le lt)

  either : (y : ℕ) → ((p : ℕ) × (q ≤ p) × (p < length stack) × (get_or stack p 0 ≡ y)) ⊎ (stage_of stages' y ≡ stage_of stages y)
  either y = elim (closes.kept y) [ inl c ↦ inl (from_place stack q y c) | inr e ↦ inr e ]

  still_closed : (y k : ℕ) → stage_of stages y ≡ Closed k → stage_of stages' y ≡ Closed k
  still_closed y k h = elim (either y) [
    | inl w ↦ open_closed w.0 k (stage_of stages y) (ap (stage_of stages) (sym w.3) ∙ s.stages_are.stands w.0 w.2) h
    | inr e ↦ e ∙ h
  ]

  was_closed : (y k : ℕ) → stage_of stages' y ≡ Closed k → (stage_of stages y ≡ Closed k) ⊎ ((k ≡ length roots)
      × ((p : ℕ) × (q ≤ p) × (p < length stack) × (get_or stack p 0 ≡ y)))
  was_closed y k h = elim (either y) [
    | inl w ↦ inr (same_class k (length roots) (stage_of stages' y) h (ap (stage_of stages') (sym w.3) ∙ inside w.0 w.1 w.2), w)
    | inr e ↦ inl (sym e ∙ h)
  ]

  still_open : (p : ℕ) → p < q → stage_of stages' (slice_index stack p) ≡ Open p
  still_open p lt =
      let lp : p < length stack = omega (arith, lt, lq) in
      elim (either (slice_index stack p)) [
        | inl w ↦ let same = one_place lists stages turns stack (bounds ++ q ∷ []) (rest ++ q ∷ []) roots s p lp w.0 w.2 w.3 in
            absurd (omega (arith, same, w.1))
        | inr e ↦ e ∙ s.stages_are.stands p lp
      ]

  was_open : (y p : ℕ) → stage_of stages' y ≡ Open p → (p < q) × (slice_index stack p ≡ y)
  was_open y p h = elim (either y) [
    | inl w ↦ open_closed p (length roots) (stage_of stages' y) h (ap (stage_of stages') (sym w.3) ∙ inside w.0 w.1 w.2)
    | inr e ↦
        let o = s.stages_are.open_at y p (sym e ∙ h) in (
          elim (cases_lt p q) [
            | inl lt ↦ lt
            | inr le ↦ open_closed p (length roots) (stage_of stages' y) h (ap (stage_of stages') (sym o.1) ∙ inside p le o.0)
          ],
          o.1,
        )
  ]

  was_new : (y : ℕ) → stage_of stages' y ≡ New → stage_of stages y ≡ New
  was_new y h = elim (either y) [
    | inl w ↦ new_closed (length roots) (stage_of stages' y) h (ap (stage_of stages') (sym w.3) ∙ inside w.0 w.1 w.2)
    | inr e ↦ sym e ∙ h
  ]

  pub close_keeps : (y : ℕ) → IsMet stages y → IsMet stages' y
  close_keeps y (inl o) =
      let w = s.stages_are.open_at y o.0 o.1 in
      elim (cases_lt o.0 q) [
        | inl lt ↦ inl (o.0, ap (stage_of stages') (sym w.1) ∙ still_open o.0 lt)
        | inr le ↦ inr (length roots, ap (stage_of stages') (sym w.1) ∙ inside o.0 le w.0)
      ]
  close_keeps y (inr c) = inr (c.0, still_closed y c.0 c.1)

  below : (p : ℕ) → p < q → slice_index (take q stack) p ≡ slice_index stack p
  below p lt = get_or-take q stack p 0 lt

  height : length (take q stack) ≡ q
  height = length-take-le q stack (omega (arith, lq))

  close_stages : AreStages (length lists) stages' (take q stack) (roots ++ slice_index stack q ∷ [])
  close_stages = record {
    count = closes.count ∙ s.stages_are.count;
    stands = λ p lp. let lt : p < q = omega (arith, lp, height) in ap (stage_of stages') (below p lt) ∙ still_open p lt;
    open_at = λ y p h. let w = was_open y p h in (omega (arith, w.0, height), below p w.0 ∙ w.1);
    closed_at = λ y k h. elim (was_closed y k h) [
      | inl old ↦ omega (arith, s.stages_are.closed_at y k old, length_push roots (slice_index stack q))
      | inr w ↦ omega (arith, w.0, length_push roots (slice_index stack q))
    ];
    root = λ k lk. elim (cases_eq k (length roots)) [
      | inl e ↦ ap (stage_of stages') (ap (slice_index (roots ++ slice_index stack q ∷ [])) e ∙ get_or-append_seam roots (slice_index stack q) [] 0)
          ∙ inside q (omega arith) lq ∙ ap Closed (sym e)
      | inr ne ↦
          let lt : k < length roots = omega (arith, lk, length_push roots (slice_index stack q)) in
          ap (stage_of stages') (get_or_append_left roots (slice_index stack q ∷ []) 0 k lt) ∙ still_closed (slice_index roots k) k (s.stages_are.root k lt)
    ];
  }

  close_bounds : AreBounds (length (take q stack)) bounds rest
  close_bounds = record {
    bounds_rise = increasing_before bounds q s.bounds_are.bounds_rise;
    path_rises = increasing_before rest q s.bounds_are.path_rises;
    on_stack = λ p c. omega (arith, height, before_last rest q s.bounds_are.path_rises p c);
    on_path = λ b c. elim (Contains-push_cases rest q b (s.bounds_are.on_path b (Contains-append_left bounds (q ∷ []) b c))) [
      | inl d ↦ d
      | inr e ↦ absurd (omega (arith, e, before_last bounds q s.bounds_are.bounds_rise b c))
    ];
    first = λ h. elim (Contains-push_cases bounds q 0 (s.bounds_are.first (omega (arith, lq)))) [ inl d ↦ d | inr e ↦ absurd (omega (arith, e, h, height)) ];
  }

  close_segments : AreSegments lists (take q stack) bounds
  close_segments p r lp lr within =
      let lp' : p < q = omega (arith, lp, height) in
      let lr' : r < q = omega (arith, lr, height) in
      reaches_at lists (slice_index (take q stack) r) (slice_index (take q stack) p) (slice_index stack r) (slice_index stack p) (below r lr') (below p lp')
      (s.segments p r (omega (arith, lq)) (omega (arith, lq)) (λ b c le. elim (Contains-push_cases bounds q b c)
      [ inl d ↦ within b d le | inr e ↦ absurd (omega (arith, e, le, lr')) ]))

  -- what was looked at from below the segment
  still_passed : (r y : ℕ) → IsPassed stages (bounds ++ q ∷ []) r y → IsPassed stages' bounds r y
  still_passed r y (inl c) = inl (c.0, still_closed y c.0 c.1)
  still_passed r y (inr o) =
      let w = s.stages_are.open_at y o.0 o.1 in
      elim (cases_lt o.0 q) [
        | inl lt ↦ inr (o.0, ap (stage_of stages') (sym w.1) ∙ still_open o.0 lt, λ b c le. o.2 b (Contains-append_left bounds (q ∷ []) b c) le)
        | inr le ↦ inl (length roots, ap (stage_of stages') (sym w.1) ∙ inside o.0 le w.0)
      ]

  -- turns of nodes below the segment
  turns_below : (r : ℕ) → r < q → slice_index (set turns (slice_index stack q) 0) (slice_index (take q stack) r) ≡ slice_index turns (slice_index stack r)
  turns_below r lt =
      ap (slice_index (set turns (slice_index stack q) 0)) (below r lt)
      ∙ turn_there lists stages turns stack (bounds ++ q ∷ []) (rest ++ q ∷ []) roots s q lq 0 (slice_index stack r) (λ e.
      let same = one_place lists stages turns stack (bounds ++ q ∷ []) (rest ++ q ∷ []) roots s q lq r (omega (arith, lq, lt)) e in
      absurd (omega (arith, same, lt)))

  close_turns : AreTurns lists stages' (set turns (slice_index stack q) 0) (take q stack) bounds rest
  close_turns = record {
    count = length-set turns (slice_index stack q) 0 ∙ s.turns_are.count;
    bound = bound_less lists stages turns stack (bounds ++ q ∷ []) (rest ++ q ∷ []) roots s q lq 0 (omega (arith, is));
    fresh = λ y ly h. fresh_still lists stages turns stack (bounds ++ q ∷ []) (rest ++ q ∷ []) roots s q lq 0 (omega (arith, is)) y ly (was_new y h);
    wants = λ r c. omega (arith, turns_below r (before_last rest q s.bounds_are.path_rises r c), s.turns_are.wants r (Contains-append_left rest (q ∷ []) r c));
    left = λ r lr.
        let lt : r < q = omega (arith, lr, height) in
        elim (s.turns_are.left r (omega (arith, lq))) [
          | inl c ↦ elim (Contains-push_cases rest q r c) [ inl d ↦ inl d | inr e ↦ absurd (omega (arith, e, lt)) ]
          | inr none ↦ inr (turns_below r lt ∙ none)
        ];
    looked = λ r i lr li le.
        let lt : r < q = omega (arith, lr, height) in
        let at = below r lt in
        subst (λ z. IsPassed stages' bounds r (slice_index (get_or lists z []) i)) (sym at)
        (still_passed r (slice_index (get_or lists (slice_index stack r) []) i)
        (s.turns_are.looked r i (omega (arith, lq)) (subst (λ z. i < length (get_or lists z [])) at li) (omega (arith, le, turns_below r lt))));
  }

  -- a step from the segment leads to the segment or to a node that was closed
  steps_inside : (p y : ℕ) → q ≤ p → p < length stack → ListedStep lists (slice_index stack p) y → (j : ℕ) × (j ≤ length roots)
      × (stage_of stages' y ≡ Closed j)
  steps_inside p y le lp step =
      let at = place_of (get_or lists (slice_index stack p) []) y step in
      let few : slice_index turns (slice_index stack p) ≤ at.0 + 1 = elim (s.turns_are.left p lp) [
        | inl c ↦ elim (Contains-push_cases rest q p c) [
          | inl d ↦ absurd (omega (arith, before_last rest q s.bounds_are.path_rises p d, le))
          | inr e ↦ omega (arith, is, ap (λ z. slice_index turns (slice_index stack z)) e)
        ]
        | inr none ↦ omega (arith, none)
      ] in
      let passed = subst (IsPassed stages (bounds ++ q ∷ []) p) at.2 (s.turns_are.looked p at.0 lp at.1 few) in
      elim passed [
        | inl c ↦ (c.0, omega (arith, s.stages_are.closed_at y c.0 c.1), still_closed y c.0 c.1)
        | inr o ↦
            let w = s.stages_are.open_at y o.0 o.1 in
            (length roots, omega arith, ap (stage_of stages') (sym w.1) ∙ inside o.0 (o.2 q (Contains-push bounds q) le) w.0)
      ]

  close_closed : AreClosed lists stages'
  close_closed = record {
    steps = λ x y k h step. elim (was_closed x k h) [
      | inl old ↦ let w = s.closed_are.steps x y k old step in (w.0, w.1, still_closed y w.0 w.2)
      | inr w ↦ let v = steps_inside w.1.0 y w.1.1 w.1.2 (subst (λ z. ListedStep lists z y) (sym w.1.3) step) in (v.0, omega (arith, v.1, w.0), v.2)
    ];
    same = λ x y k hx hy. elim (was_closed x k hx) [
      | inl old ↦ elim (was_closed y k hy) [
        | inl old' ↦ s.closed_are.same x y k old old'
        | inr w ↦ absurd (omega (arith, s.stages_are.closed_at x k old, w.0))
      ]
      | inr w ↦ elim (was_closed y k hy) [
        | inl old' ↦ absurd (omega (arith, s.stages_are.closed_at y k old', w.0))
        | inr v ↦
            reaches_at lists x y (slice_index stack w.1.0) (slice_index stack v.1.0) (sym w.1.3) (sym v.1.3)
            (s.segments v.1.0 w.1.0 v.1.2 w.1.2 (λ b c le. omega (arith, bound_to_last lists stages turns stack (bounds ++ q ∷ []) rest roots q s b c, v.1.1)))
      ]
    ];
  }

  pub close_search : IsSearch lists stages' (set turns (slice_index stack q) 0) (take q stack) bounds rest (roots ++ slice_index stack q ∷ [])
  close_search = record { stages_are = close_stages; bounds_are = close_bounds; segments = close_segments; turns_are = close_turns; closed_are = close_closed }
