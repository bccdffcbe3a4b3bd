-- A new node is opened.
use Rattle.std.proofs.Common.{◌≡◌, ◌≢◌, ◌⊎◌, inl, inr, ◌+◌, ◌<◌, ◌≤◌, ℕ, List, [], ◌∷◌, ◌++◌, length, get_or, set, sym, ap, ◌∙◌, subst, arith, get_or-set_other, get_or-set_same}
use Rattle.std.specs.Prelude.{Contains, slice_index}
use Rattle.std.proofs.Math.ListN.{length-set}
use Rattle.std.proofs.Math.Seq.{get_or-append_seam}
use Rattle.std.proofs.lemmas.Bool.{cases_eq, cases_lt}
use Rattle.std.proofs.lemmas.List.{get_or_append_left, length_push}
use Rattle.std.proofs.lemmas.List.Elements.{Contains-append_left, Contains-push, Contains-push_cases}
use Rattle.conley_walk.specs.Walk.{Reaches}
use Rattle.conley_lists.specs.Lists.{ListedStep}
use Rattle.conley_walk.proofs.WalkLemmas.{reaches_itself}
use Rattle.conley_lists.proofs.ListLemmas.{increasing-push, All-from_contained}
use Rattle.conley_digraph.specs.declared.search.Stage.{Stage}
use Rattle.conley_digraph.specs.declared.search.Stage.TheVariants.{New, Open, Closed}
use Rattle.conley_digraph.specs.Search.{stage_of, IsMet, IsPassed, AreStages, AreBounds, AreSegments, AreTurns, IsSearch}
use Rattle.conley_digraph.proofs.StackLemmas.{new_open, new_closed, same_place, reaches_at}

module _ (lists : List (List ℕ)) (stages : List Stage) (turns stack bounds path roots : List ℕ) (s : IsSearch lists stages turns stack bounds path roots)
    (x : ℕ) (lx : x < length lists) (new : stage_of stages x ≡ New) (reached : (p : ℕ) → p < length stack
    → Reaches (ListedStep lists) (slice_index stack p) x) where
  -- stages of this node and of the others
  at_x : stage_of (set stages x (Open (length stack))) x ≡ Open (length stack)
  at_x = get_or-set_same stages x (Open (length stack)) New (omega (arith, lx, s.stages_are.count))

  at_other : (y : ℕ) → y ≢ x → stage_of (set stages x (Open (length stack))) y ≡ stage_of stages y
  at_other y ne = get_or-set_other stages x y (Open (length stack)) New ne

  still_open : (y p : ℕ) → stage_of stages y ≡ Open p → stage_of (set stages x (Open (length stack))) y ≡ Open p
  still_open y p h = at_other y (λ e. new_open p (stage_of stages x) new (ap (stage_of stages) (sym e) ∙ h)) ∙ h

  still_closed : (y k : ℕ) → stage_of stages y ≡ Closed k → stage_of (set stages x (Open (length stack))) y ≡ Closed k
  still_closed y k h = at_other y (λ e. new_closed k (stage_of stages x) new (ap (stage_of stages) (sym e) ∙ h)) ∙ h

  was_open : (y p : ℕ) → stage_of (set stages x (Open (length stack))) y ≡ Open p → ((y ≡ x) × (p ≡ length stack)) ⊎ (stage_of stages y ≡ Open p)
  was_open y p h = elim (cases_eq y x) [
    | inl e ↦ inl (
      e,
      same_place p (length stack) (stage_of (set stages x (Open (length stack))) x)
          (ap (stage_of (set stages x (Open (length stack)))) (sym e) ∙ h) at_x,
    )
    | inr ne ↦ inr (sym (at_other y ne) ∙ h)
  ]

  was_closed : (y k : ℕ) → stage_of (set stages x (Open (length stack))) y ≡ Closed k → stage_of stages y ≡ Closed k
  was_closed y k h = elim (cases_eq y x) [
    | inl e ↦ let clash : Open (length stack) ≡ Closed k = sym at_x ∙ ap (stage_of (set stages x (Open (length stack)))) (sym e) ∙ h in absurd (cc)
    | inr ne ↦ sym (at_other y ne) ∙ h
  ]

  was_new : (y : ℕ) → stage_of (set stages x (Open (length stack))) y ≡ New → stage_of stages y ≡ New
  was_new y h = elim (cases_eq y x) [
    | inl e ↦ new_open (length stack) (stage_of (set stages x (Open (length stack))) x) (ap (stage_of (set stages x (Open (length stack)))) (sym e) ∙ h) at_x
    | inr ne ↦ sym (at_other y ne) ∙ h
  ]

  pub meet_keeps : (y : ℕ) → IsMet stages y → IsMet (set stages x (Open (length stack))) y
  meet_keeps y (inl o) = inl (o.0, still_open y o.0 o.1)
  meet_keeps y (inr c) = inr (c.0, still_closed y c.0 c.1)

  pub meet_meets : IsMet (set stages x (Open (length stack))) x
  meet_meets = inl (length stack, at_x)

  -- places
  top_or_below : (p : ℕ) → p < length (stack ++ x ∷ []) → (length stack ≡ p) ⊎ (p < length stack)
  top_or_below p lt = elim (cases_lt p (length stack)) [ inl below ↦ inr below | inr past ↦ inl (omega (arith, lt, length_push stack x)) ]

  at_top : (p : ℕ) → length stack ≡ p → slice_index (stack ++ x ∷ []) p ≡ x
  at_top p e = ap (slice_index (stack ++ x ∷ [])) (sym e) ∙ get_or-append_seam stack x [] 0

  at_below : (p : ℕ) → p < length stack → slice_index (stack ++ x ∷ []) p ≡ slice_index stack p
  at_below p lt = get_or_append_left stack (x ∷ []) 0 p lt

  meet_stages : AreStages (length lists) (set stages x (Open (length stack))) (stack ++ x ∷ []) roots
  meet_stages = record {
    count = length-set stages x (Open (length stack)) ∙ s.stages_are.count;
    stands = λ p lp. elim (top_or_below p lp) [
      | inl e ↦ ap (stage_of (set stages x (Open (length stack)))) (at_top p e) ∙ at_x ∙ ap Open e
      | inr lt ↦ ap (stage_of (set stages x (Open (length stack)))) (at_below p lt) ∙ still_open (slice_index stack p) p (s.stages_are.stands p lt)
    ];
    open_at = λ y p h. elim (was_open y p h) [
      | inl e ↦ (omega (arith, e.1, length_push stack x), at_top p (sym e.1) ∙ sym e.0)
      | inr o ↦ let w = s.stages_are.open_at y p o in (omega (arith, w.0, length_push stack x), at_below p w.0 ∙ w.1)
    ];
    closed_at = λ y k h. s.stages_are.closed_at y k (was_closed y k h);
    root = λ k lk. still_closed (slice_index roots k) k (s.stages_are.root k lk);
  }

  meet_bounds : AreBounds (length (stack ++ x ∷ [])) (bounds ++ length stack ∷ []) (path ++ length stack ∷ [])
  meet_bounds = record {
    bounds_rise = increasing-push bounds (length stack) s.bounds_are.bounds_rise (All-from_contained (λ b. b < length stack) bounds
        (λ b c. s.bounds_are.on_stack b (s.bounds_are.on_path b c)));
    path_rises = increasing-push path (length stack) s.bounds_are.path_rises (All-from_contained (λ p. p < length stack) path s.bounds_are.on_stack);
    on_stack = λ p c. elim (Contains-push_cases path (length stack) p c) [
      | inl d ↦ omega (arith, s.bounds_are.on_stack p d, length_push stack x)
      | inr e ↦ omega (arith, e, length_push stack x)
    ];
    on_path = λ b c. elim (Contains-push_cases bounds (length stack) b c) [
      | inl d ↦ Contains-append_left path (length stack ∷ []) b (s.bounds_are.on_path b d)
      | inr e ↦ subst (Contains (path ++ length stack ∷ [])) e (Contains-push path (length stack))
    ];
    first = λ h. elim (cases_eq (length stack) 0) [
      | inl e ↦ subst (Contains (bounds ++ length stack ∷ [])) e (Contains-push bounds (length stack))
      | inr ne ↦ Contains-append_left bounds (length stack ∷ []) 0 (s.bounds_are.first (omega arith))
    ];
  }

  meet_segments : AreSegments lists (stack ++ x ∷ []) (bounds ++ length stack ∷ [])
  meet_segments p q lp lq within = elim (top_or_below q lq) [
    | inl e ↦
        let le = within (length stack) (Contains-push bounds (length stack)) (omega (arith, e)) in
        let same : length stack ≡ p = omega (arith, le, lp, length_push stack x) in
        reaches_at lists (slice_index (stack ++ x ∷ []) q) (slice_index (stack ++ x ∷ []) p) x x (at_top q e) (at_top p same) (reaches_itself x)
    | inr lt ↦ elim (top_or_below p lp) [
      | inl e ↦ reaches_at lists (slice_index (stack ++ x ∷ []) q) (slice_index (stack ++ x ∷ []) p) (slice_index stack q) x (at_below q lt) (at_top p e)
          (reached q lt)
      | inr lt' ↦
          reaches_at lists (slice_index (stack ++ x ∷ []) q) (slice_index (stack ++ x ∷ []) p) (slice_index stack q) (slice_index stack p) (at_below q lt)
          (at_below p lt')
          (s.segments p q lt' lt (λ b c. within b (Contains-append_left bounds (length stack ∷ []) b c)))
    ]
  ]

  still_passed : (q y : ℕ) → q < length stack → IsPassed stages bounds q y → IsPassed (set stages x (Open (length stack))) (bounds ++ length stack ∷ []) q y
  still_passed q y lt (inl c) = inl (c.0, still_closed y c.0 c.1)
  still_passed q y lt (inr o) = inr (
    o.0,
    still_open y o.0 o.1,
    λ b c le. elim (Contains-push_cases bounds (length stack) b c)
        [ inl d ↦ o.2 b d le | inr e ↦ absurd (omega (arith, e, le, lt)) ],
  )

  meet_turns : AreTurns lists (set stages x (Open (length stack))) turns (stack ++ x ∷ []) (bounds ++ length stack ∷ []) (path ++ length stack ∷ [])
  meet_turns = record {
    count = s.turns_are.count;
    bound = s.turns_are.bound;
    fresh = λ y ly h. s.turns_are.fresh y ly (was_new y h);
    wants = λ q c. elim (Contains-push_cases path (length stack) q c) [
      | inl d ↦ subst (λ z. 0 < slice_index turns z) (sym (at_below q (s.bounds_are.on_stack q d))) (s.turns_are.wants q d)
      | inr e ↦ omega (arith, ap (slice_index turns) (at_top q e), s.turns_are.fresh x lx new)
    ];
    left = λ q lq. elim (top_or_below q lq) [
      | inl e ↦ inl (subst (Contains (path ++ length stack ∷ [])) e (Contains-push path (length stack)))
      | inr lt ↦ elim (s.turns_are.left q lt) [
        | inl c ↦ inl (Contains-append_left path (length stack ∷ []) q c)
        | inr none ↦ inr (ap (slice_index turns) (at_below q lt) ∙ none)
      ]
    ];
    looked = λ q i lq li le. elim (top_or_below q lq) [
      | inl e ↦
          let fresh = s.turns_are.fresh x lx new in
          let at = at_top q e in
          absurd (omega (arith, li, le, fresh, ap (slice_index turns) at, ap (λ z. length (get_or lists z [])) at))
      | inr lt ↦
          let at = at_below q lt in
          subst (λ z. IsPassed (set stages x (Open (length stack))) (bounds ++ length stack ∷ []) q (slice_index (get_or lists z []) i)) (sym at)
          (still_passed q (slice_index (get_or lists (slice_index stack q) []) i) lt
          (s.turns_are.looked q i lt (subst (λ z. i < length (get_or lists z [])) at li) (subst (λ z. slice_index turns z ≤ i + 1) at le)))
    ];
  }

  pub meet_search : IsSearch lists (set stages x (Open (length stack))) turns (stack ++ x ∷ []) (bounds ++ length stack ∷ []) (path ++ length stack ∷ []) roots
  meet_search = record {
    stages_are = meet_stages;
    bounds_are = meet_bounds;
    segments = meet_segments;
    turns_are = meet_turns;
    closed_are = record {
      steps = λ a b k h step. let w = s.closed_are.steps a b k (was_closed a k h) step in (w.0, w.1, still_closed b w.0 w.2);
      same = λ a b k ha hb. s.closed_are.same a b k (was_closed a k ha) (was_closed b k hb);
    };
  }

  -- the step that led here has been looked at
  pub meet_passed : (q : ℕ) → q < length stack → IsPassed (set stages x (Open (length stack))) (bounds ++ length stack ∷ []) q x
  meet_passed q lt = inr (length stack, at_x, λ b c le. omega (arith, le, lt))
