-- Bounds past a place are taken out.
use Rattle.std.proofs.Common.{◌≡◌, inl, inr, ◌+◌, ◌-◌, ◌<◌, ◌≤◌, ℕ, List, length, get_or, take, sym, ap, ◌∙◌, subst, arith, get_or-take}
use Rattle.std.specs.Prelude.{Contains, slice_index}
use Rattle.std.specs.List.Sorted.{IsStrictlyIncreasing}
use Rattle.std.proofs.lemmas.Bool.{cases_eq, cases_lt}
use Rattle.std.proofs.lemmas.List.{length-take-le}
use Rattle.std.proofs.lemmas.List.Elements.{Contains-get_or}
use Rattle.conley_walk.specs.Walk.{Reaches}
use Rattle.conley_lists.specs.Lists.{ListedStep}
use Rattle.conley_walk.proofs.WalkLemmas.{reaches_on}
use Rattle.conley_lists.proofs.ListLemmas.{rises, place_of}
use Rattle.conley_digraph.specs.declared.search.Stage.{Stage}
use Rattle.conley_digraph.specs.declared.search.Stage.TheVariants.{Open}
use Rattle.conley_digraph.specs.Search.{stage_of, IsPassed, IsSearch}
use Rattle.conley_digraph.specs.Turn.{Merges}

-- what is kept, by its number
module _ (bounds : List ℕ) (up : IsStrictlyIncreasing bounds) (kept place : ℕ) (within : kept ≤ length bounds)
    (past : (i : ℕ) → kept ≤ i → i < length bounds → place < get_or bounds i 0) (last : 0 < kept → get_or bounds (kept - 1) 0 ≤ place) where
  kept_length : length (take kept bounds) ≡ kept
  kept_length = length-take-le kept bounds within

  low : (i : ℕ) → i < kept → get_or bounds i 0 ≤ place
  low i lt = elim (cases_eq i (kept - 1)) [
    | inl e ↦ omega (arith, ap (λ k. get_or bounds k 0) e, last (omega arith))
    | inr ne ↦ omega (arith, rises bounds up i (kept - 1) (omega arith) (omega arith), last (omega arith))
  ]

  pub merged : Merges bounds (take kept bounds) place
  merged = record {
    rise = λ k lt.
        let l : k + 1 < kept = omega (arith, lt, kept_length) in
        let l' : k < kept = omega arith in
        omega (arith, up k (omega arith), get_or-take kept bounds k 0 l', get_or-take kept bounds (k + 1) 0 l);
    same = λ b. (
      (λ c.
          let at = place_of (take kept bounds) b c in
          let lt : at.0 < kept = omega (arith, at.1, kept_length) in
          let e : get_or bounds at.0 0 ≡ b = sym (get_or-take kept bounds at.0 0 lt) ∙ at.2 in
          (subst (Contains bounds) e (Contains-get_or bounds at.0 0 (omega arith)), omega (arith, low at.0 lt))),
      (λ c.
          let at = place_of bounds b c.0 in
          elim (cases_lt at.0 kept) [
            | inl lt ↦ subst (Contains (take kept bounds)) (get_or-take kept bounds at.0 0 lt ∙ at.2)
                (Contains-get_or (take kept bounds) at.0 0 (omega (arith, kept_length)))
            | inr le ↦ absurd (omega (arith, past at.0 le at.1, at.2, c.1))
          ]),
    );
  }

-- the segments from that of the place on become one, which the place closes to a circle
module _ (lists : List (List ℕ)) (stages : List Stage) (turns stack bounds path roots : List ℕ) (s : IsSearch lists stages turns stack bounds path roots)
    (place : ℕ) (lp : place < length stack) (reached : (q : ℕ) → q < length stack → Reaches (ListedStep lists) (slice_index stack q) (slice_index stack place))
    (bounds' : List ℕ) (m : Merges bounds bounds' place) where
  pub merge_search : IsSearch lists stages turns stack bounds' path roots
  merge_search = record {
    stages_are = s.stages_are;
    bounds_are = record {
      bounds_rise = m.rise;
      path_rises = s.bounds_are.path_rises;
      on_stack = s.bounds_are.on_stack;
      on_path = λ b c. s.bounds_are.on_path b ((m.same b).0 c).0;
      first = λ h. (m.same 0).1 (s.bounds_are.first h, omega arith);
    };
    segments = λ p q pl ql within. elim (cases_lt place q) [
      | inl past ↦ reaches_on (reached q ql) (s.segments p place pl lp (λ b c le. within b ((m.same b).1 (c, le)) (omega arith)))
      | inr le ↦ s.segments p q pl ql (λ b c le'. within b ((m.same b).1 (c, omega arith)) le')
    ];
    turns_are = record {
      count = s.turns_are.count;
      bound = s.turns_are.bound;
      fresh = s.turns_are.fresh;
      wants = s.turns_are.wants;
      left = s.turns_are.left;
      looked = λ q i ql li le. elim (s.turns_are.looked q i ql li le) [
        | inl c ↦ inl c
        | inr o ↦ inr (o.0, o.1, λ b c. o.2 b ((m.same b).0 c).0)
      ];
    };
    closed_are = s.closed_are;
  }

  -- the step that led here has been looked at
  pub merge_passed : (q y : ℕ) → stage_of stages y ≡ Open place → IsPassed stages bounds' q y
  merge_passed q y h = inr (place, h, λ b c le. ((m.same b).0 c).1)
