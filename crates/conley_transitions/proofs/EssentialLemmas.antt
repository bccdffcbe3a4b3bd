-- Essential closed walks and the classes that count
use Rattle.std.proofs.Common.{◌⊎◌, inl, inr, ℕ, List, [], ◌∷◌, ◌++◌, refl, sym, ◌∙◌, subst, arith}
use Rattle.std.specs.Prelude.{Contains, slice_index}
use Rattle.std.proofs.lemmas.Bool.{cases_eq}
use Rattle.std.proofs.lemmas.List.Elements.{Contains-append_right}
use Rattle.conley_walk.specs.Walk.{Walk, AreRecurrent}
use Rattle.conley_walk.proofs.WalkLemmas.{Walk-append, reaches_itself, reaches_on}
use Rattle.conley_transitions.specs.Flow.{Flow, IsCell, IsInPart, ShareAPart, IsCalledRegular, Counts}
use Rattle.conley_transitions.specs.Lasso.{IsEssential}
use Rattle.conley_lists.proofs.ContainsLemmas.{Contains-first, Contains-rest, Contains-cases, Contains-one}
use Rattle.conley_transitions.proofs.WalkCellLemmas.{Contains-longer, append_empty, closed_walk_passes, walk_contains_last}

module _ (R : ℕ → ℕ → Type 0) (flow : Flow) where
  pub recurrent_itself : (x : ℕ) → AreRecurrent R x x
  recurrent_itself x = record { there = reaches_itself x; back = reaches_itself x }

  pub recurrent_back : (x y : ℕ) → AreRecurrent R x y → AreRecurrent R y x
  recurrent_back x y r = record { there = r.back; back = r.there }

  pub recurrent_on : (x y z : ℕ) → AreRecurrent R x y → AreRecurrent R y z → AreRecurrent R x z
  recurrent_on x y z r s = record { there = reaches_on r.there s.there; back = reaches_on s.back r.back }

  -- the cells of a closed walk are recurrent with its first
  pub closed_walk_recurrent : (x : ℕ) (w : List ℕ) (c d : ℕ) → Walk R x w x → Contains (x ∷ w) c → Contains (x ∷ w) d → AreRecurrent R c d
  closed_walk_recurrent x w c d a hc hd = record { there = closed_walk_passes R x w c d a hc hd; back = closed_walk_passes R x w d c a hd hc }

  -- a closed walk and an essential one, one after the other
  pub IsEssential-append : (x : ℕ) (v w : List ℕ) → Walk R x v x → IsEssential R flow x w → IsEssential R flow x (v ++ w)
  IsEssential-append x v w a e = record {
    moves = λ none. e.moves (append_empty v w none);
    closed = Walk-append R x v x w x a e.closed;
    essential = λ lie. e.essential (
      lie.0,
      lie.1,
      λ c h. lie.2 c (elim (Contains-cases x w c h) [
        | inl f ↦ subst (Contains (x ∷ (v ++ w))) (sym f) (Contains-first x (v ++ w))
        | inr f ↦ Contains-rest x (v ++ w) c (Contains-append_right v w c f)
      ]),
    );
  }

  -- a class that counts has an essential closed walk through each of its cells
  pub essential_from_Counts : (x : ℕ) → IsCell flow x → R x x → Counts R flow x → (w : List ℕ) × IsEssential R flow x w
  essential_from_Counts x cell itself (inl two) =
      let r : AreRecurrent R x two.0 = two.1 in
      let there = walk_contains_last R x r.there.cells two.0 r.there.walk in
      let on : Contains (x ∷ (r.there.cells ++ r.back.cells)) two.0 = Contains-longer x r.there.cells r.back.cells two.0 there in (
        r.there.cells ++ r.back.cells,
        record {
          moves = λ none. two.2 (subst (ShareAPart flow x) (sym (Contains-one x two.0 (subst (λ q. Contains (x ∷ q) two.0) none on))) (cell, (cell, refl)));
          closed = Walk-append R x r.there.cells two.0 r.back.cells x r.there.walk r.back.walk;
          essential = λ lie. two.2 (cell, ((lie.2 two.0 on).0, (lie.2 two.0 on).1 ∙ sym (lie.2 x (Contains-first x (r.there.cells ++ r.back.cells))).1));
        },
      )
  essential_from_Counts x cell itself (inr irregular) = (
    x ∷ [],
    record {
      moves = λ none. cc;
      closed = (itself, refl);
      essential = λ lie. irregular (subst (IsCalledRegular flow) (sym (lie.2 x (Contains-first x (x ∷ []))).1) lie.1);
    },
  )

  -- some cell of the list isn't in part p, or all are
  pub part_cases : (p : ℕ) (cells : List ℕ) → ((y : ℕ) → Contains cells y → IsCell flow y) →
      ((y : ℕ) × Contains cells y × ¬ IsInPart flow p y) ⊎ ((y : ℕ) → Contains cells y → IsInPart flow p y)
  part_cases p [] all = inr (λ y h. absurd (omega (arith, h.1)))
  part_cases p (x ∷ w) all = elim (cases_eq (slice_index flow.part_of x) p) [
    | inl e ↦ elim (part_cases p w (λ y h. all y (Contains-rest x w y h))) [
      | inl other ↦ inl (other.0, Contains-rest x w other.0 other.1, other.2)
      | inr same ↦ inr (λ y h. elim (Contains-cases x w y h) [
        | inl f ↦ subst (IsInPart flow p) (sym f) (all x (Contains-first x w), e)
        | inr f ↦ same y f
      ])
    ]
    | inr ne ↦ inl (x, Contains-first x w, λ i. ne i.1)
  ]

  -- the class of an essential closed walk counts
  pub Counts-from_essential : (x : ℕ) (w : List ℕ) → ((y : ℕ) → Contains (x ∷ w) y → IsCell flow y) → IsEssential R flow x w → Counts R flow x
  Counts-from_essential x w all e = elim (part_cases (slice_index flow.part_of x) (x ∷ w) all) [
    | inl other ↦ inl (other.0, closed_walk_recurrent x w x other.0 e.closed (Contains-first x w) other.1, λ s. other.2 s.1)
    | inr same ↦ inr (λ regular. e.essential (slice_index flow.part_of x, regular, same))
  ]
