-- The lists of faces, as the incidences stand, and where none of them has a fault.
use Rattle.std.proofs.Common.{◌≡◌, ◌⊎◌, inl, inr, ◌+◌, ◌<◌, ◌≤◌, ℕ, List, length, get_or, refl, sym, subst, ap, arith}
use Rattle.std.specs.Prelude.{◌↔◌}
use Rattle.std.proofs.lemmas.Bool.{cases_lt, cases_eq, cases_order}
use Rattle.conley_chains.specs.Faults.{triple_at}
use Rattle.conley_lists.specs.Lists.{ListedStep, PutsUnder}
use Rattle.conley_walk.proofs.WalkLemmas.{reaches_least}
use Rattle.conley_faces.specs.Face.{IsBelowItself}
use Rattle.conley_lefschetz.specs.Listing.{dim_in}
use Rattle.conley_lefschetz.specs.Fault.{IsFault, StoodBefore}

-- one incidence more
module _ (incidences : List (ℕ × ℕ × ℕ)) (k : ℕ) where
  stood_more : (x y : ℕ) → StoodBefore incidences (k + 1) x y ↔ (StoodBefore incidences k x y
      ⊎ ((x ≡ (triple_at incidences k).0) × (y ≡ (triple_at incidences k).1)))
  stood_more x y = (
    (λ u. elim (cases_order u.0 k) [
      | inl e ↦ inr (sym (subst (λ j. (triple_at incidences j).0 ≡ x) e u.2), sym (subst (λ j. (triple_at incidences j).1 ≡ y) e u.3))
      | inr other ↦ elim other [ inl less ↦ inl (u.0, less, u.2, u.3) | inr more ↦ absurd (omega (arith, more, u.1)) ]
    ]),
    (λ s. elim s [ inl u ↦ (u.0, omega (arith, u.1), u.2, u.3) | inr e ↦ (k, omega arith, sym e.0, sym e.1) ]),
  )

  pub steps_more : (old new : List (List ℕ)) → ((x y : ℕ) → ListedStep old x y ↔ StoodBefore incidences k x y)
      → PutsUnder old new (triple_at incidences k).0 (triple_at incidences k).1 → (x y : ℕ) → ListedStep new x y ↔ StoodBefore incidences (k + 1) x y
  steps_more old new steps puts x y = (
    (λ s. (stood_more x y).1 (elim ((puts.steps x y).0 s) [ inl d ↦ inl ((steps x y).0 d) | inr e ↦ inr e ])),
    (λ u. (puts.steps x y).1 (elim ((stood_more x y).0 u) [ inl d ↦ inl ((steps x y).1 d) | inr e ↦ inr e ])),
  )

-- incidences without a fault
module _ (dims : List ℕ) (incidences : List (ℕ × ℕ × ℕ)) (clear : (k why : ℕ) → ¬ IsFault dims incidences k why) where
  pub ends : (k : ℕ) → k < length incidences → ((triple_at incidences k).0 < length dims) × ((triple_at incidences k).1 < length dims)
  ends k lt = (
    elim (cases_lt (triple_at incidences k).0 (length dims)) [ inl l ↦ l | inr ge ↦ absurd (clear k 1 (lt, inl (inl (refl, inl (omega arith))))) ],
    elim (cases_lt (triple_at incidences k).1 (length dims)) [ inl l ↦ l | inr ge ↦ absurd (clear k 1 (lt, inl (inl (refl, inr (omega arith))))) ],
  )

  -- an incidence leads one dimension down
  pub one_down : (x y : ℕ) → StoodBefore incidences (length incidences) x y → dim_in dims x ≡ dim_in dims y + 1
  one_down x y u =
      elim (cases_eq (get_or dims (triple_at incidences u.0).0 0) (get_or dims (triple_at incidences u.0).1 0 + 1)) [
        | inl e ↦ omega (arith, e, ap (λ k. get_or dims k 0) u.2, ap (λ k. get_or dims k 0) u.3)
        | inr ne ↦ absurd (clear u.0 2 (u.1, inl (inr (inl (refl, ne)))))
      ]

  -- so no walk of one or more steps leads back
  pub no_cycle : (lists : List (List ℕ)) → ((x y : ℕ) → ListedStep lists x y → StoodBefore incidences (length incidences) x y) → (x : ℕ)
      → ¬ IsBelowItself lists x
  no_cycle lists only x b =
      let down : get_or dims x 0 ≤ get_or dims b.0 0 = reaches_least (λ q. get_or dims q 0 ≤ get_or dims b.0 0)
      (λ p q s le. omega (arith, one_down p q (only p q s), le)) b.2 (omega arith) in
      omega (arith, down, one_down x b.0 (only x b.0 b.1))
