-- Reach in a digraph turned round is reach back.
use Rattle.std.proofs.Common.{◌≡◌, inl, inr, ◌+◌, ◌<◌, ◌≤◌, ℕ, List, [], ◌∷◌, ◌++◌, length, get_or, take, refl, sym, ◌∙◌, subst, arith}
use Rattle.std.specs.Prelude.{Contains, ◌↔◌}
use Rattle.std.specs.List.Sorted.{IsStrictlyIncreasing}
use Rattle.std.proofs.lemmas.Bool.{cases_eq, cases_order}
use Rattle.std.proofs.lemmas.List.{get_or-take, length-take}
use Rattle.std.proofs.lemmas.List.Elements.{Contains-append_left, Contains-push, Contains-push_cases}
use Rattle.conley_walk.specs.Walk.{Reaches}
use Rattle.conley_lists.specs.Lists.{ListedStep, IsDigraph, PutsUnder}
use Rattle.conley_walk.proofs.WalkLemmas.{reaches_itself, reaches_on, reaches_by_step, reaches_least}
use Rattle.conley_lists.proofs.ListLemmas.{Contains-none, All-from_contained, place_of, rises, increasing-push, step_begins}
use Rattle.conley_digraph.specs.Turning.{PutsUnderEach, StayAscending, IsTurnedSoFar, IsTurnedRound}

-- no heads
pub put_none : (old : List (List ℕ)) (x : ℕ) → PutsUnderEach old old [] x
put_none old x = record {
  count = refl;
  steps = λ a b. ((λ s. inl s), (λ s. elim s [ inl o ↦ o | inr h ↦ Contains-none a h.0 ]));
  kept = λ k out. refl;
}

-- one head more
pub put_more : (old mid new : List (List ℕ)) (heads : List ℕ) (y x : ℕ) → PutsUnderEach old mid heads x → PutsUnder mid new y x
    → PutsUnderEach old new (heads ++ y ∷ []) x
put_more old mid new heads y x so_far puts = record {
  count = puts.count ∙ so_far.count;
  steps = λ a b. (
    (λ s. elim ((puts.steps a b).0 s) [
      | inl m ↦ elim ((so_far.steps a b).0 m) [ inl o ↦ inl o | inr h ↦ inr (Contains-append_left heads (y ∷ []) a h.0, h.1) ]
      | inr e ↦ inr (subst (Contains (heads ++ y ∷ [])) (sym e.0) (Contains-push heads y), e.1)
    ]),
    (λ s. (puts.steps a b).1 (elim s [
      | inl o ↦ inl ((so_far.steps a b).1 (inl o))
      | inr h ↦ elim (Contains-push_cases heads y a h.0) [ inl c ↦ inl ((so_far.steps a b).1 (inr (c, h.1))) | inr e ↦ inr (sym e, h.1) ]
    ])),
  );
  kept = λ k out. puts.kept k (λ e. out (subst (Contains (heads ++ y ∷ [])) (sym e) (Contains-push heads y)))
      ∙ so_far.kept k (λ c. out (Contains-append_left heads (y ∷ []) k c));
}

-- number i of an ascending list isn't among the first i
not_before : (list : List ℕ) (i : ℕ) → IsStrictlyIncreasing list → i < length list → Contains (take i list) (get_or list i 0) → ⊥
not_before list i up lt c =
    let p = place_of (take i list) (get_or list i 0) c in
    let at : p.0 < i = omega (arith, p.1, length-take i list) in
    omega (arith, p.2, get_or-take i list p.0 0 at, rises list up p.0 i at lt)

-- x is put at the end of one list more
pub ascending_more : (old mid new : List (List ℕ)) (heads : List ℕ) (i x : ℕ) → i < length heads → PutsUnderEach old mid (take i heads) x
    → PutsUnder mid new (get_or heads i 0) x → StayAscending old mid heads x → StayAscending old new heads x
ascending_more old mid new heads i x lt so_far puts stay up below olds k =
    let y = get_or heads i 0 in
    elim (cases_eq k y) [
      | inl e ↦
          let same = so_far.kept y (not_before heads i up lt) in
          subst (λ q. IsStrictlyIncreasing (get_or new q [])) (sym e) (rw puts.put
          (increasing-push (get_or mid y []) x (stay up below olds y)
          (All-from_contained (λ q. q < x) (get_or mid y []) (λ b c. below y b (subst (λ l. Contains l b) same c)))))
      | inr ne ↦ rw (puts.kept k ne) (stay up below olds k)
    ]

-- no node yet
pub turned_none : (lists turned : List (List ℕ)) → length turned ≡ length lists → ((x : ℕ) → get_or turned x [] ≡ []) → IsTurnedSoFar lists turned 0
turned_none lists turned count empty = record {
  count = count;
  steps = λ x y. ((λ s. Contains-none x (subst (λ l. Contains l x) (empty y) s)), (λ s. absurd (omega (arith, s.0))));
  ascending = λ up x. rw (empty x) (λ k below. absurd (omega arith));
}

-- one node more
pub turned_more : (lists old new : List (List ℕ)) (n : ℕ) → IsTurnedSoFar lists old n → PutsUnderEach old new (get_or lists n []) n
    → StayAscending old new (get_or lists n []) n → IsTurnedSoFar lists new (n + 1)
turned_more lists old new n so_far puts stay = record {
  count = puts.count ∙ so_far.count;
  steps = λ x y. (
    (λ s. elim ((puts.steps y x).0 s) [
      | inl o ↦ let t = (so_far.steps x y).0 o in (omega (arith, t.0), t.1)
      | inr h ↦ (omega (arith, h.1), subst (λ i. ListedStep lists i y) (sym h.1) h.0)
    ]),
    (λ t. (puts.steps y x).1 (elim (cases_order x n) [
      | inl e ↦ inr (subst (λ i. ListedStep lists i y) e t.1, e)
      | inr other ↦ elim other [ inl less ↦ inl ((so_far.steps x y).1 (less, t.1)) | inr more ↦ absurd (omega (arith, t.0)) ]
    ])),
  );
  ascending = λ up. stay (up n) (λ a b s. ((so_far.steps b a).0 s).0) (so_far.ascending up);
}

-- after the last node
pub turned_all : (lists turned : List (List ℕ)) (n : ℕ) → length lists ≤ n → IsTurnedSoFar lists turned n → IsTurnedRound lists turned
turned_all lists turned n le so_far = record {
  count = so_far.count;
  steps = λ x y. ((λ s. ((so_far.steps x y).0 s).1), (λ s. (so_far.steps x y).1 (omega (arith, step_begins lists x y s), s)));
  ascending = so_far.ascending;
}

-- steps end at nodes there too
pub turned_digraph : (lists turned : List (List ℕ)) → IsTurnedRound lists turned → IsDigraph turned
turned_digraph lists turned t y x s = omega (arith, step_begins lists x y ((t.steps x y).0 s), t.count)

-- a walk there is a walk back here
pub turned_reach : (lists turned : List (List ℕ)) → IsTurnedRound lists turned → (x y : ℕ) → Reaches (ListedStep turned) x y ↔ Reaches (ListedStep lists) y x
turned_reach lists turned t x y = (
  (λ r. reaches_least (λ q. Reaches (ListedStep lists) q x) (λ a b s h. reaches_on (reaches_by_step {Step = ListedStep lists} {x = b} {y = a}
      ((t.steps b a).0 s)) h) r (reaches_itself x)),
  (λ r. reaches_least (λ q. Reaches (ListedStep turned) q y) (λ a b s h. reaches_on (reaches_by_step {Step = ListedStep turned} {x = b} {y = a}
      ((t.steps a b).1 s)) h) r (reaches_itself y)),
)
