-- Where to begin: places on essential closed walks within a set, one at least of each class that counts
use Rattle.std.proofs.Common.{◌≡◌, ◌≢◌, inl, inr, ◌+◌, ◌<◌, ℕ, List, [], ◌∷◌, ◌++◌, length, sym, ap, ◌∙◌, subst, arith}
use Rattle.std.specs.Prelude.{Contains, ◌↔◌, slice_index}
use Rattle.std.proofs.lemmas.Bool.{cases_eq}
use Rattle.std.proofs.lemmas.List.Elements.{Contains-append_left, Contains-get_or, Contains-push, Contains-push_cases}
use Rattle.conley_walk.specs.Walk.{Walk, Reaches, AreRecurrent}
use Rattle.conley_lists.specs.Lists.{ListedStep, IsDigraph}
use Rattle.conley_walk.specs.Search.{ReachesFrom}
use Rattle.conley_lists.proofs.ListLemmas.{place_of, step_begins}
use Rattle.conley_walk.proofs.WalkLemmas.{reaches_itself, reaches_on, reaches_by_step, reaches_least, reaches_more}
use Rattle.conley_digraph.specs.Classes.{AreClasses}
use Rattle.conley_digraph.specs.Turning.{IsTurnedRound}
use Rattle.conley_digraph.proofs.TurningLemmas.{turned_reach}
use Rattle.conley_transitions.specs.Flow.{Flow, IsCell}
use Rattle.conley_transitions.specs.Lasso.{IsInInvariantPart}
use Rattle.conley_transitions.specs.Invariant.{StepIn, IsEssentialIn}
use Rattle.conley_transitions.proofs.InvariantLemmas.{essential_by_class, invariant_from_between, between_from_invariant}
use Rattle.conley_isolation.specs.Making.{IsWithin, Crosses, IsStart}

-- such a step is one within a class
pub crosses_by_class : (lists : List (List ℕ)) (parts class_of : List ℕ) → IsDigraph lists → AreClasses lists class_of → (i : ℕ) →
    ((j : ℕ) × ListedStep lists i j × (slice_index class_of j ≡ slice_index class_of i) × (slice_index parts j ≢ slice_index parts i)) ↔ Crosses lists parts i
crosses_by_class lists parts class_of digraph classes i = (
  (λ k. (k.0, k.1, ((classes.same k.0 i (digraph i k.0 k.1) (step_begins lists i k.0 k.1)).0 k.2).there, k.3)),
  (λ k. (
    k.0,
    k.1,
    (classes.same k.0 i (digraph i k.0 k.1) (step_begins lists i k.0 k.1)).1 (record {
      there = k.2;
      back =
          reaches_by_step {Step = ListedStep lists} {x = i} {y = k.0} k.1;
    }),
    k.3,
  )),
)

-- one place more that is taken, or that isn't
pub taken-more : (P : ℕ → Type 0) (n : ℕ) (taken : List ℕ) → ((i : ℕ) → Contains taken i ↔ ((i < n) × P i)) → P n → (i : ℕ) → Contains (taken ++ n ∷ []) i
    ↔ ((i < n + 1) × P i)
taken-more P n taken so_far here i = (
  (λ c. elim (Contains-push_cases taken n i c) [
    | inl old ↦ let w = (so_far i).0 old in (omega (arith, w.0), w.1)
    | inr
        new ↦ (omega (arith, new), subst P new here)
  ]),
  (λ w. elim (cases_eq i n) [
    | inl e ↦ subst (Contains (taken ++ n ∷ [])) (sym e) (Contains-push taken n)
    | inr ne ↦ Contains-append_left taken (n ∷ []) i
        ((so_far i).1 (omega (arith, w.0), w.1))
  ]),
)

pub taken-other : (P : ℕ → Type 0) (n : ℕ) (taken : List ℕ) → ((i : ℕ) → Contains taken i ↔ ((i < n) × P i)) → ¬ P n → (i : ℕ) → Contains taken i
    ↔ ((i < n + 1) × P i)
taken-other P n taken so_far none i = (
  (λ c. let w = (so_far i).0 c in (omega (arith, w.0), w.1)),
  (λ w. elim (cases_eq i n) [ inl e ↦ absurd (none (subst P e w.1)) | inr ne ↦ (so_far i).1 (omega (arith, w.0), w.1) ]),
)

-- on a walk between two parts a step leads from one part to another
crossed : (Step : ℕ → ℕ → Type 0) (parts : List ℕ) (i : ℕ) (w : List ℕ) (j : ℕ) → Walk Step i w j → slice_index parts j ≢ slice_index parts i →
    (a : ℕ) × (b : ℕ) × Reaches Step i a × Step a b × Reaches Step b j × (slice_index parts b ≢ slice_index parts a)
crossed Step parts i [] j e ne = absurd (ne (ap (slice_index parts) (sym e)))
crossed Step parts i (z ∷ w) j walk ne = elim (cases_eq (slice_index parts z) (slice_index parts i)) [
  | inl same ↦
      let on = crossed Step parts z w j walk.1 (λ e. ne (e ∙ same)) in
      (on.0, on.1, reaches_on (reaches_by_step {Step = Step} {x = i} {y = z} walk.0) on.2, on.3, on.4, on.5)
  | inr other ↦ (i, z, reaches_itself i, walk.0, record { cells = w; walk = walk.1 }, other)
]

module _ (flow : Flow) (set parts firsts : List ℕ) (lists : List (List ℕ)) (cells : (x : ℕ) → Contains set x → IsCell flow x)
    (within : IsWithin flow.faces flow.part_of set parts firsts lists) where
  abbrev cell : ℕ → ℕ
  cell i = slice_index set i

  here : (i : ℕ) → i < length set → Contains set (cell i)
  here i lt = Contains-get_or set i 0 lt

  -- what the lists reach from a place is reached in the set
  reach_in : (i j : ℕ) → Reaches (ListedStep lists) i j → Reaches (StepIn flow set) (cell i) (cell j)
  reach_in i j r = reaches_least (λ v. Reaches (StepIn flow set) (cell i) (cell v)) (λ a b s h.
      let w = (within.steps.sound a b s).1 in
      reaches_on h (reaches_by_step {Step = StepIn flow set} {x = cell a} {y = cell b} (record { from = w.from; to = w.to; step = w.step }))) r
      (reaches_itself (cell i))

  reach_out : (i j : ℕ) → i < length set → j < length set → Reaches (StepIn flow set) (cell i) (cell j) → Reaches (ListedStep lists) i j
  reach_out i j li lj r = within.steps.reach i j li lj (reaches_more (λ a b s. record { from = s.from; to = s.to; step = s.step }) r)

  pub start_place : (i : ℕ) → IsStart flow.regular parts firsts lists i → i < length set
  start_place i (inl cross) = omega (arith, step_begins lists i cross.0 cross.1, within.steps.count)
  start_place i (inr critical) = omega (arith, critical.0, within.count)

  -- a start is on an essential closed walk
  start_essential : (i : ℕ) → IsStart flow.regular parts firsts lists i → IsEssentialIn flow set (cell i)
  start_essential i (inl cross) =
      let s = within.steps.sound i cross.0 cross.1 in
      let li : i < length set = start_place i (inl cross) in
      let r : AreRecurrent (StepIn flow set) (cell i) (cell cross.0) = record {
        there = reach_in i cross.0 (reaches_by_step {Step = ListedStep lists} {x = i} {y = cross.0} cross.1);
        back = reach_in cross.0 i cross.2;
      } in
      (essential_by_class flow set cells (cell i)).1 (
        s.1.from,
        inl (
          cell cross.0,
          r,
          λ share. cross.3
              (within.part cross.0 s.0 ∙ share.1.1 ∙ sym (within.part i li)),
        ),
      )
  start_essential i (inr critical) =
      let li : i < length set = start_place i (inr critical) in
      (essential_by_class flow set cells (cell i)).1 (here i li, inr (λ regular. critical.2 (subst flow.regular (sym (within.part i li)) regular)))

  -- an essential closed walk leads to a start, and from it
  start_near : (i : ℕ) → i < length set → IsEssentialIn flow set (cell i) → (s : ℕ) × IsStart flow.regular parts firsts lists s
      × Reaches (ListedStep lists) i s × Reaches (ListedStep lists) s i
  start_near i li e = elim ((essential_by_class flow set cells (cell i)).0 e).1 [
    | inl two ↦
        let in_set : Contains set two.0 = reaches_least (Contains set) (λ p q s h. s.to) two.1.there (here i li) in
        let p = place_of set two.0 in_set in
        let there = reach_out i p.0 li p.1 (subst (Reaches (StepIn flow set) (cell i)) (sym p.2) two.1.there) in
        let back = reach_out p.0 i p.1 li (subst (λ v. Reaches (StepIn flow set) v (cell i)) (sym p.2) two.1.back) in
        let ne : slice_index parts p.0 ≢ slice_index parts i = λ same. two.2 (
          cells (cell i) (here i li),
          (cells two.0 in_set, ap (slice_index flow.part_of) (sym p.2) ∙ sym (within.part p.0 p.1) ∙ same ∙ within.part i li),
        ) in
        let k = crossed (ListedStep lists) parts i there.cells p.0 there.walk ne in
        let rest : Reaches (ListedStep lists) k.1 i = reaches_on {x = k.1} {y = p.0} {z = i} k.4 back in (
          k.0,
          inl (k.1, k.3, reaches_on {x = k.1} {y = i} {z = k.0} rest k.2, k.5),
          k.2,
          reaches_on {x = k.0} {y = k.1} {z = i}
              (reaches_by_step {Step = ListedStep lists} {x = k.0} {y = k.1} k.3) rest,
        )
    | inr irregular ↦
        let lp : i < length parts = omega (arith, within.count) in
        let f = slice_index firsts i in
        let lf : f < length parts = omega (arith, within.have_firsts.before i lp) in
        let ls : f < length set = omega (arith, lf, within.count) in
        let part : slice_index parts f ≡ slice_index parts i = within.have_firsts.part i lp in
        let same : slice_index flow.part_of (cell f) ≡ slice_index flow.part_of (cell i) = sym (within.part f ls) ∙ part ∙ within.part i li in
        let step : (a b : ℕ) → a < length set → b < length set → slice_index flow.part_of (cell b) ≡ slice_index flow.part_of (cell a)
        → Reaches (ListedStep lists) a b = λ a b la lb e.
        reach_out a b la lb (reaches_by_step {Step = StepIn flow set} {x = cell a} {y = cell b} (record {
          from = here a la;
          to = here b lb;
          step = inr (cells (cell a) (here a la), (cells (cell b) (here b lb), e));
        })) in (
          f,
          inr (lf, within.have_firsts.same f i lf lp part, λ regular. irregular (subst flow.regular (part ∙ within.part i li) regular)),
          step i f li ls same,
          step f i ls li (sym same),
        )
  ]

  -- the places between starts are those of the invariant part
  pub between_starts : (starts : List ℕ) (turned : List (List ℕ)) → ((i : ℕ) → Contains starts i ↔ IsStart flow.regular parts firsts lists i)
      → IsTurnedRound lists turned →
      (i : ℕ) → i < length set → (ReachesFrom lists starts i × ReachesFrom turned starts i) ↔ IsInInvariantPart flow set (slice_index set i)
  between_starts starts turned are round i li = (
    (λ w.
        let a = w.0 in
        let b = w.1 in
        invariant_from_between flow set (cell a.0) (cell b.0) (cell i) (start_essential a.0 ((are a.0).0 a.1.0)) (start_essential b.0 ((are b.0).0 b.1.0))
        (reach_in a.0 i a.1.1)
        (reach_in i b.0 ((turned_reach lists turned round b.0 i).0 b.1.1))),
    (λ inv.
        let k = between_from_invariant flow set (cell i) inv in
        let p = place_of set k.0 ((essential_by_class flow set cells k.0).0 k.2).0 in
        let q = place_of set k.1 ((essential_by_class flow set cells k.1).0 k.3).0 in
        let s = start_near p.0 p.1 (subst (IsEssentialIn flow set) (sym p.2) k.2) in
        let t = start_near q.0 q.1 (subst (IsEssentialIn flow set) (sym q.2) k.3) in
        let there = reach_out p.0 i p.1 li (subst (λ v. Reaches (StepIn flow set) v (cell i)) (sym p.2) k.4) in
        let on = reach_out i q.0 li q.1 (subst (Reaches (StepIn flow set) (cell i)) (sym q.2) k.5) in
        ((s.0, ((are s.0).1 s.1, reaches_on s.3 there)), (t.0, ((are t.0).1 t.1, (turned_reach lists turned round t.0 i).1 (reaches_on on t.2))))),
  )
