-- The classes that count are the finest Morse decomposition, and reach is the least order that serves
use Rattle.std.proofs.Common.{◌≡◌, ◌≢◌, inl, inr, ◌<◌, ℕ, zero, suc, Bool, true, List, [], ◌∷◌, ◌++◌, length, refl, sym, ◌∙◌, subst, arith}
use Rattle.std.specs.Prelude.{Contains, ◌↔◌}
use Rattle.std.proofs.lemmas.Bool.{cases_eq}
use Rattle.std.proofs.lemmas.List.Elements.{Contains-append_left, Contains-append_right, Contains-append_cases}
use Rattle.conley_walk.specs.Walk.{Walk, Reaches, AreRecurrent}
use Rattle.conley_walk.proofs.WalkLemmas.{Walk-append, reaches_on}
use Rattle.conley_faces.specs.Face.{IsFace}
use Rattle.conley_faces.proofs.FaceLemmas.{face_itself, face_ends}
use Rattle.conley_transitions.specs.Flow.{Flow, IsFlow, IsCell, StepOf, Counts}
use Rattle.conley_transitions.specs.Lasso.{IsEssential, Lasso, alpha_cells, omega_cells, lasso_cells, IsIsolatedInvariant}
use Rattle.conley_transitions.specs.Morse.{set_at, IsAt, IsStrictOrder, Descends, IsMorse, IsFinest, AreCountingClasses, SetReaches, IsReachOrder}
use Rattle.conley_lists.proofs.ContainsLemmas.{Contains-first, Contains-rest, Contains-cases, Contains-one}
use Rattle.conley_lists.specs.Lists.{LieIn}
use Rattle.conley_transitions.proofs.WalkCellLemmas.{Contains-longer, walk_passes, walk_contains_last}
use Rattle.conley_transitions.proofs.EssentialLemmas.{closed_walk_recurrent, IsEssential-append, essential_from_Counts, Counts-from_essential}

-- the numbers below n
abbrev pub numbers : ℕ → List ℕ
numbers zero = []
numbers (suc n) = n ∷ numbers n

pub numbers_all : (n x : ℕ) → x < n → Contains (numbers n) x
numbers_all zero x lt = absurd (omega arith)
numbers_all (suc n) x lt = elim (cases_eq x n) [
  | inl e ↦ subst (Contains (n ∷ numbers n)) (sym e) (Contains-first n (numbers n))
  | inr ne ↦ Contains-rest n (numbers n) x (numbers_all n x (omega arith))
]

pub numbers_only : (n x : ℕ) → Contains (numbers n) x → x < n
numbers_only zero x c = absurd (omega (arith, c.1))
numbers_only (suc n) x c = elim (Contains-cases n (numbers n) x c) [
  | inl e ↦ omega arith
  | inr d ↦ let lt = numbers_only n x d in omega arith
]

-- both closed walks are in the lasso
pub alpha_in_lasso : {flow : Flow} (lasso : Lasso flow) (c : ℕ) → Contains (alpha_cells lasso) c → Contains (lasso_cells lasso) c
alpha_in_lasso lasso c h =
    Contains-append_left (alpha_cells lasso ++ (lasso.link_first ∷ lasso.link_rest)) (omega_cells lasso) c
    (Contains-append_left (alpha_cells lasso) (lasso.link_first ∷ lasso.link_rest) c h)

pub omega_in_lasso : {flow : Flow} (lasso : Lasso flow) (c : ℕ) → Contains (omega_cells lasso) c → Contains (lasso_cells lasso) c
omega_in_lasso lasso c h = Contains-append_right (alpha_cells lasso ++ (lasso.link_first ∷ lasso.link_rest)) (omega_cells lasso) c h

-- what one essential closed walk makes a lasso of
abbrev pub lasso_of : {flow : Flow} (x : ℕ) (w : List ℕ) → IsEssential (StepOf flow) flow x w → Lasso flow
lasso_of x w e = record {
  alpha_first = x;
  alpha_rest = w;
  link_first = x;
  link_rest = [];
  link_last = x;
  omega_first = x;
  omega_rest = w;
  alpha = e;
  leaves = Contains-first x w;
  link = refl;
  arrives = Contains-first x w;
  omega = e;
}

-- its cells are those of the walk
pub lasso_of_cells : {flow : Flow} (x : ℕ) (w : List ℕ) (e : IsEssential (StepOf flow) flow x w) (c : ℕ) → Contains (lasso_cells (lasso_of x w e)) c
    → Contains (x ∷ w) c
lasso_of_cells x w e c h = elim (Contains-append_cases ((x ∷ w) ++ (x ∷ [])) (x ∷ w) c h) [
  | inl h' ↦ elim (Contains-append_cases (x ∷ w) (x ∷ []) c h') [
    | inl a ↦ a
    | inr l ↦ subst (Contains (x ∷ w)) (sym (Contains-one x c l)) (Contains-first x w)
  ]
  | inr o ↦ o
]

pub lasso_of_has : {flow : Flow} (x : ℕ) (w : List ℕ) (e : IsEssential (StepOf flow) flow x w) (c : ℕ) → Contains (x ∷ w) c
    → Contains (lasso_cells (lasso_of x w e)) c
lasso_of_has x w e c h = Contains-append_right ((x ∷ w) ++ (x ∷ [])) (x ∷ w) c h

-- a list that isn't empty contains a number
pub some_of : (xs : List ℕ) → xs ≢ [] → (x : ℕ) × Contains xs x
some_of [] ne = absurd (ne refl)
some_of (x ∷ xs) ne = (x, Contains-first x xs)

-- in a Morse decomposition every essential closed walk lies in one set
pub essential_in_one : (flow : Flow) (others : List (List ℕ)) (below : ℕ → ℕ → Bool) → IsMorse flow others below → (x : ℕ) (w : List ℕ)
    → IsEssential (StepOf flow) flow x w →
    (j : ℕ) × (j < length others) × LieIn (set_at others j) (x ∷ w)
essential_in_one flow others below m x w e = elim (m.lassos (lasso_of x w e)) [
  | inl one ↦ (one.0, one.1, λ c h. one.2 c (lasso_of_has x w e c h))
  | inr two ↦
      let same : two.0 ≡ two.1 = m.disjoint two.0 two.1 x (two.2, two.4 x (Contains-first x w)) (two.3, two.5 x (Contains-first x w)) in
      let loop : below two.0 two.0 ≡ true = subst (λ n. below n two.0 ≡ true) (sym same) two.6 in
      absurd (m.order.irreflexive two.0 two.2 loop)
]

-- two finest Morse decompositions have the same sets
pub finest_unique : (flow : Flow) (a b : List (List ℕ)) (below below' : ℕ → ℕ → Bool) → IsMorse flow a below → IsMorse flow b below' → IsFinest flow a
    → IsFinest flow b →
    (i : ℕ) → i < length a → (j : ℕ) × (j < length b) × ((x : ℕ) → Contains (set_at a i) x ↔ Contains (set_at b j) x)
finest_unique flow a b below below' ma mb fa fb i lt =
    let up : (j : ℕ) × (j < length b) × LieIn (set_at b j) (set_at a i) = fa b below' mb i lt in
    let down : (k : ℕ) × (k < length a) × LieIn (set_at a k) (set_at b up.0) = fb a below ma up.0 up.1 in
    let some : (x : ℕ) × Contains (set_at a i) x = some_of (set_at a i) (ma.non_empty i lt) in
    let same : down.0 ≡ i = ma.disjoint down.0 i some.0 (down.1, down.2 some.0 (up.2 some.0 some.1)) (lt, some.1) in
    (up.0, up.1, λ x. (up.2 x, λ h. subst (λ n. Contains (set_at a n) x) same (down.2 x h)))

module _ (flow : Flow) (ok : IsFlow flow) where
  pub face_cell : (x y : ℕ) → IsFace flow.faces x y → IsCell flow y
  face_cell x y f = omega (arith, face_ends flow.faces ok.digraph x y f, ok.parts)

  pub step_cells : (x y : ℕ) → StepOf flow x y → IsCell flow x × IsCell flow y
  step_cells x y (inl f) = (omega (arith, f.cell, ok.parts), face_cell x y f)
  step_cells x y (inr s) = (s.0, s.1.0)

  walk_cells : (x : ℕ) (w : List ℕ) (y : ℕ) → IsCell flow x → Walk (StepOf flow) x w y → (c : ℕ) → Contains (x ∷ w) c → IsCell flow c
  walk_cells x [] y cell a c h = subst (IsCell flow) (sym (Contains-one x c h)) cell
  walk_cells x (z ∷ w) y cell a c h = elim (Contains-cases x (z ∷ w) c h) [
    | inl e ↦ subst (IsCell flow) (sym e) cell
    | inr d ↦ walk_cells z w y (step_cells x z a.0).1 a.1 c d
  ]

  essential_cell : (x : ℕ) (w : List ℕ) → IsEssential (StepOf flow) flow x w → IsCell flow x
  essential_cell x [] e = absurd (e.moves refl)
  essential_cell x (z ∷ w) e = (step_cells x z e.closed.0).0

  Counts-at_essential : (x : ℕ) (w : List ℕ) → IsEssential (StepOf flow) flow x w → Counts (StepOf flow) flow x
  Counts-at_essential x w e = Counts-from_essential (StepOf flow) flow x w (walk_cells x w x (essential_cell x w e) e.closed) e

  module _ (sets : List (List ℕ)) (given : AreCountingClasses flow sets) where
    -- an essential closed walk lies in one class
    at_essential : (x : ℕ) (w : List ℕ) → IsEssential (StepOf flow) flow x w → (i : ℕ) × IsAt sets x i
    at_essential x w e = (given.all x).1 (essential_cell x w e, Counts-at_essential x w e)

    essential_lies : (x : ℕ) (w : List ℕ) → IsEssential (StepOf flow) flow x w → (i : ℕ) → IsAt sets x i → LieIn (set_at sets i) (x ∷ w)
    essential_lies x w e i at c h = (given.classes i x c at).1 (closed_walk_recurrent (StepOf flow) flow x w x c e.closed (Contains-first x w) h)

    -- what lies between two cells of a class is in it
    between_lies : (i x y c : ℕ) → IsAt sets x i → Contains (set_at sets i) y → Reaches (StepOf flow) x c → Reaches (StepOf flow) c y
        → Contains (set_at sets i) c
    between_lies i x y c at h r s =
        let xy : AreRecurrent (StepOf flow) x y = (given.classes i x y at).0 h in
        (given.classes i x c at).1 (record { there = r; back = reaches_on s xy.back })

    -- each class is isolated invariant: all cells together isolate it
    class_isolated : (i : ℕ) → i < length sets → IsIsolatedInvariant flow (set_at sets i)
    class_isolated i lt = record {
      invariant = λ x. (
        λ h.
            let known = (given.all x).0 (i, (lt, h)) in
            let e = essential_from_Counts (StepOf flow) flow x known.0 (inr (known.0, (known.0, refl))) known.1 in
            let lasso = lasso_of x e.0 e.1 in
            (lasso, λ c d. essential_lies x e.0 e.1 i (lt, h) c (lasso_of_cells x e.0 e.1 c d), lasso_of_has x e.0 e.1 x (Contains-first x e.0)),
        λ p. p.1 x p.2,
      );
      isolated = (
        numbers (length flow.part_of),
        record {
          cells = λ x h. numbers_only (length flow.part_of) x h;
          is_closed = λ y. (
            (λ h. (y, h, face_itself flow.faces y (omega (arith, numbers_only (length flow.part_of) y h, ok.parts)))),
            (λ g. numbers_all (length flow.part_of) y (face_cell g.0 y g.2)),
          );
          steps = λ x y h s. numbers_all (length flow.part_of) y (step_cells x y s).1;
          walks = λ x rest y a inside hx hy c h.
              let p = walk_passes (StepOf flow) x rest y c a h in
              between_lies i x y c (lt, hx) hy p.0 p.1;
        },
      );
    }

    -- every lasso descends along reach
    lasso_descends : (below : ℕ → ℕ → Bool) → IsReachOrder flow sets below → (lasso : Lasso flow) → Descends sets below lasso
    lasso_descends below reach lasso =
        let p = at_essential lasso.alpha_first lasso.alpha_rest lasso.alpha in
        let q = at_essential lasso.omega_first lasso.omega_rest lasso.omega in
        let in_alpha : LieIn (set_at sets p.0) (alpha_cells lasso) = essential_lies lasso.alpha_first lasso.alpha_rest lasso.alpha p.0 p.1 in
        let in_omega : LieIn (set_at sets q.0) (omega_cells lasso) = essential_lies lasso.omega_first lasso.omega_rest lasso.omega q.0 q.1 in
        let from : Contains (set_at sets p.0) lasso.link_first = in_alpha lasso.link_first lasso.leaves in
        let to : Contains (set_at sets q.0) lasso.link_last = in_omega lasso.link_last lasso.arrives in
        elim (cases_eq q.0 p.0) [
          | inl e ↦
              let in_omega' : LieIn (set_at sets p.0) (omega_cells lasso) = subst (λ n. LieIn (set_at sets n) (omega_cells lasso)) e in_omega in
              inl (
                p.0,
                p.1.0,
                λ c h. elim (Contains-append_cases (alpha_cells lasso ++ (lasso.link_first ∷ lasso.link_rest)) (omega_cells lasso) c h) [
                  | inl h' ↦ elim (Contains-append_cases (alpha_cells lasso) (lasso.link_first ∷ lasso.link_rest) c h') [
                    | inl a ↦ in_alpha c a
                    | inr l ↦
                        let r = walk_passes (StepOf flow) lasso.link_first lasso.link_rest lasso.link_last c lasso.link l in
                        between_lies p.0 lasso.link_first lasso.link_last c (p.1.0, from) (subst (λ n. Contains (set_at sets n) lasso.link_last) e to) r.0 r.1
                  ]
                  | inr o ↦ in_omega' c o
                ],
              )
          | inr ne ↦ inr (
            p.0,
            q.0,
            p.1.0,
            q.1.0,
            in_alpha,
            in_omega,
            (reach p.0 q.0 p.1.0 q.1.0).1 (
              (λ e. ne (sym e)),
              (
                lasso.link_first,
                lasso.link_last,
                from,
                to,
                record { cells = lasso.link_rest; walk = lasso.link },
              ),
            ),
          )
        ]

    -- classes reach on through a class
    set_reaches_on : (i j k : ℕ) → j < length sets → SetReaches flow (set_at sets i) (set_at sets j) → SetReaches flow (set_at sets j) (set_at sets k)
        → SetReaches flow (set_at sets i) (set_at sets k)
    set_reaches_on i j k lj r s =
        let across : AreRecurrent (StepOf flow) r.1 s.0 = (given.classes j r.1 s.0 (lj, r.3)).0 s.2 in
        (r.0, s.1, r.2, s.3, reaches_on r.4 (reaches_on across.there s.4))

    -- and never back to where they came from
    no_way_back : (i j : ℕ) → i < length sets → j < length sets → i ≢ j → SetReaches flow (set_at sets i) (set_at sets j)
        → SetReaches flow (set_at sets j) (set_at sets i) → ⊥
    no_way_back i j li lj ne r s =
        let in_j : AreRecurrent (StepOf flow) r.1 s.0 = (given.classes j r.1 s.0 (lj, r.3)).0 s.2 in
        let in_i : AreRecurrent (StepOf flow) s.1 r.0 = (given.classes i s.1 r.0 (li, s.3)).0 r.2 in
        let back : Reaches (StepOf flow) r.1 r.0 = reaches_on in_j.there (reaches_on s.4 in_i.there) in
        let both : Contains (set_at sets i) r.1 = (given.classes i r.0 r.1 (li, r.2)).1 (record { there = r.4; back = back }) in
        ne (given.once i j r.1 (li, both) (lj, r.3))

    -- reach between different classes is a strict order
    reach_strict : (below : ℕ → ℕ → Bool) → IsReachOrder flow sets below → IsStrictOrder (length sets) below
    reach_strict below reach = record {
      irreflexive = λ i lt b. ((reach i i lt lt).0 b).0 refl;
      transitive = λ i j k li lj lk ij jk.
          let down = (reach j i lj li).0 ij in
          let down' = (reach k j lk lj).0 jk in
          let r : SetReaches flow (set_at sets k) (set_at sets i) = set_reaches_on k j i lj down'.1 down.1 in
          (reach k i lk li).1 ((λ e. no_way_back k j lk lj down'.0 down'.1 (subst (λ n. SetReaches flow (set_at sets j) (set_at sets n)) (sym e) down.1)), r);
    }

    pub classes_are_morse : (below : ℕ → ℕ → Bool) → IsReachOrder flow sets below → IsMorse flow sets below
    classes_are_morse below reach = record {
      non_empty = given.non_empty;
      disjoint = given.once;
      isolated = class_isolated;
      order = reach_strict below reach;
      lassos = lasso_descends below reach;
    }

    -- each class lies in one set of every Morse decomposition
    pub classes_are_finest : IsFinest flow sets
    classes_are_finest others below m i lt =
        let some : (x : ℕ) × Contains (set_at sets i) x = some_of (set_at sets i) (given.non_empty i lt) in
        let x = some.0 in
        let known = (given.all x).0 (i, (lt, some.1)) in
        let e = essential_from_Counts (StepOf flow) flow x known.0 (inr (known.0, (known.0, refl))) known.1 in
        let one = essential_in_one flow others below m x e.0 e.1 in (
          one.0,
          one.1,
          λ y h.
              let r : AreRecurrent (StepOf flow) x y = (given.classes i x y (lt, some.1)).0 h in
              let v = r.there.cells ++ r.back.cells in
              let round : Walk (StepOf flow) x v x = Walk-append (StepOf flow) x r.there.cells y r.back.cells x r.there.walk r.back.walk in
              let one' = essential_in_one flow others below m x (v ++ e.0) (IsEssential-append (StepOf flow) flow x v e.0 round e.1) in
              let through : Contains (x ∷ (v ++ e.0)) y = Contains-longer x v e.0 y (Contains-longer x r.there.cells r.back.cells y
              (walk_contains_last (StepOf flow) x r.there.cells y r.there.walk)) in
              let same : one'.0 ≡ one.0 = m.disjoint one'.0 one.0 x (one'.1, one'.2 x (Contains-first x (v ++ e.0))) (one.1, one.2 x (Contains-first x e.0)) in
              subst (λ n. Contains (set_at others n) y) same (one'.2 y through),
        )

    -- every order that serves for the classes contains reach
    pub reach_is_least : (below : ℕ → ℕ → Bool) → IsMorse flow sets below → (i j : ℕ) → i < length sets → j < length sets → i ≢ j
        → SetReaches flow (set_at sets i) (set_at sets j) → below j i ≡ true
    reach_is_least below m i j li lj ne r =
        let at_i = (given.all r.0).0 (i, (li, r.2)) in
        let at_j = (given.all r.1).0 (j, (lj, r.3)) in
        let a = essential_from_Counts (StepOf flow) flow r.0 at_i.0 (inr (at_i.0, (at_i.0, refl))) at_i.1 in
        let o = essential_from_Counts (StepOf flow) flow r.1 at_j.0 (inr (at_j.0, (at_j.0, refl))) at_j.1 in
        let lasso : Lasso flow = record {
          alpha_first = r.0;
          alpha_rest = a.0;
          link_first = r.0;
          link_rest = r.4.cells;
          link_last = r.1;
          omega_first = r.1;
          omega_rest = o.0;
          alpha = a.1;
          leaves = Contains-first r.0 a.0;
          link = r.4.walk;
          arrives = Contains-first r.1 o.0;
          omega = o.1;
        } in
        elim (m.lassos lasso) [
          | inl one ↦
              let in_i = one.2 r.0 (alpha_in_lasso lasso r.0 (Contains-first r.0 a.0)) in
              let in_j = one.2 r.1 (omega_in_lasso lasso r.1 (Contains-first r.1 o.0)) in
              absurd (ne (m.disjoint i one.0 r.0 (li, r.2) (one.1, in_i) ∙ m.disjoint one.0 j r.1 (one.1, in_j) (lj, r.3)))
          | inr two ↦
              let p : two.0 ≡ i = m.disjoint two.0 i r.0 (two.2, two.4 r.0 (Contains-first r.0 a.0)) (li, r.2) in
              let q : two.1 ≡ j = m.disjoint two.1 j r.1 (two.3, two.5 r.1 (Contains-first r.1 o.0)) (lj, r.3) in
              subst (λ n. below j n ≡ true) p (subst (λ n. below n two.0 ≡ true) q two.6)
        ]
