-- The invariant part: the cells between essential closed walks in the set
use Rattle.std.proofs.Common.{refl, inl, inr, ℕ, List, [], ◌∷◌, ◌++◌, sym, subst}
use Rattle.std.specs.Prelude.{Contains, ◌↔◌}
use Rattle.std.proofs.lemmas.List.Elements.{Contains-append_left, Contains-append_right, Contains-append_cases}
use Rattle.conley_walk.specs.Walk.{Walk, Reaches}
use Rattle.conley_walk.proofs.WalkLemmas.{Walk-append, reaches_on}
use Rattle.conley_transitions.specs.Flow.{Flow, IsCell, StepOf, Counts}
use Rattle.conley_transitions.specs.Lasso.{IsEssential, Lasso, alpha_cells, omega_cells, IsInInvariantPart}
use Rattle.conley_transitions.specs.Invariant.{StepIn, IsEssentialIn}
use Rattle.conley_lists.proofs.ContainsLemmas.{Contains-first, Contains-rest, Contains-cases, Contains-one}
use Rattle.conley_lists.specs.Lists.{LieIn}
use Rattle.conley_transitions.proofs.WalkCellLemmas.{Contains-longer, walk_passes, walk_contains_last}
use Rattle.conley_transitions.proofs.FinestLemmas.{alpha_in_lasso, omega_in_lasso}
use Rattle.conley_transitions.proofs.EssentialLemmas.{Counts-from_essential, essential_from_Counts}

module _ (flow : Flow) (set : List ℕ) where
  -- a walk in the set is a walk by steps in the set
  pub walk_in : (x : ℕ) (w : List ℕ) (y : ℕ) → Walk (StepOf flow) x w y → LieIn set (x ∷ w) → Walk (StepIn flow set) x w y
  walk_in x [] y a inside = a
  walk_in x (z ∷ w) y a inside =
      let rest : LieIn set (z ∷ w) = λ c h. inside c (Contains-rest x (z ∷ w) c h) in
      (record { from = inside x (Contains-first x (z ∷ w)); to = rest z (Contains-first z w); step = a.0 }, walk_in z w y a.1 rest)

  pub walk_out : (x : ℕ) (w : List ℕ) (y : ℕ) → Contains set x → Walk (StepIn flow set) x w y → Walk (StepOf flow) x w y × LieIn set (x ∷ w)
  walk_out x [] y h a = (a, λ c d. subst (Contains set) (sym (Contains-one x c d)) h)
  walk_out x (z ∷ w) y h a =
      let on = walk_out z w y a.0.to a.1 in
      ((a.0.step, on.0), λ c d. elim (Contains-cases x (z ∷ w) c d) [ inl e ↦ subst (Contains set) (sym e) h | inr d' ↦ on.1 c d' ])

  -- where an essential closed walk in the set reaches x in the set, and x reaches one, x is in the invariant part
  pub invariant_from_between : (a b x : ℕ) → IsEssentialIn flow set a → IsEssentialIn flow set b → Reaches (StepIn flow set) a x
      → Reaches (StepIn flow set) x b → IsInInvariantPart flow set x
  invariant_from_between a b x alpha end there on =
      let ha : Contains set a = alpha.2 a (Contains-first a alpha.0) in
      let r : Reaches (StepIn flow set) a b = record {
        cells = there.cells ++ on.cells;
        walk =
            Walk-append (StepIn flow set) a there.cells x on.cells b there.walk on.walk;
      } in
      let link = walk_out a r.cells b ha r.walk in
      let through : Contains (a ∷ r.cells) x = Contains-longer a there.cells on.cells x (walk_contains_last (StepIn flow set) a there.cells x there.walk) in
      let lasso : Lasso flow = record {
        alpha_first = a;
        alpha_rest = alpha.0;
        link_first = a;
        link_rest = r.cells;
        link_last = b;
        omega_first = b;
        omega_rest = end.0;
        alpha = alpha.1;
        leaves = Contains-first a alpha.0;
        link = link.0;
        arrives = Contains-first b end.0;
        omega = end.1;
      } in (
        lasso,
        (λ c h. elim (Contains-append_cases (alpha_cells lasso ++ (a ∷ r.cells)) (omega_cells lasso) c h) [
          | inl h' ↦ elim (Contains-append_cases (alpha_cells lasso) (a ∷ r.cells) c h') [ inl i ↦ alpha.2 c i | inr i ↦ link.1 c i ]
          | inr i ↦ end.2 c i
        ]),
        Contains-append_left (alpha_cells lasso ++ (a ∷ r.cells)) (omega_cells lasso) x (Contains-append_right (alpha_cells lasso) (a ∷ r.cells) x through),
      )

  -- and each of its cells is of that kind
  pub between_from_invariant : (x : ℕ) → IsInInvariantPart flow set x → (a : ℕ) × (b : ℕ) × IsEssentialIn flow set a × IsEssentialIn flow set b
      × Reaches (StepIn flow set) a x × Reaches (StepIn flow set) x b
  between_from_invariant x inv =
      let lasso = inv.0 in
      let a = lasso.alpha_first in
      let b = lasso.omega_first in
      let in_alpha : LieIn set (alpha_cells lasso) = λ c h. inv.1 c (alpha_in_lasso lasso c h) in
      let in_omega : LieIn set (omega_cells lasso) = λ c h. inv.1 c (omega_in_lasso lasso c h) in
      let in_link : LieIn set (lasso.link_first ∷ lasso.link_rest) = λ c h.
      inv.1 c (Contains-append_left (alpha_cells lasso ++ (lasso.link_first ∷ lasso.link_rest)) (omega_cells lasso) c
      (Contains-append_right (alpha_cells lasso) (lasso.link_first ∷ lasso.link_rest) c h)) in
      let alpha = walk_in a lasso.alpha_rest a lasso.alpha.closed in_alpha in
      let omega' = walk_in b lasso.omega_rest b lasso.omega.closed in_omega in
      let link = walk_in lasso.link_first lasso.link_rest lasso.link_last lasso.link in_link in
      let to_link : Reaches (StepIn flow set) a lasso.link_first = (walk_passes (StepIn flow set) a lasso.alpha_rest a lasso.link_first alpha lasso.leaves).0 in
      let over : Reaches (StepIn flow set) lasso.link_first lasso.link_last = record { cells = lasso.link_rest; walk = link } in
      let from_link : Reaches (StepIn flow set) lasso.link_last b = (walk_passes (StepIn flow set) b lasso.omega_rest b lasso.link_last omega' lasso.arrives).1
      in
      let across : Reaches (StepIn flow set) a b = reaches_on to_link (reaches_on over from_link) in
      let goes : Reaches (StepIn flow set) a x × Reaches (StepIn flow set) x b =
      elim (Contains-append_cases (alpha_cells lasso ++ (lasso.link_first ∷ lasso.link_rest)) (omega_cells lasso) x inv.2) [
        | inl h ↦ elim (Contains-append_cases (alpha_cells lasso) (lasso.link_first ∷ lasso.link_rest) x h) [
          | inl h' ↦
              let p = walk_passes (StepIn flow set) a lasso.alpha_rest a x alpha h' in
              (p.0, reaches_on p.1 across)
          | inr h' ↦
              let p = walk_passes (StepIn flow set) lasso.link_first lasso.link_rest lasso.link_last x link h' in
              (reaches_on to_link p.0, reaches_on p.1 from_link)
        ]
        | inr h ↦
            let p = walk_passes (StepIn flow set) b lasso.omega_rest b x omega' h in
            (reaches_on across p.0, p.1)
      ] in
      (a, b, (lasso.alpha_rest, lasso.alpha, in_alpha), (lasso.omega_rest, lasso.omega, in_omega), goes.0, goes.1)

  -- an essential closed walk in the set is one by steps in the set, and its class there counts
  pub essential_in : (x : ℕ) (w : List ℕ) → IsEssential (StepOf flow) flow x w → LieIn set (x ∷ w) → IsEssential (StepIn flow set) flow x w
  essential_in x w e inside = record { moves = e.moves; closed = walk_in x w x e.closed inside; essential = e.essential }

  pub essential_out : (x : ℕ) → Contains set x → (w : List ℕ) × IsEssential (StepIn flow set) flow x w → IsEssentialIn flow set x
  essential_out x h e =
      let a = walk_out x e.0 x h e.1.closed in
      (e.0, record { moves = e.1.moves; closed = a.0; essential = e.1.essential }, a.1)

  pub essential_by_class : ((y : ℕ) → Contains set y → IsCell flow y) → (x : ℕ) → IsEssentialIn flow set x ↔ (Contains set x × Counts (StepIn flow set) flow x)
  essential_by_class cells x = (
    (λ e. (e.2 x (Contains-first x e.0), Counts-from_essential (StepIn flow set) flow x e.0 (λ y h. cells y (e.2 y h)) (essential_in x e.0 e.1 e.2))),
    (λ c.
        let cell = cells x c.0 in
        essential_out x c.0 (essential_from_Counts (StepIn flow set) flow x cell (record { from = c.0; to = c.0; step = inr (cell, (cell, refl)) }) c.1)),
  )
