-- A set has a closed set that isolates it exactly where it is a union of parts and locally closed
use Rattle.std.proofs.Common.{inl, inr, ℕ, List, [], ◌∷◌, refl, sym, subst, arith}
use Rattle.std.specs.Prelude.{Contains, ◌↔◌}
use Rattle.conley_walk.specs.Walk.{Walk}
use Rattle.conley_walk.proofs.WalkLemmas.{reaches_itself, reaches_on}
use Rattle.conley_faces.specs.Face.{IsFace, IsInClosure, IsLocallyClosed}
use Rattle.conley_faces.proofs.GapLemmas.{contains_cases}
use Rattle.conley_transitions.specs.Flow.{Flow, IsFlow, IsCell, ShareAPart, StepOf}
use Rattle.conley_transitions.specs.Lasso.{Isolates, HasIsolatingSet}
use Rattle.conley_transitions.specs.Isolation.{IsUnionOfParts}
use Rattle.conley_lists.proofs.ContainsLemmas.{Contains-first, Contains-rest, Contains-cases, Contains-one}
use Rattle.conley_lists.specs.Lists.{LieIn}
use Rattle.conley_transitions.proofs.FinestLemmas.{face_cell}

module _ (flow : Flow) (ok : IsFlow flow) (set : List ℕ) (cells : (x : ℕ) → Contains set x → IsCell flow x) where
  pub face_itself : (x : ℕ) → IsCell flow x → IsFace flow.faces x x
  face_itself x lt = record { cell = omega (arith, lt, ok.parts); walk = reaches_itself x }

  pub face_on : (x y z : ℕ) → IsFace flow.faces x y → IsFace flow.faces y z → IsFace flow.faces x z
  face_on x y z f g = record { cell = f.cell; walk = reaches_on f.walk g.walk }

  -- what is isolated is a union of parts
  pub union_from_isolated : HasIsolatingSet flow set → IsUnionOfParts flow set
  union_from_isolated has x y h s =
      let iso = has.1 in
      let back : ShareAPart flow y x = (s.1.0, (s.0, sym s.1.1)) in
      let in_closed : LieIn has.0 (x ∷ (y ∷ (x ∷ []))) = λ c d. elim (Contains-cases x (y ∷ (x ∷ [])) c d) [
        | inl e ↦ iso.steps x c h (subst (StepOf flow x) (sym e) (inl (face_itself x (cells x h))))
        | inr d' ↦ elim (Contains-cases y (x ∷ []) c d') [
          | inl e ↦ iso.steps x c h (subst (StepOf flow x) (sym e) (inr s))
          | inr d'' ↦ iso.steps x c h (subst (StepOf flow x) (sym (Contains-one x c d'')) (inl (face_itself x (cells x h))))
        ]
      ] in
      iso.walks x (y ∷ (x ∷ [])) x (inr s, (inr back, refl)) in_closed h h y (Contains-rest x (y ∷ (x ∷ [])) y (Contains-first y (x ∷ [])))

  -- and has no gap
  pub closed_from_isolated : HasIsolatingSet flow set → IsLocallyClosed flow.faces set
  closed_from_isolated has x y z g =
      let iso = has.1 in
      let in_closed : LieIn has.0 (x ∷ (y ∷ (z ∷ []))) = λ c d. elim (Contains-cases x (y ∷ (z ∷ [])) c d) [
        | inl e ↦ iso.steps x c g.upper (subst (StepOf flow x) (sym e) (inl (face_itself x (cells x g.upper))))
        | inr d' ↦ elim (Contains-cases y (z ∷ []) c d') [
          | inl e ↦ iso.steps x c g.upper (subst (StepOf flow x) (sym e) (inl g.down))
          | inr d'' ↦ iso.steps x c g.upper (subst (StepOf flow x) (sym (Contains-one z c d'')) (inl (face_on x y z g.down g.further)))
        ]
      ] in
      g.outside (iso.walks x (y ∷ (z ∷ [])) z (inl g.down, (inl g.further, refl)) in_closed g.upper g.lower y
      (Contains-rest x (y ∷ (z ∷ [])) y (Contains-first y (z ∷ []))))

  -- the closure as a list isolates a union of parts without a gap
  module _ (closure : List ℕ) (is_closure : (y : ℕ) → Contains closure y ↔ IsInClosure flow.faces set y) (union : IsUnionOfParts flow set)
      (no_gap : IsLocallyClosed flow.faces set) where
    -- a walk in the closure that is outside once stays outside
    stays_outside : (x : ℕ) (w : List ℕ) (y : ℕ) → Walk (StepOf flow) x w y → LieIn closure (x ∷ w) → ¬ Contains set x → ¬ Contains set y
    stays_outside x [] y a inside out = λ h. out (subst (Contains set) (sym a) h)
    stays_outside x (z ∷ w) y a inside out =
        stays_outside z w y a.1 (λ c d. inside c (Contains-rest x (z ∷ w) c d)) (out_after a.0)
      where
        out_after : StepOf flow x z → ¬ Contains set z
        out_after (inl f) h =
            let upper = (is_closure x).0 (inside x (Contains-first x (z ∷ w))) in
            no_gap upper.0 x z (record { upper = upper.1; lower = h; outside = out; down = upper.2; further = f })
        out_after (inr s) h = out (union z x h (s.1.0, (s.0, sym s.1.1)))

    walk_in_set : (x : ℕ) (w : List ℕ) (y : ℕ) → Walk (StepOf flow) x w y → LieIn closure (x ∷ w) → Contains set x → Contains set y → LieIn set (x ∷ w)
    walk_in_set x [] y a inside hx hy c d = subst (Contains set) (sym (Contains-one x c d)) hx
    walk_in_set x (z ∷ w) y a inside hx hy c d =
        let rest : LieIn closure (z ∷ w) = λ e f. inside e (Contains-rest x (z ∷ w) e f) in
        elim (contains_cases set z) [
          | inl hz ↦ elim (Contains-cases x (z ∷ w) c d) [
            | inl e ↦ subst (Contains set) (sym e) hx
            | inr d' ↦ walk_in_set z w y a.1 rest hz hy c d'
          ]
          | inr out ↦ absurd (stays_outside z w y a.1 rest out hy)
        ]

    pub isolates_from_closure : Isolates flow closure set
    isolates_from_closure = record {
      cells = λ x h. face_cell flow ok _ x ((is_closure x).0 h).2;
      is_closed = λ y. (
        (λ h. (y, h, face_itself y (face_cell flow ok _ y ((is_closure y).0 h).2))),
        (λ g. let up = (is_closure g.0).0 g.1 in (is_closure y).1 (up.0, up.1, face_on up.0 g.0 y up.2 g.2)),
      );
      steps = λ x y h s. step_closure x y h s;
      walks = λ x rest y a inside hx hy. walk_in_set x rest y a inside hx hy;
    }
      where
        step_closure : (x y : ℕ) → Contains set x → StepOf flow x y → Contains closure y
        step_closure x y h (inl f) = (is_closure y).1 (x, h, f)
        step_closure x y h (inr s) = (is_closure y).1 (y, union x y h s, face_itself y s.1.0)
