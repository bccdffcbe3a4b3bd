-- Values of a cell and its faces.
use Rattle.std.proofs.Common.{◌≡◌, ◌≢◌, ◌<◌, ℕ, zero, suc, List, [], ◌∷◌, Bool, true, false, length, get_or, refl, sym, ◌∙◌, ap, arith, cond}
use Rattle.std.specs.Prelude.{Contains}
use Rattle.conley_field.specs.Arithmetic.{Arithmetic, IsField}
use Rattle.conley_algebra.proofs.SumLemmas as sums
use Rattle.conley_generated.specs.Rule.{only_cells, sign, value_in}
use Rattle.conley_lists.proofs.ContainsLemmas.{Contains-rest}
use Rattle.conley_lists.specs.Lists.{AreApart}
use Rattle.conley_generated.proofs.CellLemmas.{test_true, test_false, pairs_head, pairs_tail}

module _ {F : Arithmetic} (laws : IsField F) where
  pub sign-below : (minus : Bool) → sign F minus < F.order
  sign-below true = laws.neg_below 1
  sign-below false = laws.one_below

  -- the negative of one isn't zero
  pub sign-not_zero : (minus : Bool) → sign F minus ≢ 0
  sign-not_zero true e =
      let sum = laws.add_neg 1 in
      let one : F.add 1 (F.neg 1) ≡ 1 = ap (λ x. F.add 1 x) e ∙ laws.add_zero 1 laws.one_below in
      absurd (omega (arith, sum, one))
  sign-not_zero false e = absurd (omega (arith, e))

  pub value_in-below : (faces : List (List ℕ × Bool)) (t : List ℕ) → value_in F faces t < F.order
  value_in-below [] t = sums.zero_below laws
  value_in-below (face ∷ faces) t = laws.add_below _ _

  -- a cell that is no face has the value zero
  pub value_in-none : (faces : List (List ℕ × Bool)) (t : List ℕ) → ¬ Contains (only_cells faces) t → value_in F faces t ≡ 0
  value_in-none [] t none = refl
  value_in-none (face ∷ faces) t none =
      let other : face.0 ≢ t = λ e. none (0, omega arith, e) in
      ap (λ b. F.add (cond b (sign F face.1) 0) (value_in F faces t)) (test_false face.0 t other)
      ∙ ap (λ v. F.add 0 v) (value_in-none faces t (λ c. none (Contains-rest face.0 (only_cells faces) t c)))
      ∙ sums.add_zero_zero laws

  -- a face has its sign
  pub value_in-at : (faces : List (List ℕ × Bool)) → AreApart (only_cells faces) → (k : ℕ) (d : List ℕ × Bool) → k < length faces
      → value_in F faces (get_or faces k d).0 ≡ sign F (get_or faces k d).1
  value_in-at [] apart k d lt = absurd (omega (arith, lt))
  value_in-at (face ∷ faces) apart zero d lt =
      ap (λ b. F.add (cond b (sign F face.1) 0) (value_in F faces face.0)) (test_true face.0 face.0 refl)
      ∙ ap (λ v. F.add (sign F face.1) v) (value_in-none faces face.0 (λ c. pairs_head (λ (t : List ℕ) (u : List ℕ). t ≢ u) face.0 (only_cells faces) apart c.0
      face.0 c.1 (sym c.2)))
      ∙ laws.add_zero (sign F face.1) (sign-below face.1)
  value_in-at (face ∷ faces) apart (suc k) d lt =
      let there : k < length faces = omega (arith, lt) in
      let differ : face.0 ≢ (get_or faces k d).0 = λ e. pairs_head (λ (t : List ℕ) (u : List ℕ). t ≢ u) face.0 (only_cells faces) apart k face.0
      (at_face faces k d there).0 (e ∙ (at_face faces k d there).1) in
      ap (λ b. F.add (cond b (sign F face.1) 0) (value_in F faces (get_or faces k d).0)) (test_false face.0 (get_or faces k d).0 differ)
      ∙ laws.add_comm 0 _ ∙ laws.add_zero _ (value_in-below faces _)
      ∙ value_in-at faces (pairs_tail (λ (t : List ℕ) (u : List ℕ). t ≢ u) face.0 (only_cells faces) apart) k d there
    where
      at_face : (fs : List (List ℕ × Bool)) (k : ℕ) (d : List ℕ × Bool) → k < length fs → (k < length (only_cells fs))
          × ((get_or fs k d).0 ≡ get_or (only_cells fs) k face.0)
      at_face [] k d lt = absurd (omega (arith, lt))
      at_face (f ∷ fs) zero d lt = (omega arith, refl)
      at_face (f ∷ fs) (suc k) d lt = let rest = at_face fs k d (omega (arith, lt)) in (omega (arith, rest.0), rest.1)
