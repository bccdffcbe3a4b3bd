-- Reach by the test is reach by walks; the least cell of a class.
use Rattle.std.proofs.Common.{◌≡◌, ◌≢◌, ◌⊎◌, inl, inr, ℕ, ◌<◌, ◌≤◌, ◌==◌, ◌&&◌, true, [], sym, arith, subst}
use Rattle.std.specs.Prelude.{nat_lt, slice_index_or, length}
use Rattle.std.proofs.lemmas.Bool.{cases_lt, eqb-true, eq-eqb, ltb-true, lt-ltb, and_from, or_left, or_right}
use Rattle.conley_chains.specs.Matrix.{entry}
use Rattle.conley_walk.specs.Walk.{Reaches, AreRecurrent}
use Rattle.conley_lists.specs.Lists.{ListedStep, is_listed}
use Rattle.conley_walk.proofs.WalkLemmas.{reaches_itself, reaches_on, reaches_by_step, reaches_least}
use Rattle.conley_faces.specs.Face.{IsFace}
use Rattle.conley_transitions.specs.Flow.{StepOf, ShareAPart}
use Rattle.conley_transitions.proofs.EssentialLemmas.{recurrent_itself, recurrent_back, recurrent_on}
use Rattle.conley_certificate.specs.Problem.{Problem, IsProblem, cell_count, part_at, flow, Below}
use Rattle.conley_certificate.specs.Reach.{is_step, reaches, recurs, least_of}
use Rattle.conley_certificate.proofs.WithinLemmas.{parts, boundary_is}
use Rattle.conley_certificate.proofs.TestLemmas.{never, both, either, is_listed-Contains, Contains-is_listed, first_pass-is, leads-Reaches, Reaches-leads}

module _ (P : Problem) (ok : IsProblem P) where
  -- incidences join cells
  pub entry_cells : (y x : ℕ) → entry P.complex.boundary y x ≢ 0 → (y < cell_count P) × (x < cell_count P)
  entry_cells y x some = (
    elim (cases_lt y (cell_count P)) [ inl below ↦ below | inr beyond ↦ absurd (some ((boundary_is P ok).rows_end y x (omega arith))) ],
    elim (cases_lt x (cell_count P)) [ inl below ↦ below | inr beyond ↦ absurd (some ((boundary_is P ok).columns_end y x (omega arith))) ],
  )

  pub listed_cells : (x y : ℕ) → ListedStep P.complex.faces x y → (x < cell_count P) × (y < cell_count P)
  listed_cells x y s = (let cells = entry_cells y x ((ok.layout.complex.direct x y).0 s) in (cells.1, cells.0))

  -- the cells of a part, and those with a face
  pub part_cell : (x : ℕ) → x < length P.part_of → x < cell_count P
  part_cell x below = omega (arith, below, parts P ok)

  pub cell_part : (x : ℕ) → x < cell_count P → x < length P.part_of
  cell_part x cell = omega (arith, cell, parts P ok)

  pub face_itself : (x : ℕ) → x < cell_count P → IsFace P.complex.faces x x
  face_itself x cell = record { cell = omega (arith, cell, ok.layout.complex.faces_count); walk = reaches_itself x }

  pub face_cells : (x y : ℕ) → IsFace P.complex.faces x y → (x < cell_count P) × (y < cell_count P)
  face_cells x y face =
      let cell : x < cell_count P = (let below = face.cell in omega (arith, below, ok.layout.complex.faces_count)) in
      (cell, reaches_least (λ z. z < cell_count P) (λ c d s h. (listed_cells c d s).1) face.walk cell)

  -- to a cell directly under x, or to one of its part
  Direct : ℕ → ℕ → Type 0
  Direct x y = ListedStep P.complex.faces x y ⊎ ShareAPart (flow P) x y

  pub listed_face : (x y : ℕ) → ListedStep P.complex.faces x y → IsFace P.complex.faces x y
  listed_face x y s = record { cell = (let cell = (listed_cells x y s).0 in omega (arith, cell, ok.layout.complex.faces_count)); walk = reaches_by_step s }

  share_test : (x y : ℕ) → (nat_lt x (cell_count P) && (nat_lt y (cell_count P) && (part_at P x == part_at P y))) ≡ true → ShareAPart (flow P) x y
  share_test x y h =
      let first = both (nat_lt x (cell_count P)) (nat_lt y (cell_count P) && (part_at P x == part_at P y)) h in
      let second = both (nat_lt y (cell_count P)) (part_at P x == part_at P y) first.1 in
      (cell_part x (ltb-true x (cell_count P) first.0), (cell_part y (ltb-true y (cell_count P) second.0), sym (eqb-true (part_at P x) (part_at P y) second.1)))

  step_sound : (x y : ℕ) → is_step P x y ≡ true → StepOf (flow P) x y
  step_sound x y h = elim (either (is_listed (slice_index_or P.complex.faces x []) y) (nat_lt x (cell_count P) &&
      (nat_lt y (cell_count P) && (part_at P x == part_at P y))) h) [
        | inl under ↦ inl (listed_face x y (is_listed-Contains (slice_index_or P.complex.faces x []) y under))
        | inr share ↦ inr (share_test x y share)
      ]

  step_complete : (x y : ℕ) → Direct x y → is_step P x y ≡ true
  unfolding Direct
  step_complete x y (inl under) = or_left (is_listed (slice_index_or P.complex.faces x []) y)
      (nat_lt x (cell_count P) && (nat_lt y (cell_count P) && (part_at P x == part_at P y))) (Contains-is_listed (slice_index_or P.complex.faces x []) y under)
  step_complete x y (inr share) = or_right (is_listed (slice_index_or P.complex.faces x []) y)
      (nat_lt x (cell_count P) && (nat_lt y (cell_count P) && (part_at P x == part_at P y)))
      (and_from (nat_lt x (cell_count P)) (nat_lt y (cell_count P) && (part_at P x == part_at P y)) (lt-ltb x (cell_count P) (part_cell x share.0))
      (and_from (nat_lt y (cell_count P)) (part_at P x == part_at P y) (lt-ltb y (cell_count P) (part_cell y share.1.0))
      (eq-eqb (part_at P x) (part_at P y) (sym share.1.1))))

  direct_within : (x y : ℕ) → Direct x y → y < cell_count P
  unfolding Direct
  direct_within x y (inl under) = (listed_cells x y under).1
  direct_within x y (inr share) = part_cell y share.1.0

  under_direct : (x y : ℕ) → ListedStep P.complex.faces x y → Direct x y
  unfolding Direct
  under_direct x y s = inl s

  share_direct : (x y : ℕ) → ShareAPart (flow P) x y → Direct x y
  unfolding Direct
  share_direct x y s = inr s

  step_direct : (x y : ℕ) → StepOf (flow P) x y → Reaches Direct x y
  step_direct x y (inl face) = reaches_least (Reaches Direct x) (λ a b s r. reaches_on r (reaches_by_step (under_direct a b s))) face.walk (reaches_itself x)
  step_direct x y (inr share) = reaches_by_step (share_direct x y share)

  pub reaches-Below : (x y : ℕ) → reaches P x y ≡ true → Below P y x
  reaches-Below x y h = leads-Reaches (is_step P) (StepOf (flow P)) step_sound (cell_count P) x y h

  pub Below-reaches : (x y : ℕ) → Below P y x → reaches P x y ≡ true
  Below-reaches x y r = Reaches-leads (is_step P) Direct (cell_count P) step_complete direct_within x y
      (reaches_least (Reaches Direct x) (λ a b s there. reaches_on there (step_direct a b s)) r (reaches_itself x))

  pub recurs-AreRecurrent : (x y : ℕ) → recurs P x y ≡ true → AreRecurrent (StepOf (flow P)) x y
  recurs-AreRecurrent x y h = (let parts = both (reaches P x y) (reaches P y x) h in record {
    there = reaches-Below x y parts.0;
    back =
        reaches-Below y x parts.1;
  })

  pub AreRecurrent-recurs : (x y : ℕ) → AreRecurrent (StepOf (flow P)) x y → recurs P x y ≡ true
  AreRecurrent-recurs x y r = and_from (reaches P x y) (reaches P y x) (Below-reaches x y r.there) (Below-reaches y x r.back)

  -- cells of one part reach each other
  pub share_recurrent : (x y : ℕ) → ShareAPart (flow P) x y → AreRecurrent (StepOf (flow P)) x y
  share_recurrent x y s = record { there = reaches_by_step (inr s); back = reaches_by_step (inr (s.1.0, (s.0, sym s.1.1))) }

  -- what recurs with a cell is a cell
  pub reached_cell : (x y : ℕ) → x < cell_count P → Below P y x → y < cell_count P
  reached_cell x y cell r = reaches_least (λ z. z < cell_count P) (λ a b s h. direct_cell a b s) r cell where
    direct_cell : (a b : ℕ) → StepOf (flow P) a b → b < cell_count P
    direct_cell a b (inl face) = (face_cells a b face).1
    direct_cell a b (inr share) = part_cell b share.1.0

  -- the least cell of a class
  pub least-recurrent : (x : ℕ) → AreRecurrent (StepOf (flow P)) (least_of P x) x
  least-recurrent x =
      let is = first_pass-is x (λ y. recurs P y x) in
      elim (cases_lt (least_of P x) x) [
        | inl less ↦ recurs-AreRecurrent (least_of P x) x (is.passes less)
        | inr same ↦
            let e : x ≡ least_of P x = omega (arith, is.most) in
            subst (λ y. AreRecurrent (StepOf (flow P)) y x) e (recurrent_itself (StepOf (flow P)) (flow P) x)
      ]

  pub least-most : (x y : ℕ) → AreRecurrent (StepOf (flow P)) y x → least_of P x ≤ y
  least-most x y r =
      let is = first_pass-is x (λ y. recurs P y x) in
      elim (cases_lt y (least_of P x)) [
        | inl less ↦ never (recurs P y x) (AreRecurrent-recurs y x r) (is.before y less)
        | inr more ↦ omega arith
      ]

  pub least-same : (x y : ℕ) → AreRecurrent (StepOf (flow P)) x y → least_of P x ≡ least_of P y
  least-same x y r =
      let up : least_of P x ≤ least_of P y = least-most x (least_of P y) (recurrent_on (StepOf (flow P)) (flow P) (least_of P y) y x (least-recurrent y)
      (recurrent_back (StepOf (flow P)) (flow P) x y r)) in
      let down : least_of P y ≤ least_of P x = least-most y (least_of P x) (recurrent_on (StepOf (flow P)) (flow P) (least_of P x) x y (least-recurrent x) r) in
      omega arith

  pub same-least : (x y : ℕ) → least_of P x ≡ least_of P y → AreRecurrent (StepOf (flow P)) x y
  same-least x y e =
      recurrent_on (StepOf (flow P)) (flow P) x (least_of P x) y (recurrent_back (StepOf (flow P)) (flow P) (least_of P x) x (least-recurrent x))
      (subst (λ z. AreRecurrent (StepOf (flow P)) z y) (sym e) (least-recurrent y))
