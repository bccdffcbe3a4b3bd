-- The first law: the sets are the wanted classes, in the order of their least cells.
use Rattle.std.proofs.Common.{◌≡◌, ◌≢◌, ◌⊎◌, inl, inr, ℕ, suc, ◌<◌, ◌==◌, ◌&&◌, Bool, true, false, List, [], ◌∷◌, ap, sym, ◌∙◌, arith, refl, subst}
use Rattle.std.specs.Prelude.{Contains, ◌↔◌, not, nat_lt, slice_index}
use Rattle.std.proofs.lemmas.Bool.{cases_eq, cases_lt, eqb-true, eq-eqb, ne_eqb, lt-ltb, le-ltb, and_from, or_left, or_right, not_from_false}
use Rattle.std.proofs.lemmas.List.Elements.{All-contains}
use Rattle.conley_walk.specs.Walk.{AreRecurrent}
use Rattle.conley_transitions.specs.Flow.{StepOf}
use Rattle.conley_transitions.specs.Morse.{set_at, IsAt}
use Rattle.conley_transitions.proofs.EssentialLemmas.{recurrent_back, recurrent_on}
use Rattle.conley_lists.proofs.ContainsLemmas.{Contains-first}
use Rattle.conley_lists.specs.Lists.{is_listed}
use Rattle.conley_lists.proofs.TestLemmas.{same_tests}
use Rattle.conley_certificate.specs.Tests.{count_below, first_pass}
use Rattle.conley_certificate.specs.Problem.{Problem, IsProblem, cell_count, part_at, flow}
use Rattle.conley_certificate_file.specs.Certificate.{Certificate, Fits}
use Rattle.conley_certificate.specs.Certificate.{set_count, first_cell}
use Rattle.conley_certificate.specs.Reach.{recurs, least_of, has_two_parts}
use Rattle.conley_certificate.specs.Values.{place_of, is_wanted, wanted_place}
use Rattle.conley_certificate.proofs.TestLemmas.{true_or_false, never, both, either, not-is_true, cond-true, cond-false, any_below-at, any_below-some, is_listed-Contains, Contains-is_listed, first_pass-is, first_pass-at, first_pass-none, count_below-more, count_below-grows, count_below-ascending}
use Rattle.conley_certificate.proofs.FitsLemmas.{cells_fit, one_set}
use Rattle.conley_certificate.proofs.ReachLemmas.{recurs-AreRecurrent, AreRecurrent-recurs, reached_cell, least-recurrent, least-same, same-least}

pub first_contained : (xs : List ℕ) → xs ≢ [] → Contains xs (slice_index xs 0)
first_contained [] some = absurd (some refl)
first_contained (x ∷ xs) some = Contains-first x xs

module _ (P : Problem) (ok : IsProblem P) (C : Certificate) (fits : Fits P.scalars P.complex C) where
  abbrev Recurrent : ℕ → ℕ → Type 0
  Recurrent x y = AreRecurrent (StepOf (flow P)) x y

  recur_back : (x y : ℕ) → Recurrent x y → Recurrent y x
  recur_back x y r = recurrent_back (StepOf (flow P)) (flow P) x y r

  recur_on : (x y z : ℕ) → Recurrent x y → Recurrent y z → Recurrent x z
  recur_on x y z r s = recurrent_on (StepOf (flow P)) (flow P) x y z r s

  pub at_cell : (x i : ℕ) → IsAt C.morse x i → x < cell_count P
  at_cell x i at = All-contains (λ y. y < cell_count P) (set_at C.morse i) x (cells_fit P ok C fits i [] at.0) at.1

  pub first_at : (i : ℕ) → i < set_count C → IsAt C.morse (first_cell C i) i
  first_at i below = (below, first_contained (set_at C.morse i) (fits.non_empty i [] below))

  -- place_of
  abbrev in_set : ℕ → ℕ → Bool
  in_set x i = is_listed (set_at C.morse i) x

  pub place-at : (x i : ℕ) → IsAt C.morse x i → place_of C x ≡ suc i
  place-at x i at =
      let same : first_pass (set_count C) (in_set x) ≡ i = first_pass-at (set_count C) (in_set x) i at.0 (Contains-is_listed (set_at C.morse i) x at.1)
      (λ j less. elim (true_or_false (in_set x j)) [
        | inl found ↦ (let e : j ≡ i = one_set P ok C fits j i x (omega (arith, at.0), is_listed-Contains (set_at C.morse j) x found) at in
            absurd (omega arith))
        | inr missed ↦ missed
      ]) in
      cond-true (nat_lt (first_pass (set_count C) (in_set x)) (set_count C)) (suc (first_pass (set_count C) (in_set x))) 0
      (lt-ltb _ _ (omega (arith, at.0, same))) ∙ ap suc same

  pub place-nowhere : (x : ℕ) → ((i : ℕ) → ¬ IsAt C.morse x i) → place_of C x ≡ 0
  place-nowhere x nowhere =
      let same : first_pass (set_count C) (in_set x) ≡ set_count C = first_pass-none (set_count C) (in_set x) (λ j less. elim (true_or_false (in_set x j)) [
        | inl found ↦ absurd (nowhere j (less, is_listed-Contains (set_at C.morse j) x found))
        | inr missed ↦ missed
      ]) in
      cond-false (nat_lt (first_pass (set_count C) (in_set x)) (set_count C)) (suc (first_pass (set_count C) (in_set x))) 0 (le-ltb _ _ (omega (arith, same)))

  -- a cell is in a set or in none
  pub somewhere : (x : ℕ) → ((i : ℕ) × IsAt C.morse x i) ⊎ ((i : ℕ) → ¬ IsAt C.morse x i)
  somewhere x =
      let is = first_pass-is (set_count C) (in_set x) in
      elim (cases_lt (first_pass (set_count C) (in_set x)) (set_count C)) [
        | inl less ↦ inl (
          first_pass (set_count C) (in_set x),
          (
            less,
            is_listed-Contains (set_at C.morse (first_pass (set_count C) (in_set x))) x
                (is.passes less),
          ),
        )
        | inr end ↦ inr (λ i at. never (in_set x i) (Contains-is_listed (set_at C.morse i) x at.1) (is.before i (omega (arith, at.0))))
      ]

  pub place-some : (x : ℕ) → place_of C x ≢ 0 → (i : ℕ) × IsAt C.morse x i
  place-some x some = elim (somewhere x) [ inl at ↦ at | inr nowhere ↦ absurd (some (place-nowhere x nowhere)) ]

  pub place-suc : (x i : ℕ) → place_of C x ≡ suc i → IsAt C.morse x i
  place-suc x i e =
      let some : (j : ℕ) × IsAt C.morse x j = place-some x (λ none. (let bad : suc i ≡ 0 = sym e ∙ none in absurd (omega arith))) in
      let same : some.0 ≡ i = omega (arith, sym (place-at x some.0 some.1) ∙ e) in
      subst (IsAt C.morse x) same some.1

  -- what counts of a class is told by each of its cells
  pub two_parts-same : (x y : ℕ) → Recurrent x y → has_two_parts P x ≡ true → has_two_parts P y ≡ true
  two_parts-same x y r two =
      let other = any_below-some (cell_count P) (λ z. recurs P x z && not (part_at P z == part_at P x)) two in
      let z = other.0 in
      let parts = both (recurs P x z) (not (part_at P z == part_at P x)) other.1.1 in
      let xz : Recurrent x z = recurs-AreRecurrent P ok x z parts.0 in
      let z_below : z < cell_count P = other.1.0 in
      let x_below : x < cell_count P = reached_cell P ok z x z_below xz.back in
      let test : ℕ → Bool = λ u. recurs P y u && not (part_at P u == part_at P y) in
      elim (cases_eq (part_at P z) (part_at P y)) [
        | inr differ ↦ any_below-at (cell_count P) test z z_below
            (and_from (recurs P y z) (not (part_at P z == part_at P y)) (AreRecurrent-recurs P ok y z (recur_on y x z (recur_back x y r) xz))
            (not_from_false (part_at P z == part_at P y) (ne_eqb _ _ differ)))
        | inl same ↦ any_below-at (cell_count P) test x x_below
            (and_from (recurs P y x) (not (part_at P x == part_at P y)) (AreRecurrent-recurs P ok y x (recur_back x y r))
            (not_from_false (part_at P x == part_at P y) (ne_eqb _ _ (λ e. never (part_at P z == part_at P x) (eq-eqb _ _ (same ∙ sym e))
            (not-is_true (part_at P z == part_at P x) parts.1)))))
      ]

  pub wanted_there : (x y : ℕ) → Recurrent x y → is_wanted P C x ≡ true → is_wanted P C y ≡ true
  wanted_there x y r wanted = elim (either (has_two_parts P x) (not (place_of C (least_of P x) == 0)) wanted) [
    | inl two ↦ or_left (has_two_parts P y) (not (place_of C (least_of P y) == 0)) (two_parts-same x y r two)
    | inr placed ↦ or_right (has_two_parts P y) (not (place_of C (least_of P y) == 0)) (subst (λ z. not (place_of C z == 0) ≡ true) (least-same P ok x y r)
        placed)
  ]

  pub wanted-same : (x y : ℕ) → Recurrent x y → is_wanted P C x ≡ is_wanted P C y
  wanted-same x y r = same_tests (is_wanted P C x) (is_wanted P C y) (wanted_there x y r) (wanted_there y x (recur_back x y r))

  -- a least cell whose class is wanted
  abbrev pub begins : ℕ → Bool
  begins y = (least_of P y == y) && is_wanted P C y

  pub least_begins : (x : ℕ) → is_wanted P C x ≡ true → begins (least_of P x) ≡ true
  least_begins x wanted =
      and_from (least_of P (least_of P x) == least_of P x) (is_wanted P C (least_of P x))
      (eq-eqb _ _ (least-same P ok (least_of P x) x (least-recurrent P ok x)))
      (wanted-same (least_of P x) x (least-recurrent P ok x) ∙ wanted)

  pub wanted-place : (x : ℕ) → is_wanted P C x ≡ true → wanted_place P C x ≡ suc (count_below (least_of P x) begins)
  wanted-place x wanted = cond-true (is_wanted P C x) (suc (count_below (least_of P x) begins)) 0 wanted

  pub unwanted-place : (x : ℕ) → is_wanted P C x ≡ false → wanted_place P C x ≡ 0
  unwanted-place x unwanted = cond-false (is_wanted P C x) (suc (count_below (least_of P x) begins)) 0 unwanted

  -- the sets are the wanted classes, in the order of their least cells
  pub record AreWantedClasses : Type 0 where
    pub classes : (i x y : ℕ) → IsAt C.morse x i → Contains (set_at C.morse i) y ↔ Recurrent x y
    pub up : (i j : ℕ) → i < j → j < set_count C → least_of P (first_cell C i) < least_of P (first_cell C j)
    pub wanted : (x : ℕ) → x < cell_count P → ((i : ℕ) × IsAt C.morse x i) ↔ (is_wanted P C x ≡ true)

  module _ (kept : (x : ℕ) → x < cell_count P → place_of C x ≡ wanted_place P C x) where
    at_wanted : (x i : ℕ) → IsAt C.morse x i → is_wanted P C x ≡ true
    at_wanted x i at = elim (true_or_false (is_wanted P C x)) [
      | inl wanted ↦ wanted
      | inr unwanted ↦ (let bad : suc i ≡ 0 = sym (place-at x i at) ∙ kept x (at_cell x i at) ∙ unwanted-place x unwanted in absurd (omega arith))
    ]

    at_number : (x i : ℕ) → IsAt C.morse x i → i ≡ count_below (least_of P x) begins
    at_number x i at = omega (arith, sym (place-at x i at) ∙ kept x (at_cell x i at) ∙ wanted-place x (at_wanted x i at))

    wanted_at : (x : ℕ) → x < cell_count P → is_wanted P C x ≡ true → IsAt C.morse x (count_below (least_of P x) begins)
    wanted_at x cell wanted = place-suc x (count_below (least_of P x) begins) (kept x cell ∙ wanted-place x wanted)

    not_before : (x y i : ℕ) → IsAt C.morse x i → IsAt C.morse y i → least_of P x < least_of P y → ⊥
    not_before x y i at_x at_y less =
        let grows = count_below-grows (least_of P x) (least_of P y) begins less (least_begins x (at_wanted x i at_x)) in
        omega (arith, grows, at_number x i at_x, at_number y i at_y)

    one_class : (x y i : ℕ) → IsAt C.morse x i → IsAt C.morse y i → Recurrent x y
    one_class x y i at_x at_y = same-least P ok x y (elim (cases_lt (least_of P x) (least_of P y)) [
      | inl less ↦ absurd (not_before x y i at_x at_y less)
      | inr more ↦ elim (cases_lt (least_of P y) (least_of P x)) [ inl less ↦ absurd (not_before y x i at_y at_x less) | inr same ↦ omega arith ]
    ])

    whole_class : (x y i : ℕ) → IsAt C.morse x i → Recurrent x y → IsAt C.morse y i
    whole_class x y i at r =
        let y_below : y < cell_count P = reached_cell P ok x y (at_cell x i at) r.there in
        let found = wanted_at y y_below (sym (wanted-same x y r) ∙ at_wanted x i at) in
        let same : count_below (least_of P y) begins ≡ i = ap (λ n. count_below n begins) (sym (least-same P ok x y r)) ∙ sym (at_number x i at) in
        subst (IsAt C.morse y) same found

    pub kept-classes : AreWantedClasses
    kept-classes = record {
      classes = λ i x y at. ((λ c. one_class x y i at (at.0, c)), (λ r. (whole_class x y i at r).1));
      up = λ i j less below. elim (cases_lt (least_of P (first_cell C i)) (least_of P (first_cell C j))) [
        | inl before ↦ before
        | inr after ↦
            let more = count_below-more (least_of P (first_cell C j)) (least_of P (first_cell C i)) begins (omega arith) in
            absurd (omega (arith, more, at_number (first_cell C i) i (first_at i (omega arith)), at_number (first_cell C j) j (first_at j below)))
      ];
      wanted = λ x cell. ((λ at. at_wanted x at.0 at.1), (λ wanted. (count_below (least_of P x) begins, wanted_at x cell wanted)));
    }

  module _ (are : AreWantedClasses) where
    -- the least cell of set i
    least_cell : ℕ → ℕ
    least_cell i = least_of P (first_cell C i)

    least_cell-at : (x i : ℕ) → IsAt C.morse x i → least_cell i ≡ least_of P x
    unfolding least_cell
    least_cell-at x i at = least-same P ok (first_cell C i) x ((are.classes i (first_cell C i) x (first_at i at.0)).0 at.1)

    least_cell-up : (j k : ℕ) → j < k → k < set_count C → least_cell j < least_cell k
    unfolding least_cell
    least_cell-up j k less below = are.up j k less below

    least_cell-wanted : (i : ℕ) → i < set_count C → begins (least_cell i) ≡ true
    unfolding least_cell
    least_cell-wanted i below = least_begins (first_cell C i) ((are.wanted (first_cell C i) (at_cell (first_cell C i) i (first_at i below))).0
        (i, first_at i below))

    least_cell-only : (i y : ℕ) → i < set_count C → y < least_cell i → y < cell_count P → begins y ≡ true → (j : ℕ) × ((j < i) × (least_cell j ≡ y))
    least_cell-only i y below less cell begin =
        let parts = both (least_of P y == y) (is_wanted P C y) begin in
        let least : least_of P y ≡ y = eqb-true _ _ parts.0 in
        let at = (are.wanted y cell).1 parts.1 in
        let same : least_cell at.0 ≡ y = least_cell-at y at.0 at.1 ∙ least in
        elim (cases_lt at.0 i) [
          | inl before ↦ (at.0, (before, same))
          | inr after ↦ elim (cases_eq at.0 i) [
            | inl e ↦ absurd (omega (arith, same, ap least_cell e))
            | inr ne ↦ absurd (omega (arith, same, least_cell-up i at.0 (omega arith) at.1.0))
          ]
        ]

    -- the least cell of a cell's class is a cell
    least_below : (x : ℕ) → x < cell_count P → least_of P x < cell_count P
    least_below x cell = reached_cell P ok x (least_of P x) cell (least-recurrent P ok x).back

    least_cell-below : (i : ℕ) → i < set_count C → least_cell i < cell_count P
    unfolding least_cell
    least_cell-below i below = least_below (first_cell C i) (at_cell (first_cell C i) i (first_at i below))

    number_of_least : (i : ℕ) → i < set_count C → count_below (least_cell i) begins ≡ i
    number_of_least i below =
        let cell = least_cell-below i below in
        count_below-ascending i least_cell begins (λ j k less most. least_cell-up j k less (omega arith)) (λ j less. least_cell-wanted j (omega arith))
        (λ y less begin. least_cell-only i y below less (omega (arith, less, cell)) begin)

    pub classes-kept : (x : ℕ) → x < cell_count P → place_of C x ≡ wanted_place P C x
    classes-kept x cell = elim (somewhere x) [
      | inl at ↦
          place-at x at.0 at.1
          ∙ ap suc (sym (number_of_least at.0 at.1.0) ∙ ap (λ n. count_below n begins) (least_cell-at x at.0 at.1))
          ∙ sym (wanted-place x ((are.wanted x cell).0 at))
      | inr nowhere ↦ place-nowhere x nowhere ∙ sym (unwanted-place x (elim (true_or_false (is_wanted P C x)) [
        | inl wanted ↦ (let at = (are.wanted x cell).1 wanted in absurd (nowhere at.0 at.1))
        | inr unwanted ↦ unwanted
      ]))
    ]
