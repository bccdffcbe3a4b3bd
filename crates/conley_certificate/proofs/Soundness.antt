-- Where all laws are kept, the certificate is an analysis.
use Rattle.std.proofs.Common.{◌≡◌, ◌≢◌, inl, inr, ℕ, ◌<◌, ◌≤◌, ◌==◌, ◌&&◌, Bool, true, false, List, [], length, ap, sym, ◌∙◌, arith, subst}
use Rattle.std.specs.Prelude.{Contains, ◌↔◌, not, if◌then◌else◌, slice_index}
use Rattle.std.specs.List.Sorted.{IsStrictlyIncreasing}
use Rattle.std.proofs.Math.ListN.{get_or-eq_default}
use Rattle.std.proofs.lemmas.Bool.{cases_eq, cases_lt, eqb-true, eq-eqb, ne_eqb, eqb-false, and_from, not_from_true, not_from_false, or_left}
use Rattle.std.proofs.lemmas.List.Elements.{All-contains, Contains-get_or}
use Rattle.conley_walk.specs.Walk.{AreRecurrent}
use Rattle.conley_algebra.specs.Entries.{Vector}
use Rattle.conley_chains.specs.Matrix.{entry}
use Rattle.conley_lists.proofs.ListLemmas.{place_of as place_in, at_least, Contains-none}
use Rattle.conley_lists.specs.Lists.{is_listed}
use Rattle.conley_homotopy.specs.Graded.{IsGradedComplex, IsStrict}
use Rattle.conley_homotopy.specs.Equivalence.{IsGradedEquivalence, IsConnection}
use Rattle.conley_mvf.specs.Partition.{AreCellsOf}
use Rattle.conley_lefschetz.specs.Conley.{IsConleyBasis, AreConleyNumbers}
use Rattle.conley_transitions.specs.Flow.{StepOf, ShareAPart, Counts}
use Rattle.conley_transitions.specs.Morse.{set_at, IsAt, AreCountingClasses, IsReachOrder}
use Rattle.conley_transitions.proofs.EssentialLemmas.{recurrent_back}
use Rattle.conley_transitions.proofs.FinestLemmas.{classes_are_morse, classes_are_finest}
use Rattle.conley_graph.specs.Covers.{AreCovers}
use Rattle.conley_graph.specs.Decomposition.{IsFinestDecomposition}
use Rattle.conley_certificate.specs.Tests.{any_below}
use Rattle.conley_certificate.specs.Problem.{Problem, IsProblem, cell_count, part_at, flow, Below, cell_complex}
use Rattle.conley_certificate_file.specs.Certificate.{Certificate, Fits}
use Rattle.conley_certificate.specs.Certificate.{set_count, generator_count, set_of, base_of, first_cell, morse_complex, maps_of}
use Rattle.conley_certificate.specs.Analysis.{IsAnalysis}
use Rattle.conley_certificate.specs.Reach.{reaches, recurs, least_of, has_two_parts}
use Rattle.conley_certificate.specs.Values.{place_of, is_one_part, is_named, is_cover}
use Rattle.conley_certificate.proofs.TestLemmas.{true_or_false, never, both, not-is_true, cond-true, cond-false, any_below-at, any_below-some, none-any_below, is_listed-Contains, Contains-is_listed}
use Rattle.conley_certificate.proofs.SortedLemmas.{members, Contains-members, members-Contains, members-ascend, pairs, Contains-pairs, pairs-Contains, pairs-ascend, tabulate, length-tabulate, tabulate-at}
use Rattle.conley_certificate.proofs.ReachLemmas.{part_cell, cell_part, reaches-Below, AreRecurrent-recurs, share_recurrent, reached_cell, least-recurrent, least-most}
use Rattle.conley_certificate.proofs.FitsLemmas.{one_set}
use Rattle.conley_certificate.proofs.SideLemmas.{matrix_is, phi_is, psi_is, gamma_is, gamma2_is, square_is, phi_have_is, phi_want_is, psi_have_is, psi_want_is, gamma_have_is, gamma_want_is, gamma2_have_is, gamma2_want_is}
use Rattle.conley_certificate.proofs.SetLemmas as sets
use Rattle.conley_certificate.proofs.SetLemmas.{AreWantedClasses}
use Rattle.conley_certificate.proofs.ClassLemmas.{two_parts_count, part_critical, part_regular, counted}
use Rattle.conley_certificate.proofs.LawLemmas.{LawsKept}
use Rattle.conley_certificate.proofs.OrderLemmas.{cover_same, listed-Contains, Contains-listed, is_lower, lower_order, is_cover-IsCover, IsCover-is_cover}
use Rattle.conley_algebra.proofs.MatrixLemmas.{same_within}
use Rattle.conley_certificate.proofs.WithinLemmas.{entry_within, zero-is_matrix}

module _ (P : Problem) (ok : IsProblem P) (C : Certificate) (fits : Fits P.scalars P.complex C) (kept : LawsKept P C) where
  are : AreWantedClasses P ok C fits
  are = sets.kept-classes P ok C fits kept.sets

  -- the generators with their matrix
  strict_entry : (h g : ℕ) → entry C.matrix h g ≢ 0 → (set_of C h ≢ set_of C g) × (reaches P (base_of C g) (base_of C h) ≡ true)
  strict_entry h g some =
      let in_size = entry_within (generator_count C) (generator_count C) (entry C.matrix) (matrix_is P ok C fits) h g some in
      let parts = both (not (set_of C h == set_of C g)) (reaches P (base_of C g) (base_of C h)) (kept.strict h g in_size.0 in_size.1 some) in
      (eqb-false _ _ (not-is_true (set_of C h == set_of C g) parts.0), parts.1)

  complex : IsGradedComplex P.scalars (Below P) (morse_complex C)
  complex = record {
    matrix = matrix_is P ok C fits;
    squares = same_within (generator_count C) (generator_count C) _ _ (square_is P ok C fits)
        (zero-is_matrix ok.scalars (generator_count C) (generator_count C)) kept.boundary;
    one_down = λ h g some.
        let in_size = entry_within (generator_count C) (generator_count C) (entry C.matrix) (matrix_is P ok C fits) h g some in
        eqb-true _ _ (kept.matrix_degree h g in_size.0 in_size.1 some);
    down = λ h g some. reaches-Below P ok (base_of C g) (base_of C h) (strict_entry h g some).1;
  }

  strict : IsStrict (Below P) (morse_complex C)
  strict h g some back =
      let in_size = entry_within (generator_count C) (generator_count C) (entry C.matrix) (matrix_is P ok C fits) h g some in
      let s = strict_entry h g some in
      let there = reaches-Below P ok (base_of C g) (base_of C h) s.1 in
      let at_h = sets.first_at P ok C fits (set_of C h) (kept.names h in_size.0) in
      let at_g = sets.first_at P ok C fits (set_of C g) (kept.names g in_size.1) in
      s.0 (one_set P ok C fits (set_of C h) (set_of C g) (base_of C g) (
        kept.names h in_size.0,
        (are.classes (set_of C h) (base_of C h) (base_of C g) at_h).1 (record { there = back; back = there }),
      ) at_g)

  equivalence : IsGradedEquivalence P.scalars (Below P) (cell_complex P) (morse_complex C) (maps_of C)
  equivalence =
      let n = cell_count P in
      let r = generator_count C in
      let f_is = phi_is P ok C fits in
      let b_is = psi_is P ok C fits in
      let h_is = gamma_is P ok C fits in
      let k_is = gamma2_is P ok C fits in
      record {
        phi_matrix = f_is;
        psi_matrix = b_is;
        gamma_matrix = h_is;
        gamma2_matrix = k_is;
        phi_down = λ x g some. (let w = entry_within n r (entry C.phi) f_is x g some in (
          eqb-true _ _ (kept.phi_degree x g w.0 w.1 some),
          reaches-Below P ok (base_of C g) x (kept.phi_down x g w.0 w.1 some),
        ));
        psi_down = λ g x some. (let w = entry_within r n (entry C.psi) b_is g x some in (
          eqb-true _ _ (kept.psi_degree g x w.0 w.1 some),
          reaches-Below P ok x (base_of C g) (kept.psi_down g x w.0 w.1 some),
        ));
        gamma_down = λ y x some. (let w = entry_within n n (entry C.gamma) h_is y x some in
            (eqb-true _ _ (kept.gamma_degree y x w.0 w.1 some), reaches-Below P ok x y (kept.gamma_down y x w.0 w.1 some)));
        gamma2_down = λ h g some. (let w = entry_within r r (entry C.gamma2) k_is h g some in
            (eqb-true _ _ (kept.gamma2_degree h g w.0 w.1 some), reaches-Below P ok (base_of C g) (base_of C h) (kept.gamma2_down h g w.0 w.1 some)));
        phi_commutes = same_within n r _ _ (phi_have_is P ok C fits) (phi_want_is P ok C fits) kept.phi_commutes;
        psi_commutes = same_within r n _ _ (psi_have_is P ok C fits) (psi_want_is P ok C fits) kept.psi_commutes;
        phi_psi = same_within n n _ _ (gamma_have_is P ok C fits) (gamma_want_is P ok C fits) kept.phi_psi;
        psi_phi = same_within r r _ _ (gamma2_have_is P ok C fits) (gamma2_want_is P ok C fits) kept.psi_phi;
      }

  connection : IsConnection P.scalars (Below P) (cell_complex P) (morse_complex C) (maps_of C)
  connection = record { complex = complex; strict = strict; equivalence = equivalence }

  -- a set whose class has one part is that part
  one_part : (x i : ℕ) → IsAt C.morse x i → has_two_parts P x ≡ false → is_one_part P C i ≡ true
  one_part x i at one = not_from_false (any_below (cell_count P) outside) (none-any_below (cell_count P) outside
      (λ y y_below. not_from_true (agrees y) (agree y y_below))) where
        agrees : ℕ → Bool
        agrees y = if is_listed (set_at C.morse i) y then part_at P y == part_at P (first_cell C i) else not (part_at P y == part_at P (first_cell C i))

        outside : ℕ → Bool
        outside y = not (agrees y)

        first_recurs : AreRecurrent (StepOf (flow P)) x (first_cell C i)
        first_recurs = (are.classes i x (first_cell C i) at).0 (sets.first_at P ok C fits i at.0).1

        part_of_class : (y : ℕ) → y < cell_count P → AreRecurrent (StepOf (flow P)) x y → part_at P y ≡ part_at P x
        part_of_class y y_below r = elim (cases_eq (part_at P y) (part_at P x)) [
          | inl same ↦ same
          | inr differ ↦ never (has_two_parts P x) (any_below-at (cell_count P) (λ z. recurs P x z && not (part_at P z == part_at P x)) y y_below
              (and_from (recurs P x y) (not (part_at P y == part_at P x)) (AreRecurrent-recurs P ok x y r)
              (not_from_false (part_at P y == part_at P x) (ne_eqb _ _ differ)))) one
        ]

        first_part : part_at P (first_cell C i) ≡ part_at P x
        first_part = part_of_class (first_cell C i) (sets.at_cell P ok C fits (first_cell C i) i (sets.first_at P ok C fits i at.0)) first_recurs

        agree : (y : ℕ) → y < cell_count P → agrees y ≡ true
        agree y y_below = elim (true_or_false (is_listed (set_at C.morse i) y)) [
          | inl inside ↦
              cond-true (is_listed (set_at C.morse i) y) (part_at P y == part_at P (first_cell C i)) (not (part_at P y == part_at P (first_cell C i))) inside
              ∙ eq-eqb _ _ (part_of_class y y_below ((are.classes i x y at).0 (is_listed-Contains (set_at C.morse i) y inside)) ∙ sym first_part)
          | inr out ↦
              cond-false (is_listed (set_at C.morse i) y) (part_at P y == part_at P (first_cell C i)) (not (part_at P y == part_at P (first_cell C i))) out
              ∙ not_from_false (part_at P y == part_at P (first_cell C i)) (ne_eqb _ _ (λ same.
              let share : ShareAPart (flow P) x y = (cell_part P ok x (sets.at_cell P ok C fits x i at), (cell_part P ok y y_below, same ∙ first_part)) in
              never (is_listed (set_at C.morse i) y) (Contains-is_listed (set_at C.morse i) y ((are.classes i x y at).1 (share_recurrent P ok x y share))) out))
        ]

  -- it has the cells of that part
  own_part : (x i : ℕ) → IsAt C.morse x i → has_two_parts P x ≡ false → AreCellsOf P.part_of (part_at P x) (set_at C.morse i)
  own_part x i at one = record {
    same = λ y. (
      (λ c.
          let y_below = sets.at_cell P ok C fits y i (at.0, c) in (
            cell_part P ok y y_below,
            elim (cases_eq (part_at P y) (part_at P x)) [
              | inl same ↦ same
              | inr differ ↦ never (has_two_parts P x) (any_below-at (cell_count P) (λ z. recurs P x z && not (part_at P z == part_at P x)) y y_below
                  (and_from (recurs P x y) (not (part_at P y == part_at P x)) (AreRecurrent-recurs P ok x y ((are.classes i x y at).0 c))
                  (not_from_false (part_at P y == part_at P x) (ne_eqb _ _ differ)))) one
            ],
          )),
      (λ p. (are.classes i x y at).1 (share_recurrent P ok x y (cell_part P ok x (sets.at_cell P ok C fits x i at), p))),
    );
  }

  -- the cells of the sets are those whose class counts
  at_counts : (x i : ℕ) → IsAt C.morse x i → Counts (StepOf (flow P)) (flow P) x
  at_counts x i at = elim (true_or_false (has_two_parts P x)) [
    | inl two ↦ two_parts_count P ok x two
    | inr one ↦ inr (λ regular.
        let named : is_named C i ≡ true = elim (true_or_false (is_named C i)) [
          | inl named ↦ named
          | inr unnamed ↦ never (is_one_part P C i && not (is_named C i)) (and_from (is_one_part P C i) (not (is_named C i)) (one_part x i at one)
              (not_from_false (is_named C i) unnamed)) (kept.named i at.0)
        ] in
        let found = any_below-some (generator_count C) (λ g. set_of C g == i) named in
        let g = found.0 in
        let same : first_cell C i ≡ base_of C g = ap (first_cell C) (sym (eqb-true _ _ found.1.1)) in
        let r : AreRecurrent (StepOf (flow P)) x (base_of C g) = subst (AreRecurrent (StepOf (flow P)) x) same
        ((are.classes i x (first_cell C i) at).0 (sets.first_at P ok C fits i at.0).1) in
        part_critical P ok (morse_complex C) (maps_of C) connection x (sets.at_cell P ok C fits x i at) one (set_at C.morse i) (own_part x i at one) g
        found.1.0 (r.there, r.back) (regular (set_at C.morse i) (own_part x i at one)))
  ]

  counts_at : (x : ℕ) → x < cell_count P → Counts (StepOf (flow P)) (flow P) x → (i : ℕ) × IsAt C.morse x i
  counts_at x cell (inl two) =
      let r : AreRecurrent (StepOf (flow P)) x two.0 = two.1 in
      let y_below : two.0 < cell_count P = reached_cell P ok x two.0 cell r.there in
      (are.wanted x cell).1 (or_left (has_two_parts P x) (not (place_of C (least_of P x) == 0))
      (any_below-at (cell_count P) (λ z. recurs P x z && not (part_at P z == part_at P x)) two.0 y_below
      (and_from (recurs P x two.0) (not (part_at P two.0 == part_at P x)) (AreRecurrent-recurs P ok x two.0 r)
      (not_from_false (part_at P two.0 == part_at P x) (ne_eqb _ _ (λ same. two.2 (cell_part P ok x cell, (cell_part P ok two.0 y_below, same))))))))
  counts_at x cell (inr critical) = elim (sets.somewhere P ok C fits x) [
    | inl at ↦ at
    | inr nowhere ↦ elim (true_or_false (has_two_parts P x)) [
      | inl two ↦ (are.wanted x cell).1 (or_left (has_two_parts P x) (not (place_of C (least_of P x) == 0)) two)
      | inr one ↦ absurd (critical (λ cells own. part_regular P ok (morse_complex C) (maps_of C) connection x cell one cells own (λ g g_below grade.
          nowhere (set_of C g) (
            kept.names g g_below,
            (are.classes (set_of C g) (base_of C g) x
                (sets.first_at P ok C fits (set_of C g) (kept.names g g_below))).1 (record { there = grade.1; back = grade.0 }),
          ))))
    ]
  ]

  counting : AreCountingClasses (flow P) C.morse
  counting = record {
    non_empty = λ i below. fits.non_empty i [] below;
    classes = are.classes;
    once = one_set P ok C fits;
    all = λ x. ((λ at. (cell_part P ok x (sets.at_cell P ok C fits x at.0 at.1), at_counts x at.0 at.1)), (λ h. counts_at x (part_cell P ok x h.0) h.1));
  }

  -- the same sets, each ascending
  ascending : List (List ℕ)
  ascending = tabulate (set_count C) (λ i. members (cell_count P) (is_listed (set_at C.morse i)))

  ascending-count : length ascending ≡ set_count C
  unfolding ascending
  ascending-count = length-tabulate (set_count C) (λ i. members (cell_count P) (is_listed (set_at C.morse i)))

  ascending-at : (i : ℕ) → i < set_count C → set_at ascending i ≡ members (cell_count P) (is_listed (set_at C.morse i))
  unfolding ascending
  ascending-at i below = tabulate-at (set_count C) (λ i. members (cell_count P) (is_listed (set_at C.morse i))) i below

  into : (i x : ℕ) → i < set_count C → Contains (set_at C.morse i) x → Contains (set_at ascending i) x
  into i x below c =
      subst (λ (xs : List ℕ). Contains xs x) (sym (ascending-at i below))
      (members-Contains (cell_count P) (is_listed (set_at C.morse i)) x (sets.at_cell P ok C fits x i (below, c)) (Contains-is_listed (set_at C.morse i) x c))

  back_from : (i x : ℕ) → i < set_count C → Contains (set_at ascending i) x → Contains (set_at C.morse i) x
  back_from i x below c =
      is_listed-Contains (set_at C.morse i) x (Contains-members (cell_count P) (is_listed (set_at C.morse i)) x
      (subst (λ (xs : List ℕ). Contains xs x) (ascending-at i below) c)).1

  same_sets : (i x : ℕ) → Contains (set_at C.morse i) x ↔ Contains (set_at ascending i) x
  same_sets i x = elim (cases_lt i (set_count C)) [
    | inl below ↦ (into i x below, back_from i x below)
    | inr beyond ↦
        let none : set_at C.morse i ≡ [] = get_or-eq_default C.morse [] {n = i} beyond in
        let none' : set_at ascending i ≡ [] = get_or-eq_default ascending [] {n = i} (omega (arith, beyond, ascending-count)) in
        ((λ c. Contains-none x (subst (λ (xs : List ℕ). Contains xs x) none c)), (λ c. Contains-none x (subst (λ (xs : List ℕ). Contains xs x) none' c)))
  ]

  here : (x i : ℕ) → IsAt ascending x i → IsAt C.morse x i
  here x i at = (omega (arith, at.0, ascending-count), (same_sets i x).1 at.1)

  there : (x i : ℕ) → IsAt C.morse x i → IsAt ascending x i
  there x i at = (omega (arith, at.0, ascending-count), (same_sets i x).0 at.1)

  first_there : (i : ℕ) → i < set_count C → IsAt ascending (first_cell C i) i
  first_there i below = there (first_cell C i) i (sets.first_at P ok C fits i below)

  not_empty : (xs : List ℕ) (x : ℕ) → Contains xs x → xs ≢ []
  not_empty xs x c none = Contains-none x (subst (λ (ys : List ℕ). Contains ys x) none c)

  counting_ascending : AreCountingClasses (flow P) ascending
  counting_ascending = record {
    non_empty = λ i below. not_empty (set_at ascending i) (first_cell C i) (first_there i (omega (arith, below, ascending-count))).1;
    classes = λ i x y at. (
      (λ c. (are.classes i x y (here x i at)).0 ((same_sets i y).1 c)),
      (λ r. (same_sets i y).0 ((are.classes i x y (here x i at)).1 r)),
    );
    once = λ i j x at_i at_j. one_set P ok C fits i j x (here x i at_i) (here x j at_j);
    all = λ x. (
      (λ at. (counting.all x).0 (at.0, here x at.0 at.1)),
      (λ h. let at = (counting.all x).1 h in (at.0, there x at.0 at.1)),
    );
  }

  lower_ascending : IsReachOrder (flow P) ascending (is_lower P ok C fits are.classes)
  lower_ascending i j i_below j_below =
      let order = lower_order P ok C fits are.classes i j (omega (arith, i_below, ascending-count)) (omega (arith, j_below, ascending-count)) in (
        (λ h. let r = order.0 h in (r.0, (r.1.0, r.1.1, (same_sets i r.1.0).0 r.1.2, (same_sets j r.1.1).0 r.1.3, r.1.4))),
        (λ h. order.1 (h.0, (h.1.0, h.1.1, (same_sets i h.1.0).1 h.1.2, (same_sets j h.1.1).1 h.1.3, h.1.4))),
      )

  ascends : (i : ℕ) → i < length ascending → IsStrictlyIncreasing (set_at ascending i)
  ascends i below = subst IsStrictlyIncreasing (sym (ascending-at i (omega (arith, below, ascending-count))))
      (members-ascend (cell_count P) (is_listed (set_at C.morse i)))

  -- the first of a list is its least
  first_least : (i x : ℕ) → i < length ascending → Contains (set_at ascending i) x → slice_index (set_at ascending i) 0 ≤ x
  first_least i x below c =
      let at = place_in (set_at ascending i) x c in
      omega (arith, at.2, at_least (set_at ascending i) (ascends i below) 0 at.0 (λ less. absurd (omega arith)) at.1)

  in_order : (i j : ℕ) → i < j → j < length ascending → slice_index (set_at ascending i) 0 < slice_index (set_at ascending j) 0
  in_order i j less below =
      let i_below : i < set_count C = omega (arith, below, ascending-count) in
      let j_below : j < set_count C = omega (arith, below, ascending-count) in
      let at_i = sets.first_at P ok C fits i i_below in
      let at_j = sets.first_at P ok C fits j j_below in
      let up = are.up i j less j_below in
      let least_i : Contains (set_at ascending i) (least_of P (first_cell C i)) =
      (same_sets i (least_of P (first_cell C i))).0 ((are.classes i (first_cell C i) (least_of P (first_cell C i)) at_i).1
      (recurrent_back (StepOf (flow P)) (flow P) (least_of P (first_cell C i)) (first_cell C i) (least-recurrent P ok (first_cell C i)))) in
      let most = first_least i (least_of P (first_cell C i)) (omega (arith, less, below)) least_i in
      let b = slice_index (set_at ascending j) 0 in
      let some_j = (first_there j j_below).1 in
      let b_at : Contains (set_at ascending j) b = Contains-get_or (set_at ascending j) 0 0 (omega (arith, some_j.1)) in
      let r = (are.classes j (first_cell C j) b at_j).0 ((same_sets j b).1 b_at) in
      let least_b = least-most P ok (first_cell C j) b (recurrent_back (StepOf (flow P)) (flow P) (first_cell C j) b r) in
      omega (arith, up, most, least_b)

  finest : IsFinestDecomposition P.scalars P.complex P.part_of ascending
  finest = record {
    morse = (
      is_lower P ok C fits are.classes,
      classes_are_morse (flow P) ok.flow ascending counting_ascending (is_lower P ok C fits are.classes)
          lower_ascending,
    );
    finest = classes_are_finest (flow P) ok.flow ascending counting_ascending;
    classes = counting_ascending;
    ascending = ascends;
    in_order = in_order;
  }

  index : (i : ℕ) → i < length ascending → AreConleyNumbers P.scalars P.complex (set_at ascending i) (set_at C.index i)
  index i below =
      let i_below : i < set_count C = omega (arith, below, ascending-count) in
      record {
        levels_count = fits.index_levels i [] (omega (arith, i_below, fits.index_sets));
        basis = λ k k_below.
            let c = counted P ok C connection fits are.classes kept.names i i_below (set_at ascending i) (same_sets i) k in
            subst (λ (r : ℕ). (cycles : ℕ → Vector) × IsConleyBasis P.scalars P.complex (set_at ascending i) k r cycles) (sym (kept.index i k i_below k_below))
            c;
      }

  covers : List (ℕ × ℕ)
  covers = pairs (set_count C) (is_cover P C)

  covers_are : AreCovers (flow P) ascending covers
  unfolding covers
  covers_are = record {
    covers = λ p q. (
      (λ c. let h = Contains-pairs (set_count C) (is_cover P C) p q c in cover_same (flow P) C.morse ascending (sym ascending-count) same_sets p q
          (is_cover-IsCover P ok C fits are.classes p q h.0 h.1 h.2)),
      (λ cover. let at = cover_same (flow P) ascending C.morse ascending-count (λ i x. ((same_sets i x).1, (same_sets i x).0)) p q cover in
          pairs-Contains (set_count C) (is_cover P C) p q at.upper at.lower (IsCover-is_cover P ok C fits are.classes p q at)),
    );
    ascending = pairs-ascend (set_count C) (is_cover P C);
  }

  order_sets : (p q : ℕ) → Contains C.order (p, q) → (p < set_count C) × (q < set_count C)
  order_sets p q c = All-contains (λ (pair : ℕ × ℕ). (pair.0 < set_count C) × (pair.1 < set_count C)) C.order (p, q) fits.order_sets c

  same_order : (p q : ℕ) → Contains C.order (p, q) ↔ Contains covers (p, q)
  unfolding covers
  same_order p q = (
    (λ c. let b = order_sets p q c in pairs-Contains (set_count C) (is_cover P C) p q b.0 b.1 (sym (kept.order p q b.0 b.1) ∙ Contains-listed C.order p q c)),
    (λ c. let h = Contains-pairs (set_count C) (is_cover P C) p q c in listed-Contains C.order p q (kept.order p q h.0 h.1 ∙ h.2)),
  )

  pub LawsKept-IsAnalysis : IsAnalysis P C
  LawsKept-IsAnalysis = record {
    graph = record {
      sets = ascending;
      covers = covers;
      graph = record { sets = finest; numbers_count = fits.index_sets ∙ sym ascending-count; numbers = index; order = covers_are };
      sets_count = sym ascending-count;
      same_sets = same_sets;
      same_order = same_order;
    };
    generators = λ g below. (kept.names g below, kept.dims g below);
    connection = connection;
  }
