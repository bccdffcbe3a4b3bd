-- An analysis keeps all laws.
use Rattle.std.proofs.Common.{◌≡◌, ◌≢◌, inl, inr, ℕ, ◌<◌, ◌≤◌, ◌==◌, ◌&&◌, Bool, true, false, sym, ◌∙◌, arith, subst}
use Rattle.std.specs.Prelude.{Contains, ◌↔◌, not, if◌then◌else◌, slice_index}
use Rattle.std.proofs.lemmas.Bool.{eqb-true, eq-eqb, ne_eqb, eqb-false, and_from, not_from_false, or_right}
use Rattle.std.proofs.lemmas.List.Elements.{Contains-get_or}
use Rattle.conley_chains.specs.Matrix.{entry}
use Rattle.conley_walk.specs.Walk.{Reaches, AreRecurrent}
use Rattle.conley_walk.proofs.WalkLemmas.{reaches_itself}
use Rattle.conley_lists.proofs.ListLemmas.{place_of as place_in, at_least}
use Rattle.conley_lists.specs.Lists.{is_listed}
use Rattle.conley_lists.proofs.TestLemmas.{same_tests}
use Rattle.conley_transitions.specs.Flow.{StepOf, Counts}
use Rattle.conley_transitions.specs.Morse.{set_at, IsAt}
use Rattle.conley_transitions.proofs.EssentialLemmas.{recurrent_back}
use Rattle.conley_graph.specs.Covers.{IsCover}
use Rattle.conley_graph.specs.Decomposition.{IsFinestDecomposition}
use Rattle.conley_certificate.specs.Tests.{any_below}
use Rattle.conley_certificate.specs.Problem.{Problem, IsProblem, cell_count, part_at, flow}
use Rattle.conley_certificate_file.specs.Certificate.{Certificate, Fits}
use Rattle.conley_certificate.specs.Certificate.{set_count, generator_count, set_of, base_of, first_cell, index_at, morse_complex, maps_of}
use Rattle.conley_certificate.specs.Analysis.{IsAnalysis}
use Rattle.conley_certificate.specs.Reach.{reaches, recurs, least_of, has_two_parts}
use Rattle.conley_certificate.specs.Values.{place_of, is_one_part, is_named, is_cover, is_listed_pair}
use Rattle.conley_certificate.proofs.TestLemmas.{true_or_false, never, both, either, not-is_true, not-is_false, cond-true, any_below-none, none-any_below, Contains-is_listed}
use Rattle.conley_certificate.proofs.ReachLemmas.{cell_part, Below-reaches, recurs-AreRecurrent, least-recurrent, least-most}
use Rattle.conley_certificate.proofs.SetLemmas as sets
use Rattle.conley_certificate.proofs.SetLemmas.{AreWantedClasses}
use Rattle.conley_certificate.proofs.ClassLemmas.{two_parts_count, part_regular, only_count, grade_set}
use Rattle.conley_certificate.proofs.LawLemmas.{LawsKept}
use Rattle.conley_certificate.proofs.OrderLemmas.{cover_same, listed-Contains, Contains-listed, is_cover-IsCover, IsCover-is_cover}

module _ (P : Problem) (ok : IsProblem P) (C : Certificate) (fits : Fits P.scalars P.complex C) (given : IsAnalysis P C) where
  -- the lists of the graph
  finest : IsFinestDecomposition P.scalars P.complex P.part_of given.graph.sets
  finest = given.graph.graph.sets

  there : (x i : ℕ) → IsAt C.morse x i → IsAt given.graph.sets x i
  there x i at = (omega (arith, at.0, given.graph.sets_count), (given.graph.same_sets i x).0 at.1)

  here : (x i : ℕ) → IsAt given.graph.sets x i → IsAt C.morse x i
  here x i at = (omega (arith, at.0, given.graph.sets_count), (given.graph.same_sets i x).1 at.1)

  classes : (i x y : ℕ) → IsAt C.morse x i → Contains (set_at C.morse i) y ↔ AreRecurrent (StepOf (flow P)) x y
  unfolding finest
  classes i x y at =
      let class = finest.classes.classes i x y (there x i at) in
      ((λ c. class.0 ((given.graph.same_sets i y).0 c)), (λ r. (given.graph.same_sets i y).1 (class.1 r)))

  at_counts : (x i : ℕ) → IsAt C.morse x i → Counts (StepOf (flow P)) (flow P) x
  unfolding finest
  at_counts x i at = ((finest.classes.all x).0 (i, there x i at)).1

  counts_at : (x : ℕ) → x < cell_count P → Counts (StepOf (flow P)) (flow P) x → (i : ℕ) × IsAt C.morse x i
  unfolding finest
  counts_at x cell h = (let at = (finest.classes.all x).1 (cell_part P ok x cell, h) in (at.0, here x at.0 at.1))

  -- the first cell of a list of the graph is its least
  first_of : ℕ → ℕ
  first_of i = slice_index (set_at given.graph.sets i) 0

  first_least : (i x : ℕ) → IsAt C.morse x i → first_of i ≤ x
  unfolding first_of finest
  first_least i x at =
      let t = there x i at in
      let stands = place_in (set_at given.graph.sets i) x t.1 in
      omega (arith, stands.2, at_least (set_at given.graph.sets i) (finest.ascending i t.0) 0 stands.0 (λ less. absurd (omega arith)) stands.1)

  first_in : (i : ℕ) → i < set_count C → IsAt C.morse (first_of i) i
  unfolding first_of
  first_in i below =
      let t = there (first_cell C i) i (sets.first_at P ok C fits i below) in
      let some = t.1 in
      here (slice_index (set_at given.graph.sets i) 0) i (t.0, Contains-get_or (set_at given.graph.sets i) 0 0 (omega (arith, some.1)))

  are : AreWantedClasses P ok C fits
  unfolding finest first_of
  are = record {
    classes = classes;
    up = λ i j less below.
        let i_below : i < set_count C = omega (arith, less, below) in
        let at_i = sets.first_at P ok C fits i i_below in
        let at_j = sets.first_at P ok C fits j below in
        let up = finest.in_order i j less (omega (arith, below, given.graph.sets_count)) in
        let first = first_in i i_below in
        let most = least-most P ok (first_cell C i) (first_of i) (recurrent_back (StepOf (flow P)) (flow P) (first_cell C i) (first_of i)
        ((classes i (first_cell C i) (first_of i) at_i).0 first.1)) in
        let in_j : IsAt C.morse (least_of P (first_cell C j)) j = (
          below,
          (classes j (first_cell C j) (least_of P (first_cell C j)) at_j).1 (recurrent_back (StepOf (flow P)) (flow P) (least_of P (first_cell C j))
              (first_cell C j) (least-recurrent P ok (first_cell C j))),
        ) in
        let least = first_least j (least_of P (first_cell C j)) in_j in
        omega (arith, up, most, least);
    wanted = λ x cell. (
      λ at.
          let r = recurrent_back (StepOf (flow P)) (flow P) (least_of P x) x (least-recurrent P ok x) in
          let at_least : IsAt C.morse (least_of P x) at.0 = (at.1.0, (classes at.0 x (least_of P x) at.1).1 r) in
          or_right (has_two_parts P x) (not (place_of C (least_of P x) == 0)) (not_from_false (place_of C (least_of P x) == 0) (ne_eqb _ _ (λ none.
          (let placed = sets.place-at P ok C fits (least_of P x) at.0 at_least in omega (arith, none, placed))))),
      λ wanted. elim (either (has_two_parts P x) (not (place_of C (least_of P x) == 0)) wanted) [
        | inl two ↦ counts_at x cell (two_parts_count P ok x two)
        | inr placed ↦
            let at = sets.place-some P ok C fits (least_of P x) (eqb-false _ _ (not-is_true (place_of C (least_of P x) == 0) placed)) in
            (at.0, (at.1.0, (classes at.0 (least_of P x) x at.1).1 (least-recurrent P ok x)))
      ],
    );
  }

  covers : (p q : ℕ) → Contains given.graph.covers (p, q) ↔ IsCover (flow P) given.graph.sets p q
  covers p q = given.graph.graph.order.covers p q

  here_cover : (p q : ℕ) → IsCover (flow P) given.graph.sets p q → IsCover (flow P) C.morse p q
  here_cover p q cover = cover_same (flow P) given.graph.sets C.morse (sym given.graph.sets_count)
      (λ i x. ((given.graph.same_sets i x).1, (given.graph.same_sets i x).0)) p q cover

  there_cover : (p q : ℕ) → IsCover (flow P) C.morse p q → IsCover (flow P) given.graph.sets p q
  there_cover p q cover = cover_same (flow P) C.morse given.graph.sets given.graph.sets_count given.graph.same_sets p q cover

  order : (p q : ℕ) → p < set_count C → q < set_count C → is_listed_pair C p q ≡ is_cover P C p q
  order p q p_below q_below = same_tests (is_listed_pair C p q) (is_cover P C p q)
      (λ listed. IsCover-is_cover P ok C fits classes p q
      (here_cover p q ((covers p q).0 ((given.graph.same_order p q).0 (listed-Contains C.order p q listed)))))
      (λ cover. Contains-listed C.order p q ((given.graph.same_order p q).1 ((covers p q).1
      (there_cover p q (is_cover-IsCover P ok C fits classes p q p_below q_below cover)))))

  -- the cells of a set that is one part
  one_part : (i : ℕ) → is_one_part P C i ≡ true → (y : ℕ) → IsAt C.morse y i → part_at P y ≡ part_at P (first_cell C i)
  one_part i h y at = eqb-true _ _ (
      sym (cond-true (is_listed (set_at C.morse i) y) (part_at P y == part_at P (first_cell C i)) (not (part_at P y == part_at P (first_cell C i)))
      (Contains-is_listed (set_at C.morse i) y at.1))
      ∙ not-is_false (agrees y) (any_below-none (cell_count P) (λ x. not (agrees x)) (not-is_true (any_below (cell_count P) (λ x. not (agrees x))) h) y
      (sets.at_cell P ok C fits y i at)))
    where
      agrees : ℕ → Bool
      agrees y = if is_listed (set_at C.morse i) y then part_at P y == part_at P (first_cell C i) else not (part_at P y == part_at P (first_cell C i))

  one_part_one : (i : ℕ) → i < set_count C → is_one_part P C i ≡ true → has_two_parts P (first_cell C i) ≡ false
  one_part_one i below h = none-any_below (cell_count P) (λ z. recurs P (first_cell C i) z && not (part_at P z == part_at P (first_cell C i)))
      (λ z z_below. elim (true_or_false (recurs P (first_cell C i) z && not (part_at P z == part_at P (first_cell C i)))) [
        | inr none ↦ none
        | inl some ↦
            let parts = both (recurs P (first_cell C i) z) (not (part_at P z == part_at P (first_cell C i))) some in
            let z_at : IsAt C.morse z i = (
              below,
              (classes i (first_cell C i) z (sets.first_at P ok C fits i below)).1
                  (recurs-AreRecurrent P ok (first_cell C i) z parts.0),
            ) in
            absurd (eqb-false _ _ (not-is_true (part_at P z == part_at P (first_cell C i)) parts.1) (one_part i h z z_at))
      ])

  named : (i : ℕ) → i < set_count C → (is_one_part P C i && not (is_named C i)) ≡ false
  named i below = elim (true_or_false (is_one_part P C i && not (is_named C i))) [
    | inr none ↦ none
    | inl some ↦
        let parts = both (is_one_part P C i) (not (is_named C i)) some in
        let at = sets.first_at P ok C fits i below in
        let x = first_cell C i in
        let one = one_part_one i below parts.0 in
        elim (at_counts x i at) [
          | inl two ↦
              let r : AreRecurrent (StepOf (flow P)) x two.0 = two.1 in
              let y_at : IsAt C.morse two.0 i = (below, (classes i x two.0 at).1 r) in
              absurd (two.2 (
                cell_part P ok x (sets.at_cell P ok C fits x i at),
                (
                  cell_part P ok two.0 (sets.at_cell P ok C fits two.0 i y_at),
                  one_part i parts.0 two.0 y_at,
                ),
              ))
          | inr critical ↦ absurd (critical (λ cells own. part_regular P ok (morse_complex C) (maps_of C) given.connection x (sets.at_cell P ok C fits x i at)
              one cells own (λ g g_below grade.
              never (set_of C g == i) (eq-eqb _ _ (grade_set P ok C given.connection fits classes (λ h h_below. (given.generators h h_below).0) i below g
              g_below grade))
              (any_below-none (generator_count C) (λ g. set_of C g == i) (not-is_true (is_named C i) parts.1) g g_below))))
        ]
  ]

  strict : (h g : ℕ) → h < generator_count C → g < generator_count C → entry C.matrix h g ≢ 0
      → (not (set_of C h == set_of C g) && reaches P (base_of C g) (base_of C h)) ≡ true
  strict h g h_below g_below some = and_from (not (set_of C h == set_of C g)) (reaches P (base_of C g) (base_of C h))
      (not_from_false (set_of C h == set_of C g) (ne_eqb _ _ (λ same.
      given.connection.strict h g some (subst (λ i. Reaches (StepOf (flow P)) (base_of C h) (first_cell C i)) same (reaches_itself (base_of C h))))))
      (Below-reaches P ok (base_of C g) (base_of C h) (given.connection.complex.down h g some))

  pub IsAnalysis-LawsKept : LawsKept P C
  IsAnalysis-LawsKept = record {
    sets = sets.classes-kept P ok C fits are;
    order = order;
    names = λ g below. (given.generators g below).0;
    dims = λ g below. (given.generators g below).1;
    index = λ i k i_below k_below.
        let basis = (given.graph.graph.numbers i (omega (arith, i_below, given.graph.sets_count))).basis k k_below in
        only_count P ok C given.connection fits classes (λ h h_below. (given.generators h h_below).0) i i_below (set_at given.graph.sets i)
        (given.graph.same_sets i) k (index_at C i k) basis.0 basis.1;
    named = named;
    strict = strict;
    matrix_degree = λ h g h_below g_below some. eq-eqb _ _ (given.connection.complex.one_down h g some);
    phi_degree = λ x g x_below g_below some. eq-eqb _ _ (given.connection.equivalence.phi_down x g some).0;
    psi_degree = λ g x g_below x_below some. eq-eqb _ _ (given.connection.equivalence.psi_down g x some).0;
    gamma_degree = λ y x y_below x_below some. eq-eqb _ _ (given.connection.equivalence.gamma_down y x some).0;
    gamma2_degree = λ h g h_below g_below some. eq-eqb _ _ (given.connection.equivalence.gamma2_down h g some).0;
    phi_down = λ x g x_below g_below some. Below-reaches P ok (base_of C g) x (given.connection.equivalence.phi_down x g some).1;
    psi_down = λ g x g_below x_below some. Below-reaches P ok x (base_of C g) (given.connection.equivalence.psi_down g x some).1;
    gamma_down = λ y x y_below x_below some. Below-reaches P ok x y (given.connection.equivalence.gamma_down y x some).1;
    gamma2_down = λ h g h_below g_below some. Below-reaches P ok (base_of C g) (base_of C h) (given.connection.equivalence.gamma2_down h g some).1;
    boundary = λ h g h_below g_below. given.connection.complex.squares h g;
    phi_commutes = λ row column row_below column_below. given.connection.equivalence.phi_commutes row column;
    psi_commutes = λ row column row_below column_below. given.connection.equivalence.psi_commutes row column;
    phi_psi = λ row column row_below column_below. given.connection.equivalence.phi_psi row column;
    psi_phi = λ row column row_below column_below. given.connection.equivalence.psi_phi row column;
  }
