-- The generators of a class are as many as its homology says.
use Rattle.std.proofs.Common.{◌≡◌, inl, inr, ℕ, ◌<◌, ◌==◌, ◌&&◌, Bool, List, true, false, sym, arith, subst}
use Rattle.std.specs.Prelude.{Contains, ◌↔◌, not, slice_index}
use Rattle.std.proofs.lemmas.Bool.{cases_eq, eqb-true, eqb-false, eq-eqb, ne_eqb, and_from, not_from_false}
use Rattle.conley_lists.specs.Lists.{is_listed}
use Rattle.conley_algebra.specs.Entries.{Vector}
use Rattle.conley_algebra.specs.Listing.{IsListing}
use Rattle.conley_algebra.proofs.DimensionLemmas.{all_boundaries}
use Rattle.conley_chains.specs.Matrix.{entry}
use Rattle.conley_faces.specs.Face.{IsFace, IsInClosure, IsInMouth}
use Rattle.conley_homotopy.specs.Graded.{Generators, IsPreorder, IsGradedComplex}
use Rattle.conley_homotopy.specs.Equivalence.{Maps, IsConnection}
use Rattle.conley_homotopy.specs.Restriction.{IsClassAround}
use Rattle.conley_homotopy.proofs.RestrictionLemmas as restriction
use Rattle.conley_lefschetz.specs.Conley.{IsRegular, IsConleyBasis}
use Rattle.conley_lefschetz.proofs.ConleyLemmas.{one_length}
use Rattle.conley_mvf.specs.Partition.{AreCellsOf}
use Rattle.conley_walk.proofs.WalkLemmas.{reaches_itself, reaches_on, reaches_by_step}
use Rattle.conley_walk.specs.Walk.{AreRecurrent}
use Rattle.conley_transitions.specs.Flow.{StepOf, Counts}
use Rattle.conley_transitions.specs.Morse.{set_at, IsAt}
use Rattle.conley_certificate.specs.Problem.{Problem, IsProblem, cell_count, dim_at, part_at, flow, Below, cell_complex}
use Rattle.conley_certificate_file.specs.Certificate.{Certificate, Fits}
use Rattle.conley_certificate.specs.Certificate.{set_count, generator_count, set_of, dim_of, base_of, first_cell, morse_complex, maps_of}
use Rattle.conley_certificate.specs.Reach.{recurs, has_two_parts}
use Rattle.conley_certificate.specs.Values.{generators_at}
use Rattle.conley_certificate.specs.Counting.{generators_in, GeneratorsAreCounted}
use Rattle.conley_certificate.proofs.WithinLemmas.{boundary_is, dims_below}
use Rattle.conley_certificate.proofs.TestLemmas.{true_or_false, never, both, not-is_true, any_below-at, any_below-some, is_listed-Contains, Contains-is_listed, listing_of}
use Rattle.conley_certificate.proofs.ReachLemmas.{part_cell, cell_part, face_itself, face_cells, listed_face, recurs-AreRecurrent, AreRecurrent-recurs, share_recurrent, reached_cell}
use Rattle.conley_certificate.proofs.SortedLemmas.{members, Contains-members, members-Contains}
use Rattle.conley_certificate.proofs.FitsLemmas.{one_set}
use Rattle.conley_certificate.proofs.SetLemmas as sets

-- a listing by another name
pub listing_by : (n : ℕ) (Q R : ℕ → Type 0) (r : ℕ) (list : ℕ → ℕ) → IsListing n Q r list → ((g : ℕ) → g < n → Q g → R g) → ((g : ℕ) → g < n → R g → Q g)
    → IsListing n R r list
listing_by n Q R r list is there back = record {
  within = is.within;
  holds = λ i below. there (list i) (is.within i below) (is.holds i below);
  distinct = is.distinct;
  all = λ g below h. is.all g below (back g below h);
}

pub listing_none : (n : ℕ) (Q : ℕ → Type 0) → ((g : ℕ) → g < n → ¬ Q g) → IsListing n Q 0 (λ i. 0)
listing_none n Q none = record {
  within = λ i below. absurd (omega arith);
  holds = λ i below. absurd (omega arith);
  distinct = λ i j below. absurd (omega arith);
  all = λ g below h. absurd (none g below h);
}

module _ (P : Problem) (ok : IsProblem P) where
  pub below_preorder : IsPreorder (Below P)
  below_preorder = record { reflexive = λ a. reaches_itself a; transitive = λ a b c ab bc. reaches_on bc ab }

  pub face_below : (x y : ℕ) → IsFace P.complex.faces x y → Below P y x
  face_below x y face = reaches_by_step (inl face)

  pub cells_graded : IsGradedComplex P.scalars (Below P) (cell_complex P)
  cells_graded = record {
    matrix = boundary_is P ok;
    squares = ok.layout.complex.squares;
    one_down = ok.layout.complex.one_down;
    down = λ y x some. face_below x y (listed_face P ok x y ((ok.layout.complex.direct x y).1 some));
  }

  -- a recurrence class as a list, with its closure and mouth
  pub class_around : (x : ℕ) (cells : List ℕ) → x < cell_count P → ((y : ℕ) → Contains cells y ↔ AreRecurrent (StepOf (flow P)) x y) →
      IsClassAround (Below P) (cell_complex P) x (is_listed cells) (IsInClosure P.complex.faces cells) (IsInMouth P.complex.faces cells)
  class_around x cells cell recurrent = record {
    inside_grade = λ y h. (let r = (recurrent y).0 (is_listed-Contains cells y h) in (r.there, r.back));
    grade_inside = λ y there back. Contains-is_listed cells y ((recurrent y).1 (record { there = there; back = back }));
    inside_closure = λ y h. (
      y,
      is_listed-Contains cells y h,
      face_itself P ok y (reached_cell P ok x y cell
          ((recurrent y).0 (is_listed-Contains cells y h)).there),
    );
    closure_within = λ y c. (face_cells P ok c.0 y c.2).1;
    closure_below = λ y c. reaches_on (((recurrent c.0).0 c.1).there) (face_below c.0 y c.2);
    closure_faces = λ z y some c. (c.0, c.1, record { cell = c.2.cell; walk = reaches_on c.2.walk (reaches_by_step ((ok.layout.complex.direct y z).1 some)) });
    rest_mouth = λ y c h. (c, λ q. never (is_listed cells y) (Contains-is_listed cells y q) h);
    mouth_outside = λ y m. elim (true_or_false (is_listed cells y)) [ inl h ↦ absurd (m.1 (is_listed-Contains cells y h)) | inr h ↦ h ];
  }

-- a class of two parts counts
pub two_parts_count : (P : Problem) → IsProblem P → (x : ℕ) → has_two_parts P x ≡ true → Counts (StepOf (flow P)) (flow P) x
two_parts_count P ok x two =
    let other = any_below-some (cell_count P) (λ z. recurs P x z && not (part_at P z == part_at P x)) two in
    let parts = both (recurs P x other.0) (not (part_at P other.0 == part_at P x)) other.1.1 in
    inl (other.0, recurs-AreRecurrent P ok x other.0 parts.0, λ share. eqb-false _ _ (not-is_true (part_at P other.0 == part_at P x) parts.1) share.1.1)

module _ (P : Problem) (ok : IsProblem P) (S : Generators) (m : Maps) (connection : IsConnection P.scalars (Below P) (cell_complex P) S m) where
  -- the generator's grade is the class of x
  abbrev pub IsInGrade : ℕ → ℕ → Type 0
  IsInGrade x g = Below P (S.base g) x × Below P x (S.base g)

  -- a class as a list of cells
  module _ (x : ℕ) (cell : x < cell_count P) (cells : List ℕ) (recurrent : (y : ℕ) → Contains cells y ↔ AreRecurrent (StepOf (flow P)) x y) where
    pub cycle : ℕ → Vector
    cycle = restriction.cycle ok.scalars (below_preorder P ok) (cell_complex P) S m connection.equivalence (cells_graded P ok) connection.complex
        connection.strict x (is_listed cells)
        (IsInClosure P.complex.faces cells) (IsInMouth P.complex.faces cells) (class_around P ok x cells cell recurrent)

    pub basis : (k r : ℕ) (list : ℕ → ℕ) → IsListing (S.count) (λ g. IsInGrade x g × (S.dim g ≡ k)) r list
        → IsConleyBasis P.scalars P.complex cells k r (λ i. cycle (list i))
    unfolding cycle
    basis k r list listing =
        restriction.restricted-basis ok.scalars (below_preorder P ok) (cell_complex P) S m connection.equivalence (cells_graded P ok) connection.complex
        connection.strict x (is_listed cells)
        (IsInClosure P.complex.faces cells) (IsInMouth P.complex.faces cells) (class_around P ok x cells cell recurrent) k r list listing

    -- with a generator some cycle is no boundary, without one each is
    pub class_critical : (g : ℕ) → g < S.count → IsInGrade x g → ¬ IsRegular P.scalars P.complex cells
    class_critical g below grade regular =
        restriction.no_generator ok.scalars (below_preorder P ok) (cell_complex P) S m connection.equivalence (cells_graded P ok) connection.complex
        connection.strict x (is_listed cells)
        (IsInClosure P.complex.faces cells) (IsInMouth P.complex.faces cells) (class_around P ok x cells cell recurrent) regular g below grade

    pub class_regular : ((g : ℕ) → g < S.count → ¬ IsInGrade x g) → IsRegular P.scalars P.complex cells
    class_regular none v c =
        all_boundaries ok.scalars (cell_count P) (entry P.complex.boundary) (dim_at P) (IsInClosure P.complex.faces cells) (IsInMouth P.complex.faces cells)
        P.complex.levels ok.layout.complex.one_down
        (λ y c. dims_below P ok y (face_cells P ok c.0 y c.2).1) (λ k i. cycle 0)
        (λ k below. basis k 0 (λ i. 0) (listing_none (S.count) (λ g. IsInGrade x g × (S.dim g ≡ k)) (λ g g_below h. none g g_below h.0))) v c

  -- a class of one part has the cells of that part
  module _ (x : ℕ) (cell : x < cell_count P) (one : has_two_parts P x ≡ false) (cells : List ℕ) (own : AreCellsOf P.part_of (part_at P x) cells) where
    pub part_class : (y : ℕ) → Contains cells y ↔ AreRecurrent (StepOf (flow P)) x y
    part_class y = (
      (λ c. share_recurrent P ok x y (cell_part P ok x cell, (own.same y).0 c)),
      (λ r.
          let y_below : y < cell_count P = reached_cell P ok x y cell r.there in
          (own.same y).1 (
            cell_part P ok y y_below,
            elim (cases_eq (part_at P y) (part_at P x)) [
              | inl same ↦ same
              | inr differ ↦ never (has_two_parts P x) (any_below-at (cell_count P) (λ z. recurs P x z && not (part_at P z == part_at P x)) y y_below
                  (and_from (recurs P x y) (not (part_at P y == part_at P x)) (AreRecurrent-recurs P ok x y r)
                  (not_from_false (part_at P y == part_at P x) (ne_eqb _ _ differ)))) one
            ],
          )),
    )

    pub part_critical : (g : ℕ) → g < S.count → IsInGrade x g → ¬ IsRegular P.scalars P.complex cells
    part_critical g below grade regular = class_critical x cell cells part_class g below grade regular

    pub part_regular : ((g : ℕ) → g < S.count → ¬ IsInGrade x g) → IsRegular P.scalars P.complex cells
    part_regular none = class_regular x cell cells part_class none

  -- the cells of the part of a cell
  part_cells : ℕ → List ℕ
  part_cells x = members (cell_count P) (λ y. part_at P y == part_at P x)

  part_cells-own : (x : ℕ) → AreCellsOf P.part_of (part_at P x) (part_cells x)
  unfolding part_cells
  part_cells-own x = record {
    same = λ y. (
      (λ c. let h = Contains-members (cell_count P) (λ z. part_at P z == part_at P x) y c in (cell_part P ok y h.0, eqb-true _ _ h.1)),
      (λ h. members-Contains (cell_count P) (λ z. part_at P z == part_at P x) y (part_cell P ok y h.0) (eq-eqb _ _ h.1)),
    );
  }

  -- the class of a generator's base counts
  pub generator_counts : (g : ℕ) → g < S.count → S.base g < cell_count P → Counts (StepOf (flow P)) (flow P) (S.base g)
  generator_counts g below cell = elim (true_or_false (has_two_parts P (S.base g))) [
    | inl two ↦ two_parts_count P ok (S.base g) two
    | inr one ↦
        let own = part_cells-own (S.base g) in
        inr (λ regular. part_critical (S.base g) cell one (part_cells (S.base g)) own g below (reaches_itself (S.base g), reaches_itself (S.base g))
        (regular (part_cells (S.base g)) own))
  ]

module _ (P : Problem) (ok : IsProblem P) (C : Certificate) (connection : IsConnection P.scalars (Below P) (cell_complex P) (morse_complex C) (maps_of C)) where
  pub generators_counted : GeneratorsAreCounted P C
  generators_counted x class numbers cell recurrent are k level =
      let test : ℕ → Bool = λ g. recurs P x (base_of C g) && (dim_of C g == k) in
      let listing = listing_of (generator_count C) test in
      let given = are.basis k level in
      one_length ok.scalars P.complex class k (slice_index numbers k) (generators_in P C x k) given.0
      (λ j. cycle P ok (morse_complex C) (maps_of C) connection x cell class recurrent (listing.0 j)) given.1
      (basis P ok (morse_complex C) (maps_of C) connection x cell class recurrent k (generators_in P C x k) listing.0
      (listing_by (generator_count C) (λ g. test g ≡ true) (λ g. IsInGrade P ok (morse_complex C) (maps_of C) connection x g × (dim_of C g ≡ k))
      (generators_in P C x k) listing.0 listing.1
      (λ g below h.
      let parts = both (recurs P x (base_of C g)) (dim_of C g == k) h in
      let r = recurs-AreRecurrent P ok x (base_of C g) parts.0 in
      ((r.there, r.back), eqb-true _ _ parts.1))
      (λ g below h. and_from (recurs P x (base_of C g)) (dim_of C g == k) (AreRecurrent-recurs P ok x (base_of C g) (record { there = h.0.0; back = h.0.1 }))
      (eq-eqb _ _ h.1))))

  module _ (fits : Fits P.scalars P.complex C) (classes : (i x y : ℕ) → IsAt C.morse x i → Contains (set_at C.morse i) y ↔ AreRecurrent (StepOf (flow P)) x y)
      (named : (g : ℕ) → g < generator_count C → set_of C g < set_count C) (i : ℕ) (i_below : i < set_count C) where
    pub grade_set : (g : ℕ) → g < generator_count C → IsInGrade P ok (morse_complex C) (maps_of C) connection (first_cell C i) g → set_of C g ≡ i
    grade_set g below grade =
        one_set P ok C fits (set_of C g) i (base_of C g) (sets.first_at P ok C fits (set_of C g) (named g below))
        (i_below, (classes i (first_cell C i) (base_of C g) (sets.first_at P ok C fits i i_below)).1 (record { there = grade.0; back = grade.1 }))

    set_grade : (g : ℕ) → set_of C g ≡ i → IsInGrade P ok (morse_complex C) (maps_of C) connection (first_cell C i) g
    set_grade g same = subst (λ j. Below P (first_cell C j) (first_cell C i) × Below P (first_cell C i) (first_cell C j)) (sym same)
        (reaches_itself (first_cell C i), reaches_itself (first_cell C i))

    -- any list of the cells of the set
    module _ (cells : List ℕ) (same_cells : (y : ℕ) → Contains (set_at C.morse i) y ↔ Contains cells y) where
      cell_of_set : first_cell C i < cell_count P
      cell_of_set = sets.at_cell P ok C fits (first_cell C i) i (sets.first_at P ok C fits i i_below)

      recurrent : (y : ℕ) → Contains cells y ↔ AreRecurrent (StepOf (flow P)) (first_cell C i) y
      recurrent y = (
        (λ c. (classes i (first_cell C i) y (sets.first_at P ok C fits i i_below)).0 ((same_cells y).1 c)),
        (λ r. (same_cells y).0 ((classes i (first_cell C i) y (sets.first_at P ok C fits i i_below)).1 r)),
      )

      pub counted : (k : ℕ) → (cycles : ℕ → Vector) × IsConleyBasis P.scalars P.complex cells k (generators_at C i k) cycles
      counted k =
          let listing = listing_of (generator_count C) (λ g. (set_of C g == i) && (dim_of C g == k)) in (
            (λ j. cycle P ok (morse_complex C) (maps_of C) connection (first_cell C i) cell_of_set cells recurrent (listing.0 j)),
            basis P ok (morse_complex C) (maps_of C) connection (first_cell C i) cell_of_set cells recurrent k (generators_at C i k) listing.0
                (listing_by (generator_count C) (λ g. ((set_of C g == i) && (dim_of C g == k)) ≡ true)
                (λ g. IsInGrade P ok (morse_complex C) (maps_of C) connection (first_cell C i) g × (dim_of C g ≡ k)) (generators_at C i k) listing.0
                listing.1
                (λ g below h. (let parts = both (set_of C g == i) (dim_of C g == k) h in (set_grade g (eqb-true _ _ parts.0), eqb-true _ _ parts.1)))
                (λ g below h. and_from (set_of C g == i) (dim_of C g == k) (eq-eqb _ _ (grade_set g below h.0)) (eq-eqb _ _ h.1))),
          )

      -- and no other number will do
      pub only_count : (k r : ℕ) (cycles : ℕ → Vector) → IsConleyBasis P.scalars P.complex cells k r cycles → r ≡ generators_at C i k
      only_count k r cycles number = one_length ok.scalars P.complex cells k r (generators_at C i k) cycles (counted k).0 number (counted k).1
