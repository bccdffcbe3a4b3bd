-- The laws of the checker in words: what it means that all are kept.
use Rattle.std.proofs.Common.{◌≡◌, ◌≢◌, inl, inr, ℕ, suc, ◌<◌, ◌==◌, ◌+◌, ◌&&◌, Bool, true, false, ap, sym, ◌∙◌, arith, refl}
use Rattle.std.specs.Prelude.{not, if◌then◌else◌, nat_lt, nat_le, None}
use Rattle.std.proofs.lemmas.Bool.{cases_eq, cases_lt, eq-eqb, ne_eqb, lt-ltb, le-ltb, leb-false, lt-leb}
use Rattle.conley_algebra.specs.Entries.{product_of, plus_of, minus_of, identity_of}
use Rattle.conley_chains.specs.Matrix.{entry}
use Rattle.conley_certificate.specs.Problem.{Problem, cell_count, dim_at}
use Rattle.conley_certificate_file.specs.Certificate.{Certificate}
use Rattle.conley_certificate.specs.Certificate.{set_count, generator_count, set_of, dim_of, base_of, index_at}
use Rattle.conley_certificate.specs.Places.{Keeps}
use Rattle.conley_certificate.specs.Reach.{reaches}
use Rattle.conley_certificate.specs.Values.{place_of, wanted_place, number_of, is_listed_pair, is_cover, is_one_part, is_named, generators_at}
use Rattle.conley_certificate.specs.Laws.{generator_law, laws_of, failing}
use Rattle.conley_certificate.proofs.TestLemmas.{cond-true, cond-false}
use Rattle.conley_certificate.proofs.PlaceLemmas.{AllKeep, first_failing-AllKeep, AllKeep-first_failing, equal_law-kept, kept-equal_law, entry_law-kept, kept-entry_law}

number-same : (a b : Bool) → number_of a ≡ number_of b → a ≡ b
number-same true true h = refl
number-same true false h = absurd (omega (arith, h))
number-same false true h = absurd (omega (arith, h))
number-same false false h = refl

number-none : (a : Bool) → 0 ≡ number_of a → a ≡ false
number-none true h = absurd (omega (arith, h))
number-none false h = refl

-- all laws are kept
pub record LawsKept (P : Problem) (C : Certificate) : Type 0 where
  pub sets : (x : ℕ) → x < cell_count P → place_of C x ≡ wanted_place P C x
  pub order : (p q : ℕ) → p < set_count C → q < set_count C → is_listed_pair C p q ≡ is_cover P C p q
  pub names : (g : ℕ) → g < generator_count C → set_of C g < set_count C
  pub dims : (g : ℕ) → g < generator_count C → dim_of C g < P.complex.levels
  pub index : (i k : ℕ) → i < set_count C → k < P.complex.levels → index_at C i k ≡ generators_at C i k
  pub named : (i : ℕ) → i < set_count C → (is_one_part P C i && not (is_named C i)) ≡ false
  pub strict : (h g : ℕ) → h < generator_count C → g < generator_count C → entry C.matrix h g ≢ 0
      → (not (set_of C h == set_of C g) && reaches P (base_of C g) (base_of C h)) ≡ true
  pub matrix_degree : (h g : ℕ) → h < generator_count C → g < generator_count C → entry C.matrix h g ≢ 0 → (dim_of C g == dim_of C h + 1) ≡ true
  pub phi_degree : (x g : ℕ) → x < cell_count P → g < generator_count C → entry C.phi x g ≢ 0 → (dim_at P x == dim_of C g) ≡ true
  pub psi_degree : (g x : ℕ) → g < generator_count C → x < cell_count P → entry C.psi g x ≢ 0 → (dim_of C g == dim_at P x) ≡ true
  pub gamma_degree : (y x : ℕ) → y < cell_count P → x < cell_count P → entry C.gamma y x ≢ 0 → (dim_at P y == dim_at P x + 1) ≡ true
  pub gamma2_degree : (h g : ℕ) → h < generator_count C → g < generator_count C → entry C.gamma2 h g ≢ 0 → (dim_of C h == dim_of C g + 1) ≡ true
  pub phi_down : (x g : ℕ) → x < cell_count P → g < generator_count C → entry C.phi x g ≢ 0 → (reaches P (base_of C g) x) ≡ true
  pub psi_down : (g x : ℕ) → g < generator_count C → x < cell_count P → entry C.psi g x ≢ 0 → (reaches P x (base_of C g)) ≡ true
  pub gamma_down : (y x : ℕ) → y < cell_count P → x < cell_count P → entry C.gamma y x ≢ 0 → (reaches P x y) ≡ true
  pub gamma2_down : (h g : ℕ) → h < generator_count C → g < generator_count C → entry C.gamma2 h g ≢ 0 → (reaches P (base_of C g) (base_of C h)) ≡ true
  pub boundary : (h g : ℕ) → h < generator_count C → g < generator_count C → product_of P.scalars (generator_count C) (entry C.matrix) (entry C.matrix) h g ≡ 0
  pub phi_commutes : (row column : ℕ) → row < cell_count P → column < generator_count C → product_of P.scalars (cell_count P) (entry P.complex.boundary)
      (entry C.phi) row column ≡ product_of P.scalars (generator_count C) (entry C.phi) (entry C.matrix) row column
  pub psi_commutes : (row column : ℕ) → row < generator_count C → column < cell_count P → product_of P.scalars (generator_count C) (entry C.matrix)
      (entry C.psi) row column ≡ product_of P.scalars (cell_count P) (entry C.psi) (entry P.complex.boundary) row column
  pub phi_psi : (row column : ℕ) → row < cell_count P → column < cell_count P → minus_of P.scalars (identity_of (cell_count P))
      (product_of P.scalars (generator_count C) (entry C.phi) (entry C.psi)) row column ≡ plus_of P.scalars
      (product_of P.scalars (cell_count P) (entry P.complex.boundary) (entry C.gamma)) (product_of P.scalars (cell_count P) (entry C.gamma)
      (entry P.complex.boundary)) row column
  pub psi_phi : (row column : ℕ) → row < generator_count C → column < generator_count C → minus_of P.scalars
      (product_of P.scalars (cell_count P) (entry C.psi) (entry C.phi)) (identity_of (generator_count C)) row column ≡ plus_of P.scalars
      (product_of P.scalars (generator_count C) (entry C.matrix) (entry C.gamma2)) (product_of P.scalars (generator_count C) (entry C.gamma2) (entry C.matrix))
      row column

module _ (P : Problem) (C : Certificate) where
  abbrev index_have : ℕ → ℕ → ℕ
  index_have i k = if nat_lt k P.complex.levels then index_at C i k else 0

  abbrev index_want : ℕ → ℕ → ℕ
  index_want i k = if nat_lt k P.complex.levels then generators_at C i k else number_of (is_one_part P C i && not (is_named C i))

  kept_generators : LawsKept P C → Keeps (generator_law P C)
  kept_generators kept g column g_below column_below = elim (cases_eq column 0) [
    | inl zero_column ↦ cond-true (column == 0) (nat_le (set_count C) (set_of C g)) (nat_le P.complex.levels (dim_of C g)) (eq-eqb _ _ zero_column)
        ∙ lt-leb _ _ (kept.names g g_below)
    | inr other ↦ cond-false (column == 0) (nat_le (set_count C) (set_of C g)) (nat_le P.complex.levels (dim_of C g)) (ne_eqb _ _ other)
        ∙ lt-leb _ _ (kept.dims g g_below)
  ]

  kept_index : LawsKept P C → (i k : ℕ) → i < set_count C → k < suc P.complex.levels → index_have i k ≡ index_want i k
  kept_index kept i k i_below k_below = elim (cases_lt k P.complex.levels) [
    | inl level ↦
        cond-true (nat_lt k P.complex.levels) (index_at C i k) 0 (lt-ltb _ _ level) ∙ kept.index i k i_below level
        ∙ sym (cond-true (nat_lt k P.complex.levels) (generators_at C i k) (number_of (is_one_part P C i && not (is_named C i))) (lt-ltb _ _ level))
    | inr last ↦
        cond-false (nat_lt k P.complex.levels) (index_at C i k) 0 (le-ltb _ _ (omega arith)) ∙ sym (ap number_of (kept.named i i_below))
        ∙ sym (cond-false (nat_lt k P.complex.levels) (generators_at C i k) (number_of (is_one_part P C i && not (is_named C i))) (le-ltb _ _ (omega arith)))
  ]

module _ (P : Problem) (C : Certificate) where
  pub AllKeep-LawsKept : AllKeep (laws_of P C) → LawsKept P C
  AllKeep-LawsKept all = record {
    sets = λ x below. equal_law-kept 1 false (cell_count P) 1 (λ x column. place_of C x) (λ x column. wanted_place P C x) all.0 x 0 below (omega arith);
    order = λ p q p_below q_below. number-same (is_listed_pair C p q) (is_cover P C p q) (equal_law-kept 2 false (set_count C) (set_count C)
        (λ p q. number_of (is_listed_pair C p q)) (λ p q. number_of (is_cover P C p q)) all.1.0 p q p_below q_below);
    names = λ g below. leb-false (set_count C) (set_of C g) (all.1.1.0 g 0 below (omega arith));
    dims = λ g below. leb-false P.complex.levels (dim_of C g) (all.1.1.0 g 1 below (omega arith));
    index = λ i k i_below k_below.
        sym (cond-true (nat_lt k P.complex.levels) (index_at C i k) 0 (lt-ltb _ _ k_below))
        ∙ equal_law-kept 4 false (set_count C) (suc P.complex.levels) (index_have P C) (index_want P C) all.1.1.1.0 i k i_below (omega arith)
        ∙ cond-true (nat_lt k P.complex.levels) (generators_at C i k) (number_of (is_one_part P C i && not (is_named C i))) (lt-ltb _ _ k_below);
    named = λ i i_below. number-none (is_one_part P C i && not (is_named C i)) (
        sym (cond-false (nat_lt P.complex.levels P.complex.levels) (index_at C i P.complex.levels) 0 (le-ltb P.complex.levels P.complex.levels (omega arith)))
        ∙ equal_law-kept 4 false (set_count C) (suc P.complex.levels) (index_have P C) (index_want P C) all.1.1.1.0 i P.complex.levels i_below (omega arith)
        ∙ cond-false (nat_lt P.complex.levels P.complex.levels) (generators_at C i P.complex.levels) (number_of (is_one_part P C i && not (is_named C i)))
        (le-ltb P.complex.levels P.complex.levels (omega arith)));
    strict = entry_law-kept 5 0 (generator_count C) (generator_count C) (entry C.matrix) (λ h g. not (set_of C h == set_of C g) && reaches P (base_of C g)
        (base_of C h)) all.1.1.1.1.0;
    matrix_degree = entry_law-kept 6 1 (generator_count C) (generator_count C) (entry C.matrix) (λ h g. dim_of C g == dim_of C h + 1) all.1.1.1.1.1.0;
    phi_degree = entry_law-kept 6 2 (cell_count P) (generator_count C) (entry C.phi) (λ x g. dim_at P x == dim_of C g) all.1.1.1.1.1.1.0;
    psi_degree = entry_law-kept 6 3 (generator_count C) (cell_count P) (entry C.psi) (λ g x. dim_of C g == dim_at P x) all.1.1.1.1.1.1.1.0;
    gamma_degree = entry_law-kept 6 4 (cell_count P) (cell_count P) (entry C.gamma) (λ y x. dim_at P y == dim_at P x + 1) all.1.1.1.1.1.1.1.1.0;
    gamma2_degree = entry_law-kept 6 5 (generator_count C) (generator_count C) (entry C.gamma2) (λ h g. dim_of C h == dim_of C g + 1) all.1.1.1.1.1.1.1.1.1.0;
    phi_down = entry_law-kept 8 0 (cell_count P) (generator_count C) (entry C.phi) (λ x g. reaches P (base_of C g) x) all.1.1.1.1.1.1.1.1.1.1.1.0;
    psi_down = entry_law-kept 9 0 (generator_count C) (cell_count P) (entry C.psi) (λ g x. reaches P x (base_of C g)) all.1.1.1.1.1.1.1.1.1.1.1.1.0;
    gamma_down = entry_law-kept 10 0 (cell_count P) (cell_count P) (entry C.gamma) (λ y x. reaches P x y) all.1.1.1.1.1.1.1.1.1.1.1.1.1.0;
    gamma2_down = entry_law-kept 11 0 (generator_count C) (generator_count C) (entry C.gamma2) (λ h g. reaches P (base_of C g) (base_of C h))
        all.1.1.1.1.1.1.1.1.1.1.1.1.1.1.0;
    boundary = equal_law-kept 7 true (generator_count C) (generator_count C) (product_of P.scalars (generator_count C) (entry C.matrix) (entry C.matrix))
        (λ h g. 0) all.1.1.1.1.1.1.1.1.1.1.0;
    phi_commutes = equal_law-kept 12 true (cell_count P) (generator_count C) (product_of P.scalars (cell_count P) (entry P.complex.boundary) (entry C.phi))
        (product_of P.scalars (generator_count C) (entry C.phi) (entry C.matrix)) all.1.1.1.1.1.1.1.1.1.1.1.1.1.1.1.0;
    psi_commutes = equal_law-kept 13 true (generator_count C) (cell_count P) (product_of P.scalars (generator_count C) (entry C.matrix) (entry C.psi))
        (product_of P.scalars (cell_count P) (entry C.psi) (entry P.complex.boundary)) all.1.1.1.1.1.1.1.1.1.1.1.1.1.1.1.1.0;
    phi_psi = equal_law-kept 14 true (cell_count P) (cell_count P) (minus_of P.scalars (identity_of (cell_count P))
        (product_of P.scalars (generator_count C) (entry C.phi) (entry C.psi))) (plus_of P.scalars
        (product_of P.scalars (cell_count P) (entry P.complex.boundary) (entry C.gamma)) (product_of P.scalars (cell_count P) (entry C.gamma)
        (entry P.complex.boundary))) all.1.1.1.1.1.1.1.1.1.1.1.1.1.1.1.1.1.0;
    psi_phi = equal_law-kept 15 true (generator_count C) (generator_count C) (minus_of P.scalars
        (product_of P.scalars (cell_count P) (entry C.psi) (entry C.phi)) (identity_of (generator_count C)))
        (plus_of P.scalars (product_of P.scalars (generator_count C) (entry C.matrix) (entry C.gamma2))
        (product_of P.scalars (generator_count C) (entry C.gamma2) (entry C.matrix))) all.1.1.1.1.1.1.1.1.1.1.1.1.1.1.1.1.1.1.0;
  }

  pub LawsKept-AllKeep : LawsKept P C → AllKeep (laws_of P C)
  LawsKept-AllKeep kept = (
    kept-equal_law 1 false (cell_count P) 1 (λ x column. place_of C x) (λ x column. wanted_place P C x) (λ x column below column_below. kept.sets x below),
    (
      kept-equal_law 2 false (set_count C) (set_count C) (λ p q. number_of (is_listed_pair C p q)) (λ p q. number_of (is_cover P C p q))
          (λ p q p_below q_below. ap number_of (kept.order p q p_below q_below)),
      (
        kept_generators P C kept,
        (
          kept-equal_law 4 false (set_count C) (suc P.complex.levels) (index_have P C) (index_want P C) (kept_index P C kept),
          (
            kept-entry_law 5 0 (generator_count C) (generator_count C) (entry C.matrix) (λ h g. not (set_of C h == set_of C g) && reaches P (base_of C g)
                (base_of C h)) kept.strict,
            (
              kept-entry_law 6 1 (generator_count C) (generator_count C) (entry C.matrix) (λ h g. dim_of C g == dim_of C h + 1) kept.matrix_degree,
              (
                kept-entry_law 6 2 (cell_count P) (generator_count C) (entry C.phi) (λ x g. dim_at P x == dim_of C g) kept.phi_degree,
                (
                  kept-entry_law 6 3 (generator_count C) (cell_count P) (entry C.psi) (λ g x. dim_of C g == dim_at P x) kept.psi_degree,
                  (
                    kept-entry_law 6 4 (cell_count P) (cell_count P) (entry C.gamma) (λ y x. dim_at P y == dim_at P x + 1) kept.gamma_degree,
                    (
                      kept-entry_law 6 5 (generator_count C) (generator_count C) (entry C.gamma2) (λ h g. dim_of C h == dim_of C g + 1) kept.gamma2_degree,
                      (
                        kept-equal_law 7 true (generator_count C) (generator_count C) (product_of P.scalars (generator_count C) (entry C.matrix)
                            (entry C.matrix)) (λ h g. 0) kept.boundary,
                        (
                          kept-entry_law 8 0 (cell_count P) (generator_count C) (entry C.phi) (λ x g. reaches P (base_of C g) x) kept.phi_down,
                          (
                            kept-entry_law 9 0 (generator_count C) (cell_count P) (entry C.psi) (λ g x. reaches P x (base_of C g)) kept.psi_down,
                            (
                              kept-entry_law 10 0 (cell_count P) (cell_count P) (entry C.gamma) (λ y x. reaches P x y) kept.gamma_down,
                              (
                                kept-entry_law 11 0 (generator_count C) (generator_count C) (entry C.gamma2) (λ h g. reaches P (base_of C g) (base_of C h))
                                    kept.gamma2_down,
                                (
                                  kept-equal_law 12 true (cell_count P) (generator_count C)
                                      (product_of P.scalars (cell_count P) (entry P.complex.boundary) (entry C.phi))
                                      (product_of P.scalars (generator_count C) (entry C.phi) (entry C.matrix)) kept.phi_commutes,
                                  (
                                    kept-equal_law 13 true (generator_count C) (cell_count P)
                                        (product_of P.scalars (generator_count C) (entry C.matrix) (entry C.psi))
                                        (product_of P.scalars (cell_count P) (entry C.psi) (entry P.complex.boundary)) kept.psi_commutes,
                                    (
                                      kept-equal_law 14 true (cell_count P) (cell_count P)
                                          (minus_of P.scalars (identity_of (cell_count P))
                                          (product_of P.scalars (generator_count C) (entry C.phi) (entry C.psi)))
                                          (plus_of P.scalars (product_of P.scalars (cell_count P) (entry P.complex.boundary) (entry C.gamma))
                                          (product_of P.scalars (cell_count P) (entry C.gamma) (entry P.complex.boundary))) kept.phi_psi,
                                      (
                                        kept-equal_law 15 true (generator_count C) (generator_count C)
                                            (minus_of P.scalars (product_of P.scalars (cell_count P) (entry C.psi) (entry C.phi))
                                            (identity_of (generator_count C))) (plus_of P.scalars
                                            (product_of P.scalars (generator_count C) (entry C.matrix) (entry C.gamma2))
                                            (product_of P.scalars (generator_count C) (entry C.gamma2) (entry C.matrix))) kept.psi_phi,
                                        tt,
                                      ),
                                    ),
                                  ),
                                ),
                              ),
                            ),
                          ),
                        ),
                      ),
                    ),
                  ),
                ),
              ),
            ),
          ),
        ),
      ),
    ),
  )

  pub failing-LawsKept : failing P C ≡ None → LawsKept P C
  failing-LawsKept none = AllKeep-LawsKept (first_failing-AllKeep (laws_of P C) none)

  pub LawsKept-failing : LawsKept P C → failing P C ≡ None
  LawsKept-failing kept = AllKeep-first_failing (laws_of P C) (LawsKept-AllKeep kept)
