-- Laws of entries by tests over lists that were read.
use Rattle.std.proofs.Common.{◌≡◌, ℕ, ◌<◌, ◌==◌, ◌&&◌, Bool, List, length, ap, sym, ◌∙◌, arith, subst, All}
use Rattle.std.specs.Prelude.{slice_index, not}
use Rattle.conley_chains.specs.Matrix.{Table, entry, column_count}
use Rattle.conley_checker.specs.declared.filters.Degree.{Degree}
use Rattle.conley_checker.specs.Filters.{joins}
use Rattle.conley_checker.specs.declared.filters.Degree.TheVariants.{Down, Level, Up}
use Rattle.conley_checker.specs.declared.refusals.Read.{Read}
use Rattle.conley_certificate.specs.Problem.{Problem, cell_count, dim_at}
use Rattle.conley_certificate_file.specs.Certificate.{Certificate}
use Rattle.conley_certificate.specs.Certificate.{generator_count, set_of, dim_of, base_of}
use Rattle.conley_certificate.specs.Places.{first_place, entry_law}
use Rattle.conley_certificate.specs.Reach.{reaches}
use Rattle.conley_certificate.specs.Laws.{strict_law, matrix_degree, phi_degree, psi_degree, gamma_degree, gamma2_degree, phi_down, psi_down, gamma_down, gamma2_down}
use Rattle.conley_checker.specs.Given.{IsReachTest, AreGiven, AreRead}
use Rattle.conley_certificate.proofs.FitsLemmas.{phi_fits, psi_fits, gamma_fits}
use Rattle.conley_certificate.proofs.PlaceLemmas.{entry_place-same}

pub degree_place : (part rows columns : ℕ) (t : Table) (d : Degree) (A B : List ℕ) (a b : ℕ → ℕ) → t.rows ≡ rows → column_count t ≡ columns →
    ((r : ℕ) → r < rows → slice_index A r ≡ a r) → ((c : ℕ) → c < columns → slice_index B c ≡ b c) →
    first_place (entry_law 6 part t.rows (column_count t) (entry t) (λ r c. joins d (slice_index A r) (slice_index B c))) ≡ first_place
    (entry_law 6 part rows columns (entry t) (λ r c. joins d (a r) (b c)))
degree_place part rows columns t d A B a b height width row_is column_is =
    entry_place-same 6 part t.rows rows (column_count t) columns (entry t) (λ r c. joins d (slice_index A r) (slice_index B c)) (λ r c. joins d (a r) (b c))
    height width (λ r c r_below c_below.
    ap (λ (x : ℕ). joins d x (slice_index B c)) (row_is r r_below) ∙ ap (joins d (a r)) (column_is c c_below))

-- reach by a preorder's test, between cells that were read
pub reach_same : (P : Problem) (count : ℕ) (is_below : ℕ → ℕ → Bool) (A B : List ℕ) (a b : ℕ → ℕ) (r c : ℕ) → IsReachTest P count is_below →
    slice_index A r ≡ a r → slice_index B c ≡ b c → a r < cell_count P → b c < cell_count P
    → is_below (slice_index A r) (slice_index B c) ≡ reaches P (b c) (a r)
reach_same P count is_below A B a b r c test row_is column_is row_cell column_cell =
    ap (λ (x : ℕ). is_below x (slice_index B c)) row_is ∙ ap (is_below (a r)) column_is ∙ test.same (b c) (a r) column_cell row_cell

pub filter_place : (law : ℕ) (P : Problem) (count : ℕ) (is_below : ℕ → ℕ → Bool) (rows columns : ℕ) (t : Table) (A B : List ℕ) (a b : ℕ → ℕ)
    → IsReachTest P count is_below → t.rows ≡ rows → column_count t ≡ columns →
    ((r : ℕ) → r < rows → (slice_index A r ≡ a r) × (a r < cell_count P)) → ((c : ℕ) → c < columns → (slice_index B c ≡ b c) × (b c < cell_count P)) →
    first_place (entry_law law 0 t.rows (column_count t) (entry t) (λ r c. is_below (slice_index A r) (slice_index B c))) ≡ first_place
    (entry_law law 0 rows columns (entry t) (λ r c. reaches P (b c) (a r)))
filter_place law P count is_below rows columns t A B a b test height width row_is column_is =
    entry_place-same law 0 t.rows rows (column_count t) columns (entry t) (λ r c. is_below (slice_index A r) (slice_index B c)) (λ r c. reaches P (b c) (a r))
    height width (λ r c r_below c_below.
    reach_same P count is_below A B a b r c test (row_is r r_below).0 (column_is c c_below).0 (row_is r r_below).1 (column_is c c_below).1)

pub strict_place : (P : Problem) (count : ℕ) (is_below : ℕ → ℕ → Bool) (n : ℕ) (t : Table) (S A : List ℕ) (s a : ℕ → ℕ) → IsReachTest P count is_below
    → t.rows ≡ n → column_count t ≡ n →
    ((g : ℕ) → g < n → slice_index S g ≡ s g) → ((g : ℕ) → g < n → (slice_index A g ≡ a g) × (a g < cell_count P)) →
    first_place (entry_law 5 0 t.rows (column_count t) (entry t) (λ h g. not (slice_index S h == slice_index S g) && is_below (slice_index A h)
    (slice_index A g))) ≡ first_place (entry_law 5 0 n n (entry t) (λ h g. not (s h == s g) && reaches P (a g) (a h)))
strict_place P count is_below n t S A s a test height width set_is base_is =
    entry_place-same 5 0 t.rows n (column_count t) n (entry t) (λ h g. not (slice_index S h == slice_index S g) && is_below (slice_index A h)
    (slice_index A g)) (λ h g. not (s h == s g) && reaches P (a g) (a h)) height width (λ h g h_below g_below.
    ap (λ (x : ℕ). not (x == slice_index S g) && is_below (slice_index A h) (slice_index A g)) (set_is h h_below)
    ∙ ap (λ (x : ℕ). not (s h == x) && is_below (slice_index A h) (slice_index A g)) (set_is g g_below)
    ∙ ap (λ (b : Bool). not (s h == s g) && b) (reach_same P count is_below A A a a h g test (base_is h h_below).0 (base_is g g_below).0 (base_is h h_below).1
    (base_is g g_below).1))

-- an item that is read of a list of cells is one
pub read_cell : (P : Problem) (A : List ℕ) (a : ℕ → ℕ) (g : ℕ) → All (λ x. x < cell_count P) A → g < length A → slice_index A g ≡ a g → (slice_index A g ≡ a g)
    × (a g < cell_count P)
read_cell P A a g cells below is = (is, subst (λ (x : ℕ). x < cell_count P) is (cells g 0 below))

-- the laws of dimensions, by lists of dimensions: A of the generators, B of the cells
pub record DegreePlaces (P : Problem) (C : Certificate) (A B : List ℕ) : Type 0 where
  pub matrix : first_place (entry_law 6 1 C.matrix.rows (column_count C.matrix) (entry C.matrix)
      (λ row column. joins Down (slice_index A row) (slice_index A column))) ≡ first_place (matrix_degree P C)
  pub phi : first_place (entry_law 6 2 C.phi.rows (column_count C.phi) (entry C.phi) (λ row column. joins Level (slice_index B row) (slice_index A column))) ≡
      first_place (phi_degree P C)
  pub psi : first_place (entry_law 6 3 C.psi.rows (column_count C.psi) (entry C.psi) (λ row column. joins Level (slice_index A row) (slice_index B column))) ≡
      first_place (psi_degree P C)
  pub gamma : first_place (entry_law 6 4 C.gamma.rows (column_count C.gamma) (entry C.gamma)
      (λ row column. joins Up (slice_index B row) (slice_index B column))) ≡ first_place (gamma_degree P C)
  pub gamma2 : first_place (entry_law 6 5 C.gamma2.rows (column_count C.gamma2) (entry C.gamma2)
      (λ row column. joins Up (slice_index A row) (slice_index A column))) ≡ first_place (gamma2_degree P C)

pub degree_places : (P : Problem) (C : Certificate) (read : Read) (A B : List ℕ) → AreGiven P C → AreRead P C read → A ≡ read.dims.items → B ≡ P.complex.dims
    → DegreePlaces P C A B
degree_places P C read A B given are A_is B_is = record {
  matrix = degree_place 1 (generator_count C) (generator_count C) C.matrix Down A A (dim_of C) (dim_of C) given.fits.matrix.rows given.fits.matrix.columns gen
      gen;
  phi = degree_place 2 (cell_count P) (generator_count C) C.phi Level B A (dim_at P) (dim_of C) (phi_fits P given.problem C given.fits).rows
      (phi_fits P given.problem C given.fits).columns cel gen;
  psi = degree_place 3 (generator_count C) (cell_count P) C.psi Level A B (dim_of C) (dim_at P) (psi_fits P given.problem C given.fits).rows
      (psi_fits P given.problem C given.fits).columns gen cel;
  gamma = degree_place 4 (cell_count P) (cell_count P) C.gamma Up B B (dim_at P) (dim_at P) (gamma_fits P given.problem C given.fits).rows
      (gamma_fits P given.problem C given.fits).columns cel cel;
  gamma2 = degree_place 5 (generator_count C) (generator_count C) C.gamma2 Up A A (dim_of C) (dim_of C) given.fits.gamma2.rows given.fits.gamma2.columns gen
      gen;
} where
  gen : (g : ℕ) → g < generator_count C → slice_index A g ≡ dim_of C g
  gen g below = ap (λ (xs : List ℕ). slice_index xs g) A_is ∙ are.dims g below

  cel : (x : ℕ) → x < cell_count P → slice_index B x ≡ dim_at P x
  cel x below = ap (λ (xs : List ℕ). slice_index xs x) B_is

-- the laws of reach, by lists of cells: A of the generators' bases, B of the cells
pub record FilterPlaces (P : Problem) (C : Certificate) (is_below : ℕ → ℕ → Bool) (A B : List ℕ) : Type 0 where
  pub phi : first_place (entry_law 8 0 C.phi.rows (column_count C.phi) (entry C.phi) (λ row column. is_below (slice_index B row) (slice_index A column))) ≡
      first_place (phi_down P C)
  pub psi : first_place (entry_law 9 0 C.psi.rows (column_count C.psi) (entry C.psi) (λ row column. is_below (slice_index A row) (slice_index B column))) ≡
      first_place (psi_down P C)
  pub gamma : first_place (entry_law 10 0 C.gamma.rows (column_count C.gamma) (entry C.gamma)
      (λ row column. is_below (slice_index B row) (slice_index B column))) ≡ first_place (gamma_down P C)
  pub gamma2 : first_place (entry_law 11 0 C.gamma2.rows (column_count C.gamma2) (entry C.gamma2)
      (λ row column. is_below (slice_index A row) (slice_index A column))) ≡ first_place (gamma2_down P C)

pub filter_places : (P : Problem) (C : Certificate) (count : ℕ) (is_below : ℕ → ℕ → Bool) (read : Read) (A B : List ℕ) → AreGiven P C
    → IsReachTest P count is_below → AreRead P C read → A ≡ read.bases.items → B ≡ read.cells.items → FilterPlaces P C is_below A B
filter_places P C count is_below read A B given test are A_is B_is = record {
  phi = filter_place 8 P count is_below (cell_count P) (generator_count C) C.phi B A (λ x. x) (base_of C) test (phi_fits P given.problem C given.fits).rows
      (phi_fits P given.problem C given.fits).columns cel gen;
  psi = filter_place 9 P count is_below (generator_count C) (cell_count P) C.psi A B (base_of C) (λ x. x) test (psi_fits P given.problem C given.fits).rows
      (psi_fits P given.problem C given.fits).columns gen cel;
  gamma = filter_place 10 P count is_below (cell_count P) (cell_count P) C.gamma B B (λ x. x) (λ x. x) test (gamma_fits P given.problem C given.fits).rows
      (gamma_fits P given.problem C given.fits).columns cel cel;
  gamma2 = filter_place 11 P count is_below (generator_count C) (generator_count C) C.gamma2 A A (base_of C) (base_of C) test given.fits.gamma2.rows
      given.fits.gamma2.columns gen gen;
} where
  gen : (g : ℕ) → g < generator_count C → (slice_index A g ≡ base_of C g) × (base_of C g < cell_count P)
  gen g below = read_cell P A (base_of C) g (subst (All (λ x. x < cell_count P)) (sym A_is) are.bases_cells)
      (omega (arith, are.bases_count, ap (λ (xs : List ℕ). length xs) A_is)) (ap (λ (xs : List ℕ). slice_index xs g) A_is ∙ are.bases g below)

  cel : (x : ℕ) → x < cell_count P → (slice_index B x ≡ x) × (x < cell_count P)
  cel x below = (ap (λ (xs : List ℕ). slice_index xs x) B_is ∙ are.cells x below, below)

pub strict_places : (P : Problem) (C : Certificate) (count : ℕ) (is_below : ℕ → ℕ → Bool) (read : Read)
    (S A : List ℕ) → AreGiven P C → IsReachTest P count is_below → AreRead P C read → S ≡ read.sets.items → A ≡ read.bases.items →
    first_place (entry_law 5 0 C.matrix.rows (column_count C.matrix) (entry C.matrix) (λ h g. not (slice_index S h == slice_index S g) && is_below
    (slice_index A h) (slice_index A g))) ≡ first_place (strict_law P C)
strict_places P C count is_below read S A given test are S_is A_is =
    strict_place P count is_below (generator_count C) C.matrix S A (set_of C) (base_of C) test given.fits.matrix.rows given.fits.matrix.columns
    (λ g below. ap (λ (xs : List ℕ). slice_index xs g) S_is ∙ are.sets g below) gen
  where
    gen : (g : ℕ) → g < generator_count C → (slice_index A g ≡ base_of C g) × (base_of C g < cell_count P)
    gen g below = read_cell P A (base_of C) g (subst (All (λ x. x < cell_count P)) (sym A_is) are.bases_cells)
        (omega (arith, are.bases_count, ap (λ (xs : List ℕ). length xs) A_is)) (ap (λ (xs : List ℕ). slice_index xs g) A_is ∙ are.bases g below)
