-- The laws of the checker, J1 to J15, in their order.
--     sets_law P C, order_law P C, generator_law P C, index_law P C     J1 to J4: sets, order, generators, index
--     strict_law P C                                                   J5: the matrix has no entry inside a set, or up
--     matrix_degree, phi_degree, psi_degree, gamma_degree, gamma2_degree P C     J6: dimensions, parts 1 to 5
--     boundary_law P C                                                 J7: the matrix times itself is zero
--     phi_down, psi_down, gamma_down, gamma2_down P C                  J8 to J11: the maps go downward
--     phi_law, psi_law, gamma_law, gamma2_law P C                      J12 to J15: the equations
--     laws_of P C                                                      all of them, as they are tested
--     failing P C                                                      the first that fails, with its first place
use Rattle.std.specs.Prelude.{suc, ◌+◌, true, false, ◌==◌, ◌&&◌, not, nat_lt, nat_le, if◌then◌else◌, Option, List, [], ◌∷◌}
use Rattle.conley_algebra.specs.Entries.{product_of, plus_of, minus_of, identity_of}
use Rattle.conley_chains.specs.Matrix.{entry}
use Rattle.conley_certificate_file.specs.Certificate.{Certificate}
use Rattle.conley_certificate.specs.declared.reason.Reason.{Reason}
use Rattle.conley_certificate.specs.Problem.{Problem, cell_count, dim_at}
use Rattle.conley_certificate.specs.Certificate.{set_count, generator_count, set_of, dim_of, base_of, index_at}
use Rattle.conley_certificate.specs.Reach.{reaches}
use Rattle.conley_certificate.specs.Values.{place_of, wanted_place, is_listed_pair, is_cover, is_one_part, generators_at, is_named, number_of}
use Rattle.conley_certificate.specs.Places.{Law, first_failing, equal_law, entry_law}

abbrev pub sets_law : Problem → Certificate → Law
sets_law P C = equal_law 1 false (cell_count P) 1 (λ x column. place_of C x) (λ x column. wanted_place P C x)

abbrev pub order_law : Problem → Certificate → Law
order_law P C = equal_law 2 false (set_count C) (set_count C) (λ p q. number_of (is_listed_pair C p q)) (λ p q. number_of (is_cover P C p q))

-- column 0: the set's number is below the number of sets; column 1: the dimension is below the levels
abbrev pub generator_law : Problem → Certificate → Law
generator_law P C = record {
  number = 3;
  part = 0;
  rows = generator_count C;
  columns = 2;
  by_columns = false;
  have = λ g column. if column == 0 then set_of C g else dim_of C g;
  want = λ g column. if column == 0 then set_count C else P.complex.levels;
  fails = λ g column. if column == 0 then nat_le (set_count C) (set_of C g) else nat_le P.complex.levels (dim_of C g);
}

-- the last column fails where the set is one single part and no generator names it
abbrev pub index_law : Problem → Certificate → Law
index_law P C = equal_law 4 false (set_count C) (suc P.complex.levels)
    (λ i k. if nat_lt k P.complex.levels then index_at C i k else 0)
    (λ i k. if nat_lt k P.complex.levels then generators_at C i k else number_of (is_one_part P C i && not (is_named C i)))

abbrev pub strict_law : Problem → Certificate → Law
strict_law P C = entry_law 5 0 (generator_count C) (generator_count C) (entry C.matrix)
    (λ h g. not (set_of C h == set_of C g) && reaches P (base_of C g) (base_of C h))

-- rows and columns of the dimensions of a map of this degree
abbrev pub matrix_degree : Problem → Certificate → Law
matrix_degree P C = entry_law 6 1 (generator_count C) (generator_count C) (entry C.matrix) (λ h g. dim_of C g == dim_of C h + 1)

abbrev pub phi_degree : Problem → Certificate → Law
phi_degree P C = entry_law 6 2 (cell_count P) (generator_count C) (entry C.phi) (λ x g. dim_at P x == dim_of C g)

abbrev pub psi_degree : Problem → Certificate → Law
psi_degree P C = entry_law 6 3 (generator_count C) (cell_count P) (entry C.psi) (λ g x. dim_of C g == dim_at P x)

abbrev pub gamma_degree : Problem → Certificate → Law
gamma_degree P C = entry_law 6 4 (cell_count P) (cell_count P) (entry C.gamma) (λ y x. dim_at P y == dim_at P x + 1)

abbrev pub gamma2_degree : Problem → Certificate → Law
gamma2_degree P C = entry_law 6 5 (generator_count C) (generator_count C) (entry C.gamma2) (λ h g. dim_of C h == dim_of C g + 1)

abbrev pub boundary_law : Problem → Certificate → Law
boundary_law P C = equal_law 7 true (generator_count C) (generator_count C)
    (product_of P.scalars (generator_count C) (entry C.matrix) (entry C.matrix)) (λ h g. 0)

abbrev pub phi_down : Problem → Certificate → Law
phi_down P C = entry_law 8 0 (cell_count P) (generator_count C) (entry C.phi) (λ x g. reaches P (base_of C g) x)

abbrev pub psi_down : Problem → Certificate → Law
psi_down P C = entry_law 9 0 (generator_count C) (cell_count P) (entry C.psi) (λ g x. reaches P x (base_of C g))

abbrev pub gamma_down : Problem → Certificate → Law
gamma_down P C = entry_law 10 0 (cell_count P) (cell_count P) (entry C.gamma) (λ y x. reaches P x y)

abbrev pub gamma2_down : Problem → Certificate → Law
gamma2_down P C = entry_law 11 0 (generator_count C) (generator_count C) (entry C.gamma2) (λ h g. reaches P (base_of C g) (base_of C h))

abbrev pub phi_law : Problem → Certificate → Law
phi_law P C = equal_law 12 true (cell_count P) (generator_count C)
    (product_of P.scalars (cell_count P) (entry P.complex.boundary) (entry C.phi))
    (product_of P.scalars (generator_count C) (entry C.phi) (entry C.matrix))

abbrev pub psi_law : Problem → Certificate → Law
psi_law P C = equal_law 13 true (generator_count C) (cell_count P)
    (product_of P.scalars (generator_count C) (entry C.matrix) (entry C.psi))
    (product_of P.scalars (cell_count P) (entry C.psi) (entry P.complex.boundary))

abbrev pub gamma_law : Problem → Certificate → Law
gamma_law P C = equal_law 14 true (cell_count P) (cell_count P)
    (minus_of P.scalars (identity_of (cell_count P)) (product_of P.scalars (generator_count C) (entry C.phi) (entry C.psi)))
    (plus_of P.scalars
    (product_of P.scalars (cell_count P) (entry P.complex.boundary) (entry C.gamma))
    (product_of P.scalars (cell_count P) (entry C.gamma) (entry P.complex.boundary)))

abbrev pub gamma2_law : Problem → Certificate → Law
gamma2_law P C = equal_law 15 true (generator_count C) (generator_count C)
    (minus_of P.scalars (product_of P.scalars (cell_count P) (entry C.psi) (entry C.phi)) (identity_of (generator_count C)))
    (plus_of P.scalars
    (product_of P.scalars (generator_count C) (entry C.matrix) (entry C.gamma2))
    (product_of P.scalars (generator_count C) (entry C.gamma2) (entry C.matrix)))

-- in the order in which they are tested
abbrev pub laws_of : Problem → Certificate → List Law
laws_of P C =
    sets_law P C ∷ order_law P C ∷ generator_law P C ∷ index_law P C ∷ strict_law P C
    ∷ matrix_degree P C ∷ phi_degree P C ∷ psi_degree P C ∷ gamma_degree P C ∷ gamma2_degree P C
    ∷ boundary_law P C ∷ phi_down P C ∷ psi_down P C ∷ gamma_down P C ∷ gamma2_down P C
    ∷ phi_law P C ∷ psi_law P C ∷ gamma_law P C ∷ gamma2_law P C ∷ []

-- the first law that fails, with its first place
abbrev pub failing : Problem → Certificate → Option Reason
failing P C = first_failing (laws_of P C)
