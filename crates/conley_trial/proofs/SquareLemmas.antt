-- The unit squares: nothing is wrong with them, and they generate few cells.
use Rattle.std.proofs.Common.{◌≡◌, inl, inr, ◌+◌, ◌*◌, ◌<◌, ◌≤◌, ℕ, ℤ, pos, zero, suc, List, [], ◌∷◌, length, get_or, refl, ◌∙◌, ap, subst, arith}
use Rattle.std.specs.Prelude.{All, Contains, map}
use Rattle.std.specs.List.{AllZip, flat_map, range_with_len}
use Rattle.std.proofs.lemmas.Int.{ints}
use Rattle.std.proofs.lemmas.List.{get_or-map, length-map}
use Rattle.std.proofs.lemmas.List.Elements.{All-append, All-map, All-get_or, All-nil}
use Rattle.std.proofs.lemmas.List.FromFn.{length-range_with_len, get_or-range_with_len}
use Rattle.std.proofs.Math.Nat.{mul-le-mul}
use Rattle.conley_field.specs.Arithmetic.{Arithmetic}
use Rattle.conley_lefschetz.specs.Complex.{Layout}
use Rattle.conley_generated.proofs.CellLemmas.{most_cells, All-contained}
use Rattle.conley_generated.proofs.MakingLemmas.{ordered_apart}
use Rattle.conley_cubical.specs.Cubical.{IsCubicalComplex}
use Rattle.conley_cubical.specs.Making.{rule_of_cubes}
use Rattle.conley_cubical.specs.Cube.{IsWithin, code_of, codes_of, dim_of}
use Rattle.conley_cubical.specs.Fault.{IsGoodPair, IsBadCube, AreMore, Fails}
use Rattle.conley_cubical.specs.declared.error.CubicalError.{CubicalError}
use Rattle.conley_cubical.specs.declared.error.CubicalError.TheVariants.{BadAxes, BadCube, TooManyCells, NoMemory}
use Rattle.conley_trial.specs.Squares.{unit_square, unit_squares}
use Rattle.conley_trial.proofs.RangeLemmas.{range_has, length-rows, flat_has}

abbrev pub IsSquare : ℕ → List (ℤ × ℤ) → Type 0
IsSquare k s = (i : ℕ) × (j : ℕ) × (i < k) × (j < k) × (s ≡ unit_square i j)

column_squares : (k i b m : ℕ) → i < k → b + m ≤ k → All (IsSquare k) (map (unit_square i) (range_with_len b m))
column_squares k i b m less le = All-map (IsSquare k) (unit_square i) (range_with_len b m) (λ t d lt.
    let at : t < m = omega (arith, lt, length-range_with_len b m) in
    (i, get_or (range_with_len b m) t d, less, omega (arith, get_or-range_with_len b m t d at), refl))

rows_squares : (k a n : ℕ) → a + n ≤ k → All (IsSquare k) (flat_map (λ i. map (unit_square i) (range_with_len 0 k)) (range_with_len a n))
rows_squares k a zero le = All-nil (IsSquare k)
rows_squares k a (suc n) le =
    All-append (IsSquare k) (map (unit_square a) (range_with_len 0 k)) (flat_map (λ i. map (unit_square i) (range_with_len 0 k)) (range_with_len (a + 1) n))
    (column_squares k a 0 k (omega arith) (omega arith)) (rows_squares k (a + 1) n (omega arith))

pub square_at : (k t : ℕ) → t < length (unit_squares k) → IsSquare k (get_or (unit_squares k) t [])
square_at k t lt = All-get_or (IsSquare k) (unit_squares k) t [] lt (rows_squares k 0 k (omega arith))

pub few_squares : (k : ℕ) → k ≤ 60 → length (unit_squares k) ≤ 3600
few_squares k le = omega (arith, length-rows unit_square 0 k 0 k, mul-le-mul le le)

good_pair : (i : ℕ) → i < 60 → IsGoodPair (pos i, pos (i + 1))
good_pair i less = record { low = omega (arith, ints); high = omega (arith, ints); pair_is = inr (omega (arith, ints)) }

good_square : (i j t : ℕ) → i < 60 → j < 60 → t < 2 → IsGoodPair (get_or (unit_square i j) t (pos 0, pos 0))
good_square i j zero less less' lt = good_pair i less
good_square i j (suc zero) less less' lt = good_pair j less'
good_square i j (suc (suc t)) less less' lt = absurd (omega arith)

not_bad : (k t : ℕ) → k ≤ 60 → t < length (unit_squares k) → ¬ IsBadCube 2 (get_or (unit_squares k) t [])
not_bad k t le lt bad =
    let s = square_at k t lt in
    elim (subst (IsBadCube 2) s.4 bad) [
      | inl count ↦ count refl
      | inr at ↦ at.2 (good_square s.0 s.1 at.0 (omega (arith, s.2)) (omega (arith, s.3)) at.1)
    ]

-- ---- the cells

abbrev grid : ℕ → List (List ℕ)
grid k = flat_map (λ a. map (λ b. a ∷ b ∷ []) (range_with_len 2000000 (2 * k + 1))) (range_with_len 2000000 (2 * k + 1))

few_in_grid : (k : ℕ) → k ≤ 60 → length (grid k) ≤ 14641
few_in_grid k le = let small : 2 * k + 1 ≤ 121 = omega arith in omega (
  arith,
  length-rows (λ (a b : ℕ). a ∷ b ∷ []) 2000000 (2 * k + 1) 2000000 (2 * k + 1),
  mul-le-mul small small,
)

end_inside : (k i a : ℕ) → i < k → IsWithin (code_of (pos i, pos (i + 1))) a → (2000000 ≤ a) × (a < 2000000 + (2 * k + 1))
end_inside k i a less within = by (omega (arith, ints)) within
  where
    by : {c : ℕ} → c ≡ 2 * i + 2000001 → IsWithin c a → (2000000 ≤ a) × (a < 2000000 + (2 * k + 1))
    by e (inl same) = (omega arith, omega arith)
    by e (inr (wide, inl up)) = (omega arith, omega arith)
    by e (inr (wide, inr down)) = (omega arith, omega arith)

row_has : (k a b : ℕ) → 2000000 ≤ b → b < 2000000 + (2 * k + 1) → Contains (map (λ b. a ∷ b ∷ []) (range_with_len 2000000 (2 * k + 1))) (a ∷ b ∷ [])
row_has k a b low high = mapped (range_with_len 2000000 (2 * k + 1)) (range_has 2000000 (2 * k + 1) b low high)
  where
    mapped : (xs : List ℕ) → Contains xs b → Contains (map (λ b. a ∷ b ∷ []) xs) (a ∷ b ∷ [])
    mapped xs c = (
      c.0,
      omega (arith, c.1, length-map xs (λ (b : ℕ). a ∷ b ∷ [])),
      get_or-map (λ (b : ℕ). a ∷ b ∷ []) xs c.0 b (a ∷ b ∷ []) c.1
          ∙ ap (λ q. a ∷ q ∷ []) c.2,
    )

cube_in_grid : (k i j : ℕ) (s : List ℕ) → i < k → j < k → AllZip IsWithin (codes_of (unit_square i j)) s → Contains (grid k) s
cube_in_grid k i j [] less less' zip = absurd zip
cube_in_grid k i j (a ∷ []) less less' zip = absurd zip.1
cube_in_grid k i j (a ∷ b ∷ []) less less' zip =
    let first = end_inside k i a less zip.0 in
    let second = end_inside k j b less' zip.1.0 in
    flat_has (λ a. map (λ b. a ∷ b ∷ []) (range_with_len 2000000 (2 * k + 1))) (range_with_len 2000000 (2 * k + 1)) a (a ∷ b ∷ [])
    (range_has 2000000 (2 * k + 1) a first.0 first.1) (row_has k a b second.0 second.1)
cube_in_grid k i j (a ∷ b ∷ (e ∷ s)) less less' zip = absurd zip.1.1

-- a complex of them has few cells
pub few_in_complex : {F : Arithmetic} (k : ℕ) (c : Layout) → k ≤ 60 → IsCubicalComplex F (unit_squares k) c → length c.dims ≤ 14641
few_in_complex k c le complex =
    let among : All (Contains (grid k)) complex.cells = All-contained (Contains (grid k)) complex.cells (λ s at.
    let cube = (complex.are.all s).0 at in
    let square = square_at k cube.0 cube.1 in
    cube_in_grid k square.0 square.1 s square.2 square.3 (subst (λ (q : List (ℤ × ℤ)). AllZip IsWithin (codes_of q) s) square.4 cube.2)) in
    omega (
      arith,
      ap length complex.dims_are,
      length-map complex.cells dim_of,
      most_cells (grid k) complex.cells
          (ordered_apart rule_of_cubes complex.cells complex.are.ordered) among,
      few_in_grid k le,
    )

few_cells : (k : ℕ) → k ≤ 60 → ¬ AreMore (unit_squares k) 20000
few_cells k le more =
    let among : All (Contains (grid k)) more.some = λ t d lt.
    let cube = more.are t d lt in
    let s = square_at k cube.0 cube.1 in
    cube_in_grid k s.0 s.1 (get_or more.some t d) s.2 s.3 (subst (λ (q : List (ℤ × ℤ)). AllZip IsWithin (codes_of q) (get_or more.some t d)) s.4 cube.2) in
    omega (arith, most_cells (grid k) more.some more.apart among, more.more, few_in_grid k le)

pub squares_accepted : (k : ℕ) → k ≤ 60 → (fault : CubicalError) → ¬ Fails 2 (unit_squares k) 20000 fault
squares_accepted k le NoMemory fails = fails
squares_accepted k le (BadAxes told) fails = elim fails.1 [ inl none ↦ absurd (omega arith) | inr many ↦ absurd (omega arith) ]
squares_accepted k le (BadCube t) fails = not_bad k t le fails.0 fails.1
squares_accepted k le (TooManyCells least) fails = few_cells k le fails.1
