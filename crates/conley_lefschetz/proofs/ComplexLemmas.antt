-- The complex of incidences without a fault
use Rattle.std.proofs.Common.{◌≡◌, ◌≢◌, inl, inr, ◌<◌, ◌≤◌, ◌^◌, ℕ, List, [], length, get_or, refl, sym, ◌∙◌, subst, ap, arith, All, Option, Some, None}
use Rattle.std.proofs.lemmas.Bool.{cases_lt, cases_eq}
use Rattle.std.proofs.lemmas.List.{get_or-map, length-map, get_or_past, get_or_default}
use Rattle.std.proofs.lemmas.List.Elements.{Contains-get_or}
use Rattle.conley_first.specs.Places.{FindsFirst}
use Rattle.conley_field.specs.Arithmetic.{Arithmetic, IsField}
use Rattle.conley_algebra.specs.Entries.{product_of}
use Rattle.conley_algebra.proofs.SumLemmas as sums
use Rattle.conley_chains.specs.Chain.{coefficient, IsChain}
use Rattle.conley_chains.specs.Matrix.{Table, entry, column_count, AllCodes}
use Rattle.conley_chains.specs.Faults.{triple_at}
use Rattle.conley_lefschetz.specs.Listing.{incidence_of, square_at}
use Rattle.conley_lefschetz.specs.Making.{column_of, AreFacesOf}
use Rattle.conley_lefschetz.specs.Fault.{IsFault, StoodBefore}
use Rattle.conley_lefschetz.specs.Complex.{IsComplex}
use Rattle.conley_lefschetz.proofs.ColumnLemmas.{IsListed, incidence_of-cases, coefficient-listed, coefficient-unlisted, pairs_chain}
use Rattle.conley_lefschetz.proofs.FaceLemmas.{ends, one_down}

-- beyond the columns the square is zero
pub square_past : {F : Arithmetic} → IsField F → (m : Table) (x z : ℕ) → column_count m ≤ x → product_of F (column_count m) (entry m) (entry m) z x ≡ 0
square_past {F} laws m x z past = sums.sum_below-zero laws (column_count m) (λ k. F.mul (entry m z k) (entry m k x))
    (λ k _. ap (λ (es : List (ℕ × ℕ)). F.mul (entry m z k) (coefficient es k)) (get_or_past m.columns x [] past) ∙ sums.mul-zero laws (entry m z k))

-- scalars of incidences without a fault
module _ (dims : List ℕ) (incidences : List (ℕ × ℕ × ℕ)) (clear : (k why : ℕ) → ¬ IsFault dims incidences k why) where
  stood : (x y : ℕ) → IsListed incidences x y → StoodBefore incidences (length incidences) x y
  stood x y l = (l.number, l.within, l.upper, l.lower)

  pub stood_from_scalar : (x y : ℕ) → incidence_of incidences x y ≢ 0 → StoodBefore incidences (length incidences) x y
  stood_from_scalar x y ne = elim (incidence_of-cases incidences x y) [ inl l ↦ stood x y l | inr none ↦ absurd (ne none.0) ]

  pub scalar_from_stood : (x y : ℕ) → StoodBefore incidences (length incidences) x y → incidence_of incidences x y ≢ 0
  scalar_from_stood x y s zero = elim (incidence_of-cases incidences x y) [
    | inl l ↦ clear l.number 3 (l.within, inl (inr (inr (refl, sym l.scalar ∙ zero))))
    | inr none ↦ none.1 s
  ]

  -- what stands in the columns of a matrix
  module _ (faces : List (List ℕ)) (are : AreFacesOf incidences (length dims) faces) (m : Table) (rows : m.rows ≡ length dims)
      (count : column_count m ≡ length dims)
      (columns : (x : ℕ) → x < length dims → get_or m.columns x [] ≡ column_of incidences x (get_or faces x [])) where
    pub entries : (x y : ℕ) → entry m y x ≡ incidence_of incidences x y
    entries x y = elim (cases_lt x (length dims)) [
      | inl lt ↦ ap (λ (es : List (ℕ × ℕ)). coefficient es y) (columns x lt) ∙ elim (incidence_of-cases incidences x y) [
        | inl l ↦ coefficient-listed (incidence_of incidences x) (get_or faces x []) y ((are.steps x y).1 (stood x y l))
        | inr none ↦ coefficient-unlisted (incidence_of incidences x) (get_or faces x []) y (λ c. none.1 ((are.steps x y).0 c)) ∙ sym none.0
      ]
      | inr ge ↦ ap (λ (es : List (ℕ × ℕ)). coefficient es y) (get_or_past m.columns x [] (omega (arith, count, ge)))
          ∙ elim (incidence_of-cases incidences x y) [
            | inl l ↦ absurd (omega (arith, ge, l.upper, (ends dims incidences clear l.number l.within).0))
            | inr none ↦ sym none.0
          ]
    ]

    pub all_codes : (F : Arithmetic) → All (λ i. i.2 < F.order) incidences → AllCodes F m
    all_codes F codes x d lt k e lt' =
        let within : x < length dims = omega (arith, lt, count) in
        let is : get_or m.columns x d ≡ column_of incidences x (get_or faces x []) = get_or_default m.columns x d [] lt ∙ columns x within in
        let n : length (get_or m.columns x d) ≡ length (get_or faces x []) = ap length is ∙ length-map (get_or faces x [])
        (λ (y : ℕ). (y, incidence_of incidences x y)) in
        let lt'' : k < length (get_or faces x []) = omega (arith, lt', n) in
        let y : ℕ = get_or (get_or faces x []) k 0 in
        let at : get_or (get_or m.columns x d) k e ≡ (y, incidence_of incidences x y) = ap (λ (es : List (ℕ × ℕ)). get_or es k e) is
        ∙ get_or-map (λ (y : ℕ). (y, incidence_of incidences x y)) (get_or faces x []) k 0 e lt'' in
        let s : StoodBefore incidences (length incidences) x y = (are.steps x y).0 (k, lt'', get_or_default (get_or faces x []) k y 0 lt'') in
        elim (incidence_of-cases incidences x y) [
          | inl l ↦ let c : (triple_at incidences l.number).2 < F.order = codes l.number (0, 0, 0) l.within in
              omega (arith, c, l.scalar, ap (λ (p : ℕ × ℕ). p.1) at)
          | inr none ↦ absurd (none.1 s)
        ]

    -- the lists of faces ascend, and no listed scalar is zero
    all_chains : All IsChain m.columns
    all_chains x d lt =
        let is : get_or m.columns x d ≡ column_of incidences x (get_or faces x []) = get_or_default m.columns x d [] lt
        ∙ columns x (omega (arith, lt, count)) in
        subst IsChain (sym is) (pairs_chain (incidence_of incidences x) (get_or faces x []) (are.ascending x) (λ k y below.
        scalar_from_stood x (get_or (get_or faces x []) k y) ((are.steps x (get_or (get_or faces x []) k y)).0
        (Contains-get_or (get_or faces x []) k y below))))

    -- the square of the matrix is that of the scalars
    pub square_is : (F : Arithmetic) → IsField F → (x z : ℕ) → product_of F (column_count m) (entry m) (entry m) z x ≡ square_at F incidences (length dims) x z
    square_is F laws x z =
        ap (λ n. product_of F n (entry m) (entry m) z x) count
        ∙ sums.sum_below-congr laws (length dims) (λ k. F.mul (entry m z k) (entry m k x))
        (λ y. F.mul (incidence_of incidences x y) (incidence_of incidences y z))
        (λ k _. laws.mul_comm (entry m z k) (entry m k x) ∙ ap (λ (t : ℕ). F.mul t (entry m z k)) (entries x k)
        ∙ ap (F.mul (incidence_of incidences x k)) (entries k z))

    pub square_finds : (F : Arithmetic) → IsField F → (answer : Option (ℕ × ℕ)) → FindsFirst (λ x z. product_of F (column_count m) (entry m) (entry m) z x ≢ 0)
        answer → FindsFirst (λ x z. square_at F incidences (length dims) x z ≢ 0) answer
    square_finds F laws None found = λ x z ne. found x z (λ e. ne (sym (square_is F laws x z) ∙ e))
    square_finds F laws (Some p) found =
        ((λ e. found.0 (square_is F laws p.0 p.1 ∙ e)), (λ x z before ne. found.1 x z before (λ e. ne (sym (square_is F laws x z) ∙ e))))

    pub is_complex : (F : Arithmetic) → length dims < 2 ^ 32 → All (λ i. i.2 < F.order) incidences
        → ((x z : ℕ) → ¬ (product_of F (column_count m) (entry m) (entry m) z x ≢ 0)) → IsComplex F m dims faces
    is_complex F few codes none = record {
      few = omega (arith, few, count);
      square = rows ∙ sym count;
      codes = all_codes F codes;
      chains = all_chains;
      dims_count = sym count;
      squares = λ z x. elim (cases_eq (product_of F (column_count m) (entry m) (entry m) z x) 0) [ inl e ↦ e | inr ne ↦ absurd (none x z ne) ];
      one_down = λ y x ne. one_down dims incidences clear x y (stood_from_scalar x y (λ e. ne (entries x y ∙ e)));
      faces_count = are.count ∙ sym count;
      direct = λ x y. (
        (λ s e. scalar_from_stood x y ((are.steps x y).0 s) (sym (entries x y) ∙ e)),
        (λ ne. (are.steps x y).1 (stood_from_scalar x y (λ e. ne (entries x y ∙ e)))),
      );
      ascending = are.ascending;
    }
