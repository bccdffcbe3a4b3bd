-- Columns of the boundary, by the scalars of incidences
use Rattle.std.proofs.Common.{◌≡◌, ◌≢◌, ◌⊎◌, inl, inr, ◌+◌, ◌<◌, ◌≤◌, ◌==◌, ℕ, List, [], ◌∷◌, Bool, true, false, length, map, get_or, refl, sym, ◌∙◌, ap, arith, cond, All, zero, suc, Some, None, Option}
use Rattle.std.specs.Prelude.{Contains, ◌&&◌, not, nat_lt}
use Rattle.std.specs.List.{position_or_len, position}
use Rattle.std.specs.List.Sorted.{IsStrictlyIncreasing}
use Rattle.std.proofs.lemmas.Bool.{cases_eq, eq-eqb, ne_eqb}
use Rattle.std.proofs.lemmas.Bool.Decides.{nat_tests}
use Rattle.std.proofs.lemmas.List.{get_or-map, length-map}
use Rattle.std.proofs.lemmas.List.Kept.{AllPairs-from_increasing}
use Rattle.conley_first.specs.Places.{FindsFirstNumber}
use Rattle.conley_lists.proofs.ListLemmas.{Contains-none}
use Rattle.conley_chains.specs.Chain.{coefficient, IsChain}
use Rattle.conley_chains.specs.Faults.{triple_at}
use Rattle.conley_chains.proofs.ChainLemmas.{coefficient-lower}
use Rattle.conley_lefschetz.specs.Listing.{incidence_of}
use Rattle.conley_lefschetz.specs.Fault.{StoodBefore}

-- the scalar of x and y is that of one of the incidences there, or there is none
pub record IsListed (incidences : List (ℕ × ℕ × ℕ)) (x y : ℕ) : Type 0 where
  pub number : ℕ
  pub within : number < length incidences
  pub upper : (triple_at incidences number).0 ≡ x
  pub lower : (triple_at incidences number).1 ≡ y
  pub scalar : incidence_of incidences x y ≡ (triple_at incidences number).2

at_pair : (a b x y : ℕ) → (((a ≡ x) × (b ≡ y)) × ((x == a) && (y == b) ≡ true)) ⊎ ((((a ≡ x) × (b ≡ y)) → ⊥) × ((x == a) && (y == b) ≡ false))
at_pair a b x y = elim (cases_eq a x) [
  | inl e ↦ elim (cases_eq b y) [ inl f ↦ inl ((e, f), grind (arith, nat_tests)) | inr ne ↦ inr ((λ p. ne p.1), grind (arith, nat_tests)) ]
  | inr ne ↦ inr ((λ p. ne p.0), grind (arith, nat_tests))
]

pub incidence_of-cases : (incidences : List (ℕ × ℕ × ℕ)) (x y : ℕ) → IsListed incidences x y
    ⊎ ((incidence_of incidences x y ≡ 0) × ¬ StoodBefore incidences (length incidences) x y)
incidence_of-cases [] x y = inr (refl, (λ s. absurd (omega (arith, s.1))))
incidence_of-cases (i ∷ is) x y = elim (at_pair i.0 i.1 x y) [
  | inl here ↦ inl (record { number = 0; within = omega arith; upper = here.0.0; lower = here.0.1; scalar = ap (λ b. cond b i.2 (incidence_of is x y)) here.1 })
  | inr other ↦
      let e : incidence_of (i ∷ is) x y ≡ incidence_of is x y = ap (λ b. cond b i.2 (incidence_of is x y)) other.1 in
      elim (incidence_of-cases is x y) [
        | inl l ↦ inl (record { number = suc l.number; within = omega (arith, l.within); upper = l.upper; lower = l.lower; scalar = e ∙ l.scalar })
        | inr none ↦ inr (e ∙ none.0, past other.0 none.1)
      ]
]
  where
    past : (((i.0 ≡ x) × (i.1 ≡ y)) → ⊥) → ¬ StoodBefore is (length is) x y → ¬ StoodBefore (i ∷ is) (length (i ∷ is)) x y
    past first rest (zero, lt, a, b) = first (a, b)
    past first rest (suc j, lt, a, b) = rest (j, omega (arith, lt), a, b)

next_at : (i : ℕ × ℕ × ℕ) (is : List (ℕ × ℕ × ℕ)) (n : ℕ) → triple_at (i ∷ is) (1 + n) ≡ triple_at is n
next_at i is n = let e : 1 + n ≡ suc n = omega arith in ap (triple_at (i ∷ is)) e

-- the scalar stands at the first place of x and y
pub incidence_of-at : (incidences : List (ℕ × ℕ × ℕ)) (x y : ℕ) → incidence_of incidences x y ≡
    (triple_at incidences (position_or_len (λ (i : ℕ × ℕ × ℕ). (x == i.0) && (y == i.1)) incidences)).2
incidence_of-at [] x y = refl
incidence_of-at (i ∷ is) x y = by (incidence_of-at is x y) ((x == i.0) && (y == i.1)) refl
  where
    by : incidence_of is x y ≡ (triple_at is (position_or_len (λ (i : ℕ × ℕ × ℕ). (x == i.0) && (y == i.1)) is)).2 → (b : Bool) → (x == i.0) && (y == i.1) ≡ b
        → incidence_of (i ∷ is) x y ≡ (triple_at (i ∷ is) (position_or_len (λ (i : ℕ × ℕ × ℕ). (x == i.0) && (y == i.1)) (i ∷ is))).2
    by rest true e = ap (λ b. cond b i.2 (incidence_of is x y)) e
        ∙ sym (ap (λ b. (triple_at (i ∷ is) (cond (not b) (1 + position_or_len (λ (i : ℕ × ℕ × ℕ). (x == i.0) && (y == i.1)) is) 0)).2) e)
    by rest false e = ap (λ b. cond b i.2 (incidence_of is x y)) e ∙ rest
        ∙ sym (ap (λ (t : ℕ × ℕ × ℕ). t.2) (next_at i is (position_or_len (λ (i : ℕ × ℕ × ℕ). (x == i.0) && (y == i.1)) is)))
        ∙ sym (ap (λ b. (triple_at (i ∷ is) (cond (not b) (1 + position_or_len (λ (i : ℕ × ℕ × ℕ). (x == i.0) && (y == i.1)) is) 0)).2) e)

-- ---- a column has the scalars of its list

Contains-rest : (z : ℕ) (zs : List ℕ) (y : ℕ) → Contains (z ∷ zs) y → y ≢ z → Contains zs y
Contains-rest z zs y (zero, lt, e) ne = absurd (ne (sym e))
Contains-rest z zs y (suc k, lt, e) ne = (k, omega (arith, lt), e)

Contains-more : (z : ℕ) (zs : List ℕ) (y : ℕ) → Contains zs y → Contains (z ∷ zs) y
Contains-more z zs y c = (suc c.0, omega (arith, c.1), c.2)

module _ (f : ℕ → ℕ) where
  pub coefficient-listed : (list : List ℕ) (y : ℕ) → Contains list y → coefficient (map (λ (y : ℕ). (y, f y)) list) y ≡ f y
  coefficient-listed [] y c = Contains-none y c
  coefficient-listed (z ∷ zs) y c = elim (cases_eq y z) [
    | inl e ↦ ap (λ b. cond b (f z) (coefficient (map (λ (y : ℕ). (y, f y)) zs) y)) (eq-eqb y z e) ∙ ap f (sym e)
    | inr ne ↦ ap (λ b. cond b (f z) (coefficient (map (λ (y : ℕ). (y, f y)) zs) y)) (ne_eqb y z ne) ∙ coefficient-listed zs y (Contains-rest z zs y c ne)
  ]

  pub coefficient-unlisted : (list : List ℕ) (y : ℕ) → ¬ Contains list y → coefficient (map (λ (y : ℕ). (y, f y)) list) y ≡ 0
  coefficient-unlisted [] y none = refl
  coefficient-unlisted (z ∷ zs) y none = elim (cases_eq y z) [
    | inl e ↦ absurd (none (0, omega arith, sym e))
    | inr ne ↦ ap (λ b. cond b (f z) (coefficient (map (λ (y : ℕ). (y, f y)) zs) y)) (ne_eqb y z ne)
        ∙ coefficient-unlisted zs y (λ c. none (Contains-more z zs y c))
  ]

  abbrev pair : ℕ → ℕ × ℕ
  pair y = (y, f y)

  pub pairs_chain : (list : List ℕ) → IsStrictlyIncreasing list → All (λ y. f y ≢ 0) list → IsChain (map (λ (y : ℕ). (y, f y)) list)
  pairs_chain list ascending not_zero = record {
    ascending = λ i j d less lt.
        let n : length (map pair list) ≡ length list = length-map list pair in
        let a : get_or (map pair list) i d ≡ pair (get_or list i 0) = get_or-map pair list i 0 d (omega (arith, n, less, lt)) in
        let b : get_or (map pair list) j d ≡ pair (get_or list j 0) = get_or-map pair list j 0 d (omega (arith, n, less, lt)) in
        let step : get_or list i 0 < get_or list j 0 = AllPairs-from_increasing list ascending i j 0 less (omega (arith, n, lt)) in
        omega (arith, step, ap (λ (p : ℕ × ℕ). p.0) a, ap (λ (p : ℕ × ℕ). p.0) b);
    not_zero = λ k d lt e.
        let n : length (map pair list) ≡ length list = length-map list pair in
        let a : get_or (map pair list) k d ≡ pair (get_or list k 0) = get_or-map pair list k 0 d (omega (arith, n, lt)) in
        not_zero k 0 (omega (arith, n, lt)) (sym (ap (λ (p : ℕ × ℕ). p.1) a) ∙ e);
  }

-- ---- the first place of a chain, and all of them

pub least_kept : (es : List (ℕ × ℕ)) (d : ℕ × ℕ) → IsChain es → 0 < length es → FindsFirstNumber (λ z. coefficient es z ≢ 0) (Some (get_or es 0 d).0)
least_kept [] d chain lt = absurd (omega arith)
least_kept (e ∷ es) d chain lt = (
  (λ zero. chain.not_zero 0 d lt (sym (ap (λ b. cond b e.1 (coefficient es e.0)) (eq-eqb e.0 e.0 refl)) ∙ zero)),
  (λ j less kept. kept (coefficient-lower (e ∷ es) j (λ k q in_range. over j less k q in_range))),
)
  where
    over : (j : ℕ) → j < e.0 → (k : ℕ) (q : ℕ × ℕ) → k < length (e ∷ es) → j < (get_or (e ∷ es) k q).0
    over j less zero q in_range = less
    over j less (suc k) q in_range = let up : e.0 < (get_or (e ∷ es) (suc k) q).0 = chain.ascending 0 (suc k) q (omega arith) in_range in
        omega (arith, less, up)

pub coefficient-kept : (es : List (ℕ × ℕ)) (k : ℕ) (d : ℕ × ℕ) → IsChain es → k < length es → coefficient es (get_or es k d).0 ≡ (get_or es k d).1
coefficient-kept [] k d chain lt = absurd (omega arith)
coefficient-kept (e ∷ es) zero d chain lt = ap (λ b. cond b e.1 (coefficient es e.0)) (eq-eqb e.0 e.0 refl)
coefficient-kept (e ∷ es) (suc k) d chain lt =
    let up : e.0 < (get_or es k d).0 = chain.ascending 0 (suc k) d (omega arith) lt in
    ap (λ b. cond b e.1 (coefficient es (get_or es k d).0)) (ne_eqb (get_or es k d).0 e.0 (omega (arith, up)))
    ∙ coefficient-kept es k d (record {
      ascending = λ i j d less lt. chain.ascending (suc i) (suc j) d (omega (arith, less)) (omega (arith, lt));
      not_zero =
          λ k d lt. chain.not_zero (suc k) d (omega (arith, lt));
    }) (omega (arith, lt))

-- a place that is found, and one that isn't
pub position_found : {A : Type 0} (p : A → Bool) (xs : List A) (k : ℕ) → Some k ≡ position p xs → position_or_len p xs ≡ k
position_found p xs k e = by (nat_lt (position_or_len p xs) (length xs)) e
  where
    by : (b : Bool) → Some k ≡ cond b (Some (position_or_len p xs)) None → position_or_len p xs ≡ k
    by true e = sym (cc)
    by false e = cc

pub position_missed : {A : Type 0} (p : A → Bool) (xs : List A) → None ≡ position p xs → length xs ≤ position_or_len p xs
position_missed p xs e = by (nat_lt (position_or_len p xs) (length xs)) refl e
  where
    by : (b : Bool) → nat_lt (position_or_len p xs) (length xs) ≡ b → None ≡ cond b (Some (position_or_len p xs)) None → length xs ≤ position_or_len p xs
    by true t e = cc
    by false t e = grind (arith, nat_tests)

-- the first place at which one chain isn't zero, and another that is the same
pub finds_same : (f g : ℕ → ℕ) → ((z : ℕ) → f z ≡ g z) → (answer : Option ℕ) → FindsFirstNumber (λ z. f z ≢ 0) answer → FindsFirstNumber (λ z. g z ≢ 0) answer
finds_same f g same None found = λ j ne. found j (λ e. ne (sym (same j) ∙ e))
finds_same f g same (Some k) found = ((λ e. found.0 (same k ∙ e)), (λ j lt ne. found.1 j lt (λ e. ne (sym (same j) ∙ e))))
