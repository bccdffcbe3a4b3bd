-- The first fault of entries, from what each is by itself and from the first place that stood before.
use Rattle.std.specs.List.{list_any}
use Rattle.std.proofs.Common.{◌≡◌, ℕ, zero, suc, ◌<◌, ◌≤◌, ◌==◌, ◌&&◌, ◌||◌, Bool, true, false, List, [], ◌∷◌, length, get_or, take, ap, sym, ◌∙◌, arith, refl, inl, inr, cond, Some, None}
use Rattle.std.proofs.lemmas.Bool.{cases_eq, eq-eqb, ne_eqb}
use Rattle.conley_chains.specs.declared.error.MatrixError.{MatrixError}
use Rattle.conley_chains.specs.declared.error.MatrixError.TheVariants.{Repeated}
use Rattle.conley_chains.specs.declared.placing.Placed.{Placed}
use Rattle.conley_chains.specs.Faults.{first_of_three, stands, stands_in, pair_at, triple_at, IsFaultless, IsFirstFault}
use Rattle.conley_chains.specs.Placing.{placed_at, IsOnePlace, AreApart, IsFirstRepeat, ArePlaced}

-- one of the entries before k passes a test, or none does
pub list_any-take : {X : Type 0} (t : X → Bool) (xs : List X) (k j : ℕ) (d : X) → j < k → k ≤ length xs → t (get_or xs j d) ≡ true
    → list_any t (take k xs) ≡ true
list_any-take t xs zero j d less within pass = absurd (omega arith)
list_any-take t [] (suc k) j d less within pass = absurd (omega arith)
list_any-take t (x ∷ xs) (suc k) zero d less within pass = ap (λ b. b || list_any t (take k xs)) pass
list_any-take t (x ∷ xs) (suc k) (suc j) d less within pass = ap (λ b. t x || b) (list_any-take t xs k j d (omega arith) (omega arith) pass)
    ∙ either (t x) where
      either : (b : Bool) → (b || true) ≡ true
      either true = refl
      either false = refl

pub list_any-take_none : {X : Type 0} (t : X → Bool) (xs : List X) (k : ℕ) (d : X) → ((j : ℕ) → j < k → j < length xs → t (get_or xs j d) ≡ false)
    → list_any t (take k xs) ≡ false
list_any-take_none t xs zero d none = refl
list_any-take_none t [] (suc k) d none = refl
list_any-take_none t (x ∷ xs) (suc k) d none =
    ap (λ b. b || list_any t (take k xs)) (none 0 (omega arith) (omega arith)) ∙ list_any-take_none t xs k d
    (λ j less within. none (suc j) (omega arith) (omega arith))

pub and-both : (row column r c : ℕ) → row ≡ r → column ≡ c → ((row == r) && (column == c)) ≡ true
and-both row column r c e f = ap (λ b. b && (column == c)) (eq-eqb row r e) ∙ eq-eqb column c f

pub and-apart : (row column r c : ℕ) → ((row ≡ r) → (column ≡ c) → ⊥) → ((row == r) && (column == c)) ≡ false
and-apart row column r c apart = elim (cases_eq row r) [
  | inl e ↦ ap (λ b. b && (column == c)) (eq-eqb row r e) ∙ ne_eqb column c (apart e)
  | inr n ↦ ap (λ b. b && (column == c)) (ne_eqb row r n)
]

none_with : (k : ℕ) (x y r : Bool) → first_of_three k x y false ≡ None → r ≡ false → first_of_three k x y r ≡ None
none_with k x y r none e = ap (first_of_three k x y) e ∙ none

repeated_with : (k : ℕ) (x y r : Bool) → first_of_three k x y false ≡ None → r ≡ true → first_of_three k x y r ≡ Some (Repeated k)
repeated_with k true y r none e = cc
repeated_with k false true r none e = cc
repeated_with k false false r none e = ap (λ b. cond b (Some (Repeated k)) None) e

own_with : (k : ℕ) (x y r : Bool) (error : MatrixError) → first_of_three k x y false ≡ Some error → first_of_three k x y r ≡ Some error
own_with k true y r error e = e
own_with k false true r error e = e
own_with k false false r error e = cc

-- the first `clean` of n entries are not at fault by themselves
module _ (n clean : ℕ) (x y r : ℕ → Bool) (within : clean ≤ n) (fine : IsFaultless (λ k. first_of_three k (x k) (y k) false) clean) where
  pub faultless-new : ((k : ℕ) → k < clean → r k ≡ false) → IsFaultless (λ k. first_of_three k (x k) (y k) (r k)) clean
  faultless-new new k below = none_with k (x k) (y k) (r k) (fine k below) (new k below)

  pub first_fault-repeated : (m : ℕ) → m < clean → r m ≡ true → ((k : ℕ) → k < m → r k ≡ false)
      → IsFirstFault (λ k. first_of_three k (x k) (y k) (r k)) n (Repeated m)
  first_fault-repeated m below stood new =
      (m, (omega arith, repeated_with m (x m) (y m) (r m) (fine m below) stood, λ k less. none_with k (x k) (y k) (r k) (fine k (omega arith)) (new k less)))

  pub first_fault-own : (error : MatrixError) → clean < n → first_of_three clean (x clean) (y clean) false ≡ Some error → ((k : ℕ) → k < clean → r k ≡ false)
      → IsFirstFault (λ k. first_of_three k (x k) (y k) (r k)) n error
  first_fault-own error less own new = (
    clean,
    (
      less,
      own_with clean (x clean) (y clean) (r clean) error own,
      λ k below. none_with k (x k) (y k) (r k) (fine k below) (new k below),
    ),
  )

-- places of entries that were placed
module _ (n : ℕ) (e : ℕ → ℕ × ℕ × ℕ) (ps : List Placed) (placed : ArePlaced n e ps) where
  pub one_place-placed : (j k : ℕ) → j < length ps → k < length ps → (e j).0 ≡ (e k).0 → (e j).1 ≡ (e k).1 → IsOnePlace (placed_at ps j) (placed_at ps k)
  one_place-placed j k j_below k_below rows columns = (
    ap (λ (p : Placed). p.column) (placed.each j j_below) ∙ columns ∙ sym (ap (λ (p : Placed). p.column) (placed.each k k_below)),
    ap (λ (p : Placed). p.row) (placed.each j j_below) ∙ rows ∙ sym (ap (λ (p : Placed). p.row) (placed.each k k_below)),
  )

  pub placed-one_place : (j k : ℕ) → j < length ps → k < length ps → IsOnePlace (placed_at ps j) (placed_at ps k) → ((e j).0 ≡ (e k).0) × ((e j).1 ≡ (e k).1)
  placed-one_place j k j_below k_below one = (
    sym (ap (λ (p : Placed). p.row) (placed.each j j_below)) ∙ one.1 ∙ ap (λ (p : Placed). p.row) (placed.each k k_below),
    sym (ap (λ (p : Placed). p.column) (placed.each j j_below)) ∙ one.0 ∙ ap (λ (p : Placed). p.column) (placed.each k k_below),
  )

  pub numbered-placed : (k : ℕ) → k < length ps → (placed_at ps k).number ≡ k
  numbered-placed k below = ap (λ (p : Placed). p.number) (placed.each k below)

-- a chain's entries that were placed
module _ (es : List (ℕ × ℕ)) (ps : List Placed) (placed : ArePlaced (length es) (λ k. ((pair_at es k).0, 0, (pair_at es k).1)) ps) where
  pub new-pair : (m : ℕ) → m ≤ length ps → AreApart ps m → (k : ℕ) → k < m → stands (take k es) (pair_at es k).0 ≡ false
  new-pair m within apart k below =
      list_any-take_none (λ (x : ℕ × ℕ). (pair_at es k).0 == x.0) es k (0, 0) (λ j less j_within.
      ne_eqb _ _ (λ same. apart j k less below (one_place-placed (length es) _ ps placed j k (omega arith) (omega arith) (sym same) refl)))

  pub stood-pair : (m : ℕ) → IsFirstRepeat ps m → stands (take m es) (pair_at es m).0 ≡ true
  stood-pair m first =
      let j_below : first.stood.0 < m = first.stood.1.0 in
      let m_below = first.within in
      list_any-take (λ (x : ℕ × ℕ). (pair_at es m).0 == x.0) es m first.stood.0 (0, 0) j_below (let w = placed.within in omega arith)
      (eq-eqb _ _ (sym (placed-one_place (length es) _ ps placed first.stood.0 m (omega arith) m_below first.stood.1.1).0))

-- a matrix's entries that were placed
module _ (es : List (ℕ × ℕ × ℕ)) (ps : List Placed) (placed : ArePlaced (length es) (triple_at es) ps) where
  pub new-triple : (m : ℕ) → m ≤ length ps → AreApart ps m → (k : ℕ) → k < m → stands_in (take k es) (triple_at es k).0 (triple_at es k).1 ≡ false
  new-triple m within apart k below =
      list_any-take_none (λ (x : ℕ × ℕ × ℕ). ((triple_at es k).0 == x.0) && ((triple_at es k).1 == x.1)) es k (0, 0, 0) (λ j less j_within.
      and-apart _ _ _ _ (λ rows columns. apart j k less below (one_place-placed (length es) _ ps placed j k (omega arith) (omega arith) (sym rows)
      (sym columns))))

  pub stood-triple : (m : ℕ) → IsFirstRepeat ps m → stands_in (take m es) (triple_at es m).0 (triple_at es m).1 ≡ true
  stood-triple m first =
      let j_below : first.stood.0 < m = first.stood.1.0 in
      let m_below = first.within in
      let same = placed-one_place (length es) _ ps placed first.stood.0 m (omega arith) m_below first.stood.1.1 in
      list_any-take (λ (x : ℕ × ℕ × ℕ). ((triple_at es m).0 == x.0) && ((triple_at es m).1 == x.1)) es m first.stood.0 (0, 0, 0) j_below
      (let w = placed.within in omega arith)
      (and-both _ _ _ _ (sym same.0) (sym same.1))
