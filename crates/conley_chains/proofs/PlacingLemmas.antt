-- Entries sorted by their places: in order, and the first that stands where an earlier one does.
use Rattle.std.specs.Prelude.{AllPairs, IfSome, IfNone}
use Rattle.std.specs.List.Sorted.{IsPermutation, IsSorted}
use Rattle.std.specs.Ordering.{ordering_then, is_lt, nat_cmp}
use Rattle.std.specs.declared.cmp.Ordering.{Ordering}
use Rattle.std.specs.declared.cmp.Ordering.TheVariants.{Less, Equal, Greater}
use Rattle.std.proofs.Common.{◌≡◌, ◌≢◌, ℕ, zero, suc, ◌+◌, ◌-◌, ◌<◌, ◌≤◌, ◌==◌, Bool, true, false, List, length, get_or, ap, sym, subst, ◌∙◌, arith, refl, inl, inr, cond, Option, None, Some, min}
use Rattle.std.proofs.lemmas.Bool.{cases_eq, cases_lt, eq-eqb, ne_eqb, lt-ltb, le-ltb}
use Rattle.std.proofs.lemmas.List.{get_or_default}
use Rattle.std.proofs.lemmas.List.Elements.{Contains-get_or}
use Rattle.std.proofs.lemmas.List.Sorted.{IsPermutation-sym, Contains-permutation, length_permutation}
use Rattle.std.proofs.lemmas.Map.Keys.{IsDistinct-IsPermutation, IsDistinct-from_apart, apart_from_distinct}
use Rattle.conley_chains.specs.declared.placing.Placed.{Placed}
use Rattle.conley_chains.specs.Placing.{placed_at, IsOnePlace, IsInOrder, AreApart, IsFirstRepeat, least_of}

-- the order of entries, as it is derived
abbrev pub placed_cmp : Placed → Placed → Ordering
placed_cmp a b =
    ordering_then (nat_cmp a.column b.column) (ordering_then (nat_cmp a.row b.row) (ordering_then (nat_cmp a.number b.number) (nat_cmp a.code b.code)))

-- what stands not before decides by the first number, and then by the rest
not_before : (x y : ℕ) (rest : Ordering) → is_lt (ordering_then (nat_cmp x y) rest) ≡ false → (y ≤ x) × (x ≡ y → is_lt rest ≡ false)
not_before x y rest h = elim (cases_lt x y) [
  | inl less ↦ (let no : true ≡ false = sym (ap (λ b. is_lt (ordering_then (cond b Less (cond (x == y) Equal Greater)) rest)) (lt-ltb x y less)) ∙ h in cc)
  | inr more ↦ (
    more,
    λ same.
        sym (ap (λ b. is_lt (ordering_then (cond b Less (cond (x == y) Equal Greater)) rest)) (le-ltb x y more)
        ∙ ap (λ b. is_lt (ordering_then (cond b Equal Greater) rest)) (eq-eqb x y same)) ∙ h,
  )
]

in_order-one : (a b : Placed) → is_lt (placed_cmp b a) ≡ false → IsInOrder a b
in_order-one a b h =
    let columns = not_before b.column a.column _ h in
    record {
      columns = columns.0;
      rows = λ one_column. (not_before b.row a.row _ (columns.1 (sym one_column))).0;
      numbers = λ one_column one_row. (not_before b.number a.number _ ((not_before b.row a.row _ (columns.1 (sym one_column))).1 (sym one_row))).0;
    }

in_order-trans : (a b c : Placed) → IsInOrder a b → IsInOrder b c → IsInOrder a c
in_order-trans a b c first second = record {
  columns = (let l = first.columns in let r = second.columns in omega arith);
  rows = λ h. (let l = first.columns in let r = second.columns in let x : a.column ≡ b.column = omega arith in let y : b.column ≡ c.column = omega arith in
      let p = first.rows x in let q = second.rows y in omega arith);
  numbers = λ h k. (let l = first.columns in let r = second.columns in let x : a.column ≡ b.column = omega arith in let y : b.column ≡ c.column = omega arith in
      let p = first.rows x in let q = second.rows y in let u : a.row ≡ b.row = omega arith in let v : b.row ≡ c.row = omega arith in
      let m = first.numbers x u in let n = second.numbers y v in omega arith);
}

-- a sorted list is in order
in_order-far : (ps : List Placed) → IsSorted placed_cmp ps → (d : Placed) (gap i : ℕ) → i + suc gap < length ps
    → IsInOrder (get_or ps i d) (get_or ps (i + suc gap) d)
in_order-far ps sorted d zero i within = subst (λ (k : ℕ). IsInOrder (get_or ps i d) (get_or ps k d)) (omega arith)
    (in_order-one _ _ (sorted i d (omega arith) (omega arith)))
in_order-far ps sorted d (suc gap) i within =
    in_order-trans _ _ _ (in_order-far ps sorted d gap i (omega arith))
    (subst (λ (k : ℕ). IsInOrder (get_or ps (i + suc gap) d) (get_or ps k d)) (omega arith)
    (in_order-one _ _ (sorted (i + suc gap) d (omega arith) (omega arith))))

pub in_order-sorted : (ps : List Placed) → IsSorted placed_cmp ps → AllPairs IsInOrder ps
in_order-sorted ps sorted i j d less within =
    subst (λ (k : ℕ). IsInOrder (get_or ps i d) (get_or ps k d)) (omega arith) (in_order-far ps sorted d (j - i - 1) i (omega arith))

-- the least repeat of the neighbours below k
pub record IsLeastBelow (ps : List Placed) (k : ℕ) (least : Option ℕ) : Type 0 where
  pub none : least ≡ None → (j : ℕ) → j + 1 < k → ¬ IsOnePlace (placed_at ps j) (placed_at ps (j + 1))
  pub found : (n : ℕ) → least ≡ Some n → (j : ℕ) × ((j + 1 < k) × (j + 1 < length ps) × IsOnePlace (placed_at ps j) (placed_at ps (j + 1))
      × ((placed_at ps (j + 1)).number ≡ n))
  pub at_most : (n : ℕ) → least ≡ Some n → (j : ℕ) → j + 1 < k → IsOnePlace (placed_at ps j) (placed_at ps (j + 1)) → n ≤ (placed_at ps (j + 1)).number

pub least_start : (ps : List Placed) → IsLeastBelow ps 1 None
least_start ps = record {
  none = λ e j below. absurd (omega arith);
  found = λ n e. cc;
  at_most = λ n e j below. absurd (omega arith);
}

-- neighbours at two places
pub least_apart : (ps : List Placed) (k : ℕ) (least : Option ℕ) → IsLeastBelow ps k least → 1 ≤ k → ¬ IsOnePlace (placed_at ps (k - 1)) (placed_at ps k)
    → IsLeastBelow ps (k + 1) least
least_apart ps k least so_far some apart = record {
  none = λ e j below. elim (cases_eq (j + 1) k) [
    | inl last ↦ λ one. apart (last_pair j last one)
    | inr other ↦ so_far.none e j (omega arith)
  ];
  found = λ n e. (let f = so_far.found n e in let b : f.0 + 1 < k = f.1.0 in (f.0, (omega arith, f.1.1, f.1.2, f.1.3)));
  at_most = λ n e j below one. elim (cases_eq (j + 1) k) [
    | inl last ↦ absurd (apart (last_pair j last one))
    | inr other ↦ so_far.at_most n e j (omega arith) one
  ];
} where
  last_pair : (j : ℕ) → j + 1 ≡ k → IsOnePlace (placed_at ps j) (placed_at ps (j + 1)) → IsOnePlace (placed_at ps (k - 1)) (placed_at ps k)
  last_pair j last one =
      subst (λ (x : ℕ). IsOnePlace (placed_at ps x) (placed_at ps k)) (omega arith) (subst (λ (x : ℕ). IsOnePlace (placed_at ps j) (placed_at ps x)) last one)

-- neighbours at one
pub least_more : (ps : List Placed) (k : ℕ) (least : Option ℕ) → IsLeastBelow ps k least → 1 ≤ k → k < length ps
    → IsOnePlace (placed_at ps (k - 1)) (placed_at ps k)
    → IsLeastBelow ps (k + 1) (Some (least_of least (placed_at ps k).number))
least_more ps k least so_far some inside one = record {
  none = λ e. cc;
  found = λ n e. found least n so_far e;
  at_most = λ n e j below pair. elim (cases_eq (j + 1) k) [
    | inl last ↦ (let m : n ≡ least_of least (placed_at ps k).number = cc in let s = least_of-most least (placed_at ps k).number in let at =
        ap (λ (x : ℕ). (placed_at ps x).number) last in omega arith)
    | inr other ↦ below_old least n so_far e j (omega arith) pair
  ];
} where
  least_of-most : (o : Option ℕ) (m : ℕ) → least_of o m ≤ m
  least_of-most None m = omega arith
  least_of-most (Some l) m = omega arith

  here : (j : ℕ) × ((j + 1 < k + 1) × (j + 1 < length ps) × IsOnePlace (placed_at ps j) (placed_at ps (j + 1))
      × ((placed_at ps (j + 1)).number ≡ (placed_at ps k).number))
  here = (
    k - 1,
    (
      omega arith,
      omega arith,
      subst (λ (x : ℕ). IsOnePlace (placed_at ps (k - 1)) (placed_at ps x)) (omega arith) one,
      ap (λ (x : ℕ). (placed_at ps x).number) (let h : k - 1 + 1 ≡ k = omega arith in h),
    ),
  )

  found : (o : Option ℕ) (n : ℕ) → IsLeastBelow ps k o → Some (least_of o (placed_at ps k).number) ≡ Some n
      → (j : ℕ) × ((j + 1 < k + 1) × (j + 1 < length ps) × IsOnePlace (placed_at ps j) (placed_at ps (j + 1)) × ((placed_at ps (j + 1)).number ≡ n))
  found None n old e = (here.0, (here.1.0, here.1.1, here.1.2, here.1.3 ∙ (let f : (placed_at ps k).number ≡ n = cc in f)))
  found (Some l) n old e = elim (cases_lt l (placed_at ps k).number) [
    | inl less ↦ (let f = old.found l refl in let b : f.0 + 1 < k = f.1.0 in let m : min l (placed_at ps k).number ≡ n = cc in
        (f.0, (omega arith, f.1.1, f.1.2, f.1.3 ∙ omega arith)))
    | inr more ↦ (let m : min l (placed_at ps k).number ≡ n = cc in (here.0, (here.1.0, here.1.1, here.1.2, here.1.3 ∙ omega arith)))
  ]

  below_old : (o : Option ℕ) (n : ℕ) → IsLeastBelow ps k o → Some (least_of o (placed_at ps k).number) ≡ Some n → (j : ℕ) → j + 1 < k
      → IsOnePlace (placed_at ps j) (placed_at ps (j + 1)) → n ≤ (placed_at ps (j + 1)).number
  below_old None n old e j below pair = absurd (old.none refl j below pair)
  below_old (Some l) n old e j below pair = (let h = old.at_most l refl j below pair in let m : min l (placed_at ps k).number ≡ n = cc in omega arith)

module _ (ps ss : List Placed) (moved : IsPermutation ps ss) (numbered : (k : ℕ) → k < length ps → (placed_at ps k).number ≡ k)
    (order : AllPairs IsInOrder ss) where
  size : length ss ≡ length ps
  size = length_permutation ps ss moved

  nowhere : Placed
  nowhere = record { column = 0; row = 0; number = 0; code = 0 }

  -- each sorted entry is the one that its number names
  pub sorted_from : (a : ℕ) → a < length ss → ((placed_at ss a).number < length ps) × (placed_at ss a ≡ placed_at ps (placed_at ss a).number)
  sorted_from a below =
      let here = Contains-permutation ss ps (placed_at ss a) (IsPermutation-sym ps ss moved)
      (Contains-get_or ss a (record { column = 0; row = 0; number = 0; code = 0 }) below) in
      let within : here.0 < length ps = here.1 in
      let is : placed_at ps here.0 ≡ placed_at ss a = get_or_default ps here.0 _ _ within ∙ here.2 in
      let number : (placed_at ss a).number ≡ here.0 = ap (λ (p : Placed). p.number) (sym is) ∙ numbered here.0 within in
      (omega arith, sym is ∙ ap (placed_at ps) (sym number))

  -- and each entry stands somewhere
  forth : (k : ℕ) → k < length ps → (a : ℕ) × ((a < length ss) × (placed_at ss a ≡ placed_at ps k))
  forth k below =
      let here = Contains-permutation ps ss (placed_at ps k) moved (Contains-get_or ps k (record { column = 0; row = 0; number = 0; code = 0 }) below) in
      (here.0, (here.1, get_or_default ss here.0 _ _ here.1 ∙ here.2))

  pub numbers_differ : (a b : ℕ) → a < b → b < length ss → (placed_at ss a).number ≢ (placed_at ss b).number
  numbers_differ a b less within same =
      let test : Placed → Placed → Bool = λ x y. x.number == y.number in
      let distinct = IsDistinct-IsPermutation test (λ x y. flips x.number y.number) ps ss moved (IsDistinct-from_apart test ps (λ i j d i_less j_below.
      ne_eqb _ _ (λ e. (
      let x : (get_or ps i d).number ≡ i = ap (λ (p : Placed). p.number) (get_or_default ps i d _ (omega arith)) ∙ numbered i (omega arith) in
      let y : (get_or ps j d).number ≡ j = ap (λ (p : Placed). p.number) (get_or_default ps j d _ j_below) ∙ numbered j j_below in
      omega (arith, e))))) in
      (let no : true ≡ false = sym (eq-eqb _ _ same) ∙ apart_from_distinct test ss a b (record { column = 0; row = 0; number = 0; code = 0 }) distinct less
      within in cc)
    where
      flips : (x y : ℕ) → (x == y) ≡ (y == x)
      flips x y = elim (cases_eq x y) [
        | inl e ↦ eq-eqb x y e ∙ sym (eq-eqb y x (sym e))
        | inr n ↦ ne_eqb x y n ∙ sym (ne_eqb y x (λ e. n (sym e)))
      ]

  -- two at one place have one neighbour at that place
  neighbour : (a b : ℕ) → a < b → b < length ss → IsOnePlace (placed_at ss a) (placed_at ss b) → IsOnePlace (placed_at ss (b - 1)) (placed_at ss (b - 1 + 1))
  neighbour a b less within one = elim (cases_eq a (b - 1)) [
    | inl last ↦ subst (λ (x : ℕ). IsOnePlace (placed_at ss (b - 1)) (placed_at ss x)) (omega arith)
        (subst (λ (x : ℕ). IsOnePlace (placed_at ss x) (placed_at ss b)) last one)
    | inr other ↦
        let low = order a (b - 1) (record { column = 0; row = 0; number = 0; code = 0 }) (omega arith) (omega arith) in
        let high = order (b - 1) b (record { column = 0; row = 0; number = 0; code = 0 }) (omega arith) within in
        let columns : (placed_at ss (b - 1)).column ≡ (placed_at ss b).column = (let l = low.columns in let h = high.columns in omega (arith, one.0)) in
        let rows : (placed_at ss (b - 1)).row ≡ (placed_at ss b).row = (let l = low.rows (one.0 ∙ sym columns) in let h = high.rows columns in
        omega (arith, one.1)) in
        subst (λ (x : ℕ). IsOnePlace (placed_at ss (b - 1)) (placed_at ss x)) (omega arith) (columns, rows)
  ]

  one_place : (x y x' y' : Placed) → x ≡ x' → y ≡ y' → IsOnePlace x y → IsOnePlace x' y'
  one_place x y x' y' e f one = (
    sym (ap (λ (p : Placed). p.column) e) ∙ one.0 ∙ ap (λ (p : Placed). p.column) f,
    sym (ap (λ (p : Placed). p.row) e) ∙ one.1
        ∙ ap (λ (p : Placed). p.row) f,
  )

  -- where the second of two at one place stands, among the sorted
  pub flagged : (j k : ℕ) → j < k → k < length ps → IsOnePlace (placed_at ps j) (placed_at ps k)
      → (b : ℕ) × ((b + 1 < length ss) × IsOnePlace (placed_at ss b) (placed_at ss (b + 1)) × ((placed_at ss (b + 1)).number ≡ k))
  flagged j k less below one =
      let first = forth j (omega arith) in
      let second = forth k below in
      let f_below : first.0 < length ss = first.1.0 in
      let s_below : second.0 < length ss = second.1.0 in
      let f_number : (placed_at ss first.0).number ≡ j = ap (λ (p : Placed). p.number) first.1.1 ∙ numbered j (omega arith) in
      let s_number : (placed_at ss second.0).number ≡ k = ap (λ (p : Placed). p.number) second.1.1 ∙ numbered k below in
      let both : IsOnePlace (placed_at ss first.0) (placed_at ss second.0) = one_place _ _ _ _ (sym first.1.1) (sym second.1.1) one in
      elim (cases_lt first.0 second.0) [
        | inl before ↦ (
          second.0 - 1,
          (
            omega arith,
            neighbour first.0 second.0 before s_below both,
            ap (λ (x : ℕ). (placed_at ss x).number) (let e : second.0 - 1 + 1 ≡ second.0 = omega arith in e) ∙ s_number,
          ),
        )
        | inr not ↦ elim (cases_eq first.0 second.0) [
          | inl same ↦ absurd (let e = ap (λ (x : ℕ). (placed_at ss x).number) same in omega arith)
          | inr other ↦ absurd (let h = (order second.0 first.0 (record { column = 0; row = 0; number = 0; code = 0 }) (omega arith) f_below).numbers
              (sym both.0) (sym both.1) in omega arith)
        ]
      ]

  -- no neighbours at one place: no two entries at one place
  pub apart_if_none : ((j : ℕ) → j + 1 < length ss → ¬ IsOnePlace (placed_at ss j) (placed_at ss (j + 1))) → AreApart ps (length ps)
  apart_if_none none j k less below one = (let f = flagged j k less below one in none f.0 f.1.0 f.1.1)

  -- the least of them is the first that stands where an earlier one does
  pub first_if_least : (n j : ℕ) → j + 1 < length ss → IsOnePlace (placed_at ss j) (placed_at ss (j + 1)) → (placed_at ss (j + 1)).number ≡ n
      → ((i : ℕ) → i + 1 < length ss → IsOnePlace (placed_at ss i) (placed_at ss (i + 1)) → n ≤ (placed_at ss (i + 1)).number) → IsFirstRepeat ps n
  first_if_least n j within one at least =
      let former = sorted_from j (omega arith) in
      let latter = sorted_from (j + 1) within in
      let i = (placed_at ss j).number in
      let rise : i ≤ (placed_at ss (j + 1)).number = (order j (j + 1) (record { column = 0; row = 0; number = 0; code = 0 }) (omega arith) within).numbers
      one.0 one.1 in
      let differ = numbers_differ j (j + 1) (omega arith) within in
      let below : i < n = omega (arith, differ) in
      record {
        within = (let l : (placed_at ss (j + 1)).number < length ps = latter.0 in omega arith);
        stood = (i, (below, one_place _ _ _ _ former.1 (latter.1 ∙ ap (placed_at ps) at) one));
        apart = λ x y less y_below pair.
            let n_within : (placed_at ss (j + 1)).number < length ps = latter.0 in
            let f = flagged x y less (omega arith) pair in
            let l = least f.0 f.1.0 f.1.1 in
            let e : (placed_at ss (f.0 + 1)).number ≡ y = f.1.2 in
            omega arith;
      }

pub IfSome-each : (P : ℕ → Type 0) (o : Option ℕ) → ((n : ℕ) → o ≡ Some n → P n) → IfSome o P
IfSome-each P None each = tt
IfSome-each P (Some n) each = each n refl

module _ (ps ss : List Placed) (moved : IsPermutation ps ss) (numbered : (k : ℕ) → k < length ps → (placed_at ps k).number ≡ k)
    (order : AllPairs IsInOrder ss) where
  pub repeats_none : (o : Option ℕ) → IfNone o ((j : ℕ) → j + 1 < length ss → ¬ IsOnePlace (placed_at ss j) (placed_at ss (j + 1)))
      → IfNone o (AreApart ps (length ps))
  repeats_none None none = apart_if_none ps ss moved numbered order none
  repeats_none (Some n) none = tt

  pub repeats_first : (o : Option ℕ)
      → IfSome o (λ n. (j : ℕ) × ((j + 1 < length ss) × IsOnePlace (placed_at ss j) (placed_at ss (j + 1)) × ((placed_at ss (j + 1)).number ≡ n)))
      → IfSome o (λ n. (j : ℕ) → j + 1 < length ss → IsOnePlace (placed_at ss j) (placed_at ss (j + 1)) → n ≤ (placed_at ss (j + 1)).number)
      → IfSome o (IsFirstRepeat ps)
  repeats_first None found least = tt
  repeats_first (Some n) found least = first_if_least ps ss moved numbered order n found.0 found.1.0 found.1.1 found.1.2 least

module _ (ps ss : List Placed) (moved : IsPermutation ps ss) (numbered : (k : ℕ) → k < length ps → (placed_at ps k).number ≡ k)
    (order : AllPairs IsInOrder ss) where
  -- sorted entries stand at places that differ where those before the sorting do
  pub sorted_apart : AreApart ps (length ps) → (a b : ℕ) → a < b → b < length ss → ¬ IsOnePlace (placed_at ss a) (placed_at ss b)
  sorted_apart apart a b less within one =
      let former = sorted_from ps ss moved numbered order a (omega arith) in
      let latter = sorted_from ps ss moved numbered order b within in
      let m = (placed_at ss a).number in
      let n = (placed_at ss b).number in
      let m_within : m < length ps = former.0 in
      let n_within : n < length ps = latter.0 in
      let both : IsOnePlace (placed_at ps m) (placed_at ps n) = (
        ap (λ (p : Placed). p.column) (sym former.1) ∙ one.0 ∙ ap (λ (p : Placed). p.column) latter.1,
        ap (λ (p : Placed). p.row) (sym former.1) ∙ one.1 ∙ ap (λ (p : Placed). p.row) latter.1,
      ) in
      elim (cases_lt m n) [
        | inl m_less ↦ apart m n m_less n_within both
        | inr m_more ↦ elim (cases_eq m n) [
          | inl same ↦ numbers_differ ps ss moved numbered order a b less within same
          | inr other ↦ apart n m (omega arith) m_within (sym both.0, sym both.1)
        ]
      ]
