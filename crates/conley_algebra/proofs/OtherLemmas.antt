-- The numbers other than two.
use Rattle.std.proofs.Common.{◌≡◌, ◌≢◌, ◌⊎◌, ℕ, ◌+◌, ◌-◌, ◌<◌, ◌≤◌, nat_lt, cond, ap, sym, ◌∙◌, arith, inl, inr, subst}
use mathlib.Core.Path.{fun_ext}
use Rattle.std.proofs.lemmas.Bool.{cases_lt, lt-ltb, le-ltb}
use Rattle.conley_algebra.specs.Others.{other_than, other}
use Rattle.conley_algebra.specs.Listing.{IsListing}

-- what is asked of the list of the others
pub record AreOthers (K Q : ℕ) (list : ℕ → ℕ) : Type 0 where
  pub rising : (i j : ℕ) → i < j → list i < list j
  pub not_K : (i : ℕ) → list i ≢ K
  pub not_Q : (i : ℕ) → list i ≢ Q
  pub most : (i : ℕ) → list i ≤ i + 2
  pub far : (i : ℕ) → K ≤ i + 1 → Q ≤ i + 1 → list i ≡ i + 2
  pub before : (g : ℕ) → g < K → g < Q → list g ≡ g
  pub between : (i : ℕ) → (K ≤ i) ⊎ (Q ≤ i) → (i + 1 < K) ⊎ (i + 1 < Q) → list i ≡ i + 1

-- the three parts
other_low : (low high i : ℕ) → i < low → other_than low high i ≡ i
other_low low high i below = ap (λ b. cond b i (cond (nat_lt (i + 1) high) (i + 1) (i + 2))) (lt-ltb i low below)

other_middle : (low high i : ℕ) → low ≤ i → i + 1 < high → other_than low high i ≡ i + 1
other_middle low high i above below = ap (λ b. cond b i (cond (nat_lt (i + 1) high) (i + 1) (i + 2))) (le-ltb i low above)
    ∙ ap (λ b. cond b (i + 1) (i + 2)) (lt-ltb (i + 1) high below)

other_high : (low high i : ℕ) → low ≤ i → high ≤ i + 1 → other_than low high i ≡ i + 2
other_high low high i above beyond = ap (λ b. cond b i (cond (nat_lt (i + 1) high) (i + 1) (i + 2))) (le-ltb i low above)
    ∙ ap (λ b. cond b (i + 1) (i + 2)) (le-ltb (i + 1) high beyond)

-- which of the three it is
pub data Part (low high i o : ℕ) : Type 0 where
  in_low : i < low → o ≡ i → Part low high i o
  in_middle : low ≤ i → i + 1 < high → o ≡ i + 1 → Part low high i o
  in_high : low ≤ i → high ≤ i + 1 → o ≡ i + 2 → Part low high i o

part : (low high i : ℕ) → Part low high i (other_than low high i)
part low high i = elim (cases_lt i low) [
  | inl below ↦ in_low below (other_low low high i below)
  | inr above ↦ elim (cases_lt (i + 1) high) [
    | inl below ↦ in_middle above below (other_middle low high i above below)
    | inr beyond ↦ in_high above beyond (other_high low high i above beyond)
  ]
]

rising_parts : (low high i j o p : ℕ) → low < high → i < j → Part low high i o → Part low high j p → o < p
rising_parts low high i j o p order less (in_low a e) (in_low b f) = omega arith
rising_parts low high i j o p order less (in_low a e) (in_middle b c f) = omega arith
rising_parts low high i j o p order less (in_low a e) (in_high b c f) = omega arith
rising_parts low high i j o p order less (in_middle a b e) (in_low c f) = omega arith
rising_parts low high i j o p order less (in_middle a b e) (in_middle c d f) = omega arith
rising_parts low high i j o p order less (in_middle a b e) (in_high c d f) = omega arith
rising_parts low high i j o p order less (in_high a b e) (in_low c f) = omega arith
rising_parts low high i j o p order less (in_high a b e) (in_middle c d f) = omega arith
rising_parts low high i j o p order less (in_high a b e) (in_high c d f) = omega arith

not_low : (low high i o : ℕ) → low < high → Part low high i o → o ≢ low
not_low low high i o order (in_low a e) same = omega arith
not_low low high i o order (in_middle a b e) same = omega arith
not_low low high i o order (in_high a b e) same = omega arith

not_high : (low high i o : ℕ) → low < high → Part low high i o → o ≢ high
not_high low high i o order (in_low a e) same = omega arith
not_high low high i o order (in_middle a b e) same = omega arith
not_high low high i o order (in_high a b e) same = omega arith

most_part : (low high i o : ℕ) → Part low high i o → o ≤ i + 2
most_part low high i o (in_low a e) = omega arith
most_part low high i o (in_middle a b e) = omega arith
most_part low high i o (in_high a b e) = omega arith

in_order : (low high : ℕ) → low < high → AreOthers low high (other_than low high)
in_order low high order = record {
  rising = λ i j less. rising_parts low high i j _ _ order less (part low high i) (part low high j);
  not_K = λ i. not_low low high i _ order (part low high i);
  not_Q = λ i. not_high low high i _ order (part low high i);
  most = λ i. most_part low high i _ (part low high i);
  far = λ i a b. other_high low high i (omega arith) b;
  before = λ g a b. other_low low high g a;
  between = λ i above below. other_middle low high i (elim above [ inl h ↦ h | inr h ↦ omega arith ]) (elim below [ inl h ↦ omega arith | inr h ↦ h ]);
}

turned : (K Q : ℕ) (list : ℕ → ℕ) → AreOthers Q K list → AreOthers K Q list
turned K Q list others = record {
  rising = others.rising;
  not_K = others.not_Q;
  not_Q = others.not_K;
  most = others.most;
  far = λ i a b. others.far i b a;
  before = λ g a b. others.before g b a;
  between = λ i above below. others.between i (elim above [ inl h ↦ inr h | inr h ↦ inl h ]) (elim below [ inl h ↦ inr h | inr h ↦ inl h ]);
}

pub others : (K Q : ℕ) → K ≢ Q → AreOthers K Q (other K Q)
others K Q differ = elim (cases_lt K Q) [
  | inl below ↦ subst (AreOthers K Q) (fun_ext (λ i. sym (ap (λ b. cond b (other_than K Q i) (other_than Q K i)) (lt-ltb K Q below)))) (in_order K Q below)
  | inr beyond ↦ subst (AreOthers K Q) (fun_ext (λ i. sym (ap (λ b. cond b (other_than K Q i) (other_than Q K i)) (le-ltb K Q beyond))))
      (turned K Q (other_than Q K) (in_order Q K (omega arith)))
]

-- each number other than the two is one of the list
pub place_of : (K Q : ℕ) (list : ℕ → ℕ) → K ≢ Q → AreOthers K Q list → (g : ℕ) → g ≢ K → g ≢ Q → (i : ℕ) × (list i ≡ g)
place_of K Q list differ are g not_K not_Q = elim (cases_lt g K) [
  | inl under_K ↦ elim (cases_lt g Q) [
    | inl under_Q ↦ (g, are.before g under_K under_Q)
    | inr over_Q ↦ (g - 1, are.between (g - 1) (inr (omega arith)) (inl (omega arith)) ∙ omega arith)
  ]
  | inr over_K ↦ elim (cases_lt g Q) [
    | inl under_Q ↦ (g - 1, are.between (g - 1) (inl (omega arith)) (inr (omega arith)) ∙ omega arith)
    | inr over_Q ↦ (g - 2, are.far (g - 2) (omega arith) (omega arith) ∙ omega arith)
  ]
]

module _ (K Q n s : ℕ) (differ : K ≢ Q) (K_below : K < n) (Q_below : Q < n) (count : s + 2 ≡ n) where
  pub others-listing : IsListing n (λ x. (x ≢ K) × (x ≢ Q)) s (other K Q)
  others-listing =
      let are = others K Q differ in
      record {
        within = λ i below. (let m = are.most i in omega arith);
        holds = λ i below. (are.not_K i, are.not_Q i);
        distinct = λ i j i_below j_below same. elim (cases_lt i j) [
          | inl less ↦ (let r = are.rising i j less in absurd (omega arith))
          | inr more ↦ elim (cases_lt j i) [ inl less ↦ (let r = are.rising j i less in absurd (omega arith)) | inr not ↦ omega arith ]
        ];
        all = λ g below apart.
            let found = place_of K Q (other K Q) differ are g apart.0 apart.1 in
            let e = found.1 in
            elim (cases_lt found.0 s) [
              | inl within ↦ (found.0, (within, e))
              | inr beyond ↦ (let f = are.far found.0 (omega arith) (omega arith) in absurd (omega arith))
            ];
      }

  pub others-beyond : (i : ℕ) → s ≤ i → n ≤ other K Q i
  others-beyond i beyond = (let f = (others K Q differ).far i (omega arith) (omega arith) in omega arith)
