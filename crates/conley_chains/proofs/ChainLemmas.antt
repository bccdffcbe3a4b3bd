-- Codes and places of chains.
use Rattle.std.proofs.Common.{◌≡◌, ◌≢◌, ℕ, zero, suc, ◌+◌, ◌<◌, ◌≤◌, ◌^◌, ◌==◌, List, [], ◌∷◌, ◌++◌, length, length-take, length-drop, subst, get_or, take, drop, drop-cons, ap, sym, ◌∙◌, arith, refl, inl, inr, cond, All}
use Rattle.std.proofs.lemmas.Bool.{cases_eq, cases_lt, eq-eqb, ne_eqb}
use Rattle.std.proofs.lemmas.List.{take_more, get_or-take, get_or-drop, get_or_default, drop_all}
use Rattle.std.proofs.lemmas.List.Elements.{All-head, All-tail, All-take}
use Rattle.std.specs.List.Sorted.{IsNonDecreasingBy}
use Rattle.conley_chains.specs.Chain.{coefficient, IsChain, HasCodes, first_place}
use Rattle.conley_field.specs.Arithmetic.{Arithmetic, IsField}
use Rattle.conley_algebra.proofs.SumLemmas as sums

-- nothing is kept beyond the places
pub coefficient-beyond : (es : List (ℕ × ℕ)) (n place : ℕ) → All (λ e. e.0 < n) es → n ≤ place → coefficient es place ≡ 0
coefficient-beyond [] n place before beyond = refl
coefficient-beyond (e ∷ es) n place before beyond =
    let below : e.0 < n = All-head (λ (x : ℕ × ℕ). x.0 < n) e es before in
    ap (λ b. cond b e.1 (coefficient es place)) (ne_eqb place e.0 (omega arith))
    ∙ coefficient-beyond es n place (All-tail (λ (x : ℕ × ℕ). x.0 < n) e es before) beyond

-- nor before the first
pub coefficient-lower : (es : List (ℕ × ℕ)) (place : ℕ) → ((k : ℕ) (d : ℕ × ℕ) → k < length es → place < (get_or es k d).0) → coefficient es place ≡ 0
coefficient-lower [] place after = refl
coefficient-lower (x ∷ es) place after =
    ap (λ b. cond b x.1 (coefficient es place)) (ne_eqb place x.0 (λ same. (let h = after 0 x (omega arith) in omega arith)))
    ∙ coefficient-lower es place (λ k d below. after (suc k) d (omega arith))

-- one entry more, beyond the others
pub coefficient-push : (es : List (ℕ × ℕ)) (e : ℕ × ℕ) (place : ℕ) → All (λ x. x.0 < e.0) es
    → coefficient (es ++ e ∷ []) place ≡ cond (place == e.0) e.1 (coefficient es place)
coefficient-push [] e place before = refl
coefficient-push (x ∷ es) e place before =
    let below : x.0 < e.0 = All-head (λ (y : ℕ × ℕ). y.0 < e.0) x es before in
    let rest = coefficient-push es e place (All-tail (λ (y : ℕ × ℕ). y.0 < e.0) x es before) in
    elim (cases_eq place x.0) [
      | inl same ↦
          ap (λ b. cond b x.1 (coefficient (es ++ e ∷ []) place)) (eq-eqb place x.0 same)
          ∙ sym (ap (λ b. cond b e.1 (coefficient (x ∷ es) place)) (ne_eqb place e.0 (omega arith))
          ∙ ap (λ b. cond b x.1 (coefficient es place)) (eq-eqb place x.0 same))
      | inr other ↦
          ap (λ b. cond b x.1 (coefficient (es ++ e ∷ []) place)) (ne_eqb place x.0 other) ∙ rest
          ∙ sym (ap (λ t. cond (place == e.0) e.1 t) (ap (λ b. cond b x.1 (coefficient es place)) (ne_eqb place x.0 other)))
    ]

-- the entries before the one at i lie before it
pub All-take_before : (es : List (ℕ × ℕ)) (i : ℕ) (e : ℕ × ℕ) → IsChain es → i < length es → e ≡ get_or es i e → All (λ x. x.0 < e.0) (take i es)
All-take_before es i e chain below read k d within =
    let k_below : k < i = omega (arith, length-take {A = ℕ × ℕ}) in
    let before : (get_or es k d).0 < (get_or es i d).0 = chain.ascending k i d k_below below in
    let here : get_or es i d ≡ e = get_or_default es i d e below ∙ sym read in
    rw (get_or-take i es k d k_below) (subst (λ (x : ℕ × ℕ). (get_or es k d).0 < x.0) here before)

-- one entry more of a chain
pub coefficient-take_more : (es : List (ℕ × ℕ)) (i place : ℕ) (e : ℕ × ℕ) → IsChain es → i < length es → e ≡ get_or es i e
    → coefficient (take (i + 1) es) place ≡ cond (place == e.0) e.1 (coefficient (take i es) place)
coefficient-take_more es i place e chain below read =
    ap (λ (xs : List (ℕ × ℕ)). coefficient xs place) (take_more es i e below ∙ ap (λ (x : ℕ × ℕ). take i es ++ x ∷ []) (sym read))
    ∙ coefficient-push (take i es) e place (All-take_before es i e chain below read)

-- the entry at i is the first of those from i on
pub first_place-drop : (es : List (ℕ × ℕ)) (i : ℕ) (e : ℕ × ℕ) → i < length es → e ≡ get_or es i e → first_place (drop i es) ≡ e.0
first_place-drop es i e below read = ap first_place (drop-cons es i e below) ∙ ap (λ (x : ℕ × ℕ). x.0) (sym read)

-- and lies before the next
pub first_place-next : (es : List (ℕ × ℕ)) (i : ℕ) (e : ℕ × ℕ) → IsChain es → i < length es → e ≡ get_or es i e → e.0 < 2 ^ 32
    → e.0 < first_place (drop (i + 1) es)
first_place-next es i e chain below read fits = elim (cases_lt (i + 1) (length es)) [
  | inl more ↦
      let before : (get_or es i e).0 < (get_or es (i + 1) e).0 = chain.ascending i (i + 1) e (omega arith) more in
      let first : first_place (drop (i + 1) es) ≡ (get_or es (i + 1) e).0 = ap first_place (drop-cons es (i + 1) e more) in
      subst (λ n. e.0 < n) (sym first) (subst (λ (x : ℕ × ℕ). x.0 < (get_or es (i + 1) e).0) (sym read) before)
  | inr none ↦ subst (λ n. e.0 < n) (sym (ap first_place (drop_all (i + 1) es none))) fits
]

-- a code that is read
pub HasCodes-at : (F : Arithmetic) (es : List (ℕ × ℕ)) (i : ℕ) (e : ℕ × ℕ) → HasCodes F es → i < length es → e ≡ get_or es i e → e.1 < F.order
HasCodes-at F es i e codes below read = subst (λ (x : ℕ × ℕ). x.1 < F.order) (sym read) (codes i e below)

pub IsChain-tail : (x : ℕ × ℕ) (es : List (ℕ × ℕ)) → IsChain (x ∷ es) → IsChain es
IsChain-tail x es chain = record {
  ascending = λ i j d less below. chain.ascending (suc i) (suc j) d (omega arith) (omega arith);
  not_zero = All-tail (λ (e : ℕ × ℕ). e.1 ≢ 0) x es chain.not_zero;
}

-- the code at the place of entry i
pub coefficient-at : (es : List (ℕ × ℕ)) (i : ℕ) (e : ℕ × ℕ) → IsChain es → i < length es → e ≡ get_or es i e → coefficient es e.0 ≡ e.1
coefficient-at [] i e chain below read = absurd (omega arith)
coefficient-at (x ∷ es) zero e chain below read =
    ap (λ b. cond b x.1 (coefficient es e.0)) (eq-eqb e.0 x.0 (ap (λ (y : ℕ × ℕ). y.0) read)) ∙ ap (λ (y : ℕ × ℕ). y.1) (sym read)
coefficient-at (x ∷ es) (suc i) e chain below read =
    let before : x.0 < (get_or es i e).0 = chain.ascending 0 (suc i) e (omega arith) below in
    let before' : x.0 < e.0 = subst (λ (y : ℕ × ℕ). x.0 < y.0) (sym read) before in
    ap (λ b. cond b x.1 (coefficient es e.0)) (ne_eqb e.0 x.0 (omega arith)) ∙ coefficient-at es i e (IsChain-tail x es chain) (omega arith) read

-- a code that isn't zero is that of an entry
pub entry_of : (es : List (ℕ × ℕ)) (place : ℕ) → coefficient es place ≢ 0 → (i : ℕ) × ((i < length es) × ((d : ℕ × ℕ) → (get_or es i d).0 ≡ place))
entry_of [] place some = absurd (some refl)
entry_of (x ∷ es) place some = elim (cases_eq place x.0) [
  | inl same ↦ (0, (omega arith, λ d. sym same))
  | inr other ↦
      let rest = entry_of es place (λ none. some (ap (λ b. cond b x.1 (coefficient es place)) (ne_eqb place x.0 other) ∙ none)) in
      let within : rest.0 < length es = rest.1.0 in
      (suc rest.0, (omega arith, rest.1.1))
]

-- where no code stands from n on, each place is below n
pub place_within : (es : List (ℕ × ℕ)) (n i : ℕ) (e : ℕ × ℕ) → IsChain es → ((place : ℕ) → n ≤ place → coefficient es place ≡ 0) → i < length es
    → e ≡ get_or es i e → e.0 < n
place_within es n i e chain none below read = elim (cases_lt e.0 n) [
  | inl within ↦ within
  | inr beyond ↦ absurd (subst (λ (y : ℕ × ℕ). y.1 ≢ 0) (sym read) (chain.not_zero i e below) (sym (coefficient-at es i e chain below read) ∙ none e.0 beyond))
]

pub coefficient-below : {F : Arithmetic} (laws : IsField F) (es : List (ℕ × ℕ)) (place : ℕ) → HasCodes F es → coefficient es place < F.order
coefficient-below {F} laws [] place codes = sums.zero_below laws
coefficient-below {F} laws (x ∷ es) place codes = elim (cases_eq place x.0) [
  | inl same ↦ subst (λ (t : ℕ). t < F.order) (sym (ap (λ b. cond b x.1 (coefficient es place)) (eq-eqb place x.0 same))) (codes 0 x (omega arith))
  | inr other ↦
      subst (λ (t : ℕ). t < F.order) (sym (ap (λ b. cond b x.1 (coefficient es place)) (ne_eqb place x.0 other)))
      (coefficient-below laws es place (All-tail (λ (e : ℕ × ℕ). e.1 < F.order) x es codes))
]

-- nothing is kept at a place where those before an index lie before it, and the entry there, if any, beyond
pub coefficient-between : (es : List (ℕ × ℕ)) (i place : ℕ) → IsChain es → ((k : ℕ) (d : ℕ × ℕ) → k < i → (get_or es k d).0 < place)
    → ((k : ℕ) (d : ℕ × ℕ) → i ≤ k → k < length es → place ≤ (get_or es k d).0) → (i < length es → (d : ℕ × ℕ) → (get_or es i d).0 ≢ place)
    → coefficient es place ≡ 0
coefficient-between es i place chain before after apart = elim (cases_eq (coefficient es place) 0) [
  | inl none ↦ none
  | inr some ↦
      let found = entry_of es place some in
      let within : found.0 < length es = found.1.0 in
      let at = found.1.1 (0, 0) in
      absurd (elim (cases_lt found.0 i) [
        | inl less ↦ omega (arith, before found.0 (0, 0) less, at)
        | inr more ↦ elim (cases_eq found.0 i) [
          | inl same ↦ apart (omega arith) (0, 0) (ap (λ (k : ℕ). (get_or es k (0, 0)).0) (sym same) ∙ at)
          | inr other ↦
              let here = after i (0, 0) (omega arith) (omega arith) in
              omega (arith, chain.ascending i found.0 (0, 0) (omega arith) within, at, here)
        ]
      ])
]

pub places-rise : (es : List (ℕ × ℕ)) → IsChain es → IsNonDecreasingBy (λ e. e.0) es
places-rise es chain i j d less within = elim (cases_eq i j) [
  | inl same ↦ omega (arith, ap (λ (k : ℕ). (get_or es k d).0) same)
  | inr other ↦ omega (arith, chain.ascending i j d (omega arith) within)
]

-- parts of chains
pub IsChain-take : (n : ℕ) (es : List (ℕ × ℕ)) → IsChain es → IsChain (take n es)
IsChain-take n es chain = record {
  ascending = λ i j d less below.
      let within : j < n = omega (arith, length-take {A = ℕ × ℕ}) in
      let inside : j < length es = omega (arith, length-take {A = ℕ × ℕ}) in
      rw (get_or-take n es i d (omega arith)) (rw (get_or-take n es j d within) (chain.ascending i j d less inside));
  not_zero = All-take (λ (e : ℕ × ℕ). e.1 ≢ 0) n es chain.not_zero;
}

pub IsChain-drop : (n : ℕ) (es : List (ℕ × ℕ)) → IsChain es → IsChain (drop n es)
IsChain-drop zero es chain = chain
IsChain-drop (suc n) [] chain = chain
IsChain-drop (suc n) (x ∷ es) chain = IsChain-drop n es (IsChain-tail x es chain)

-- what holds of each place, from what is kept
pub places_within : (es : List (ℕ × ℕ)) (n : ℕ) → IsChain es → ((place : ℕ) → n ≤ place → coefficient es place ≡ 0) → All (λ e. e.0 < n) es
places_within es n chain none k d below = place_within es n k (get_or es k d) chain none below (get_or_default es k d (get_or es k d) below)

-- a code is that of the first entries plus that of the others
pub coefficient-halves : {F : Arithmetic} (laws : IsField F) (half : ℕ) (es : List (ℕ × ℕ)) (place : ℕ) → IsChain es → HasCodes F es
    → coefficient es place ≡ F.add (coefficient (take half es) place) (coefficient (drop half es) place)
coefficient-halves {F} laws zero es place chain codes = sym (laws.add_comm 0 (coefficient es place)
    ∙ laws.add_zero (coefficient es place) (coefficient-below laws es place codes))
coefficient-halves {F} laws (suc half) [] place chain codes = sym (sums.add_zero_zero laws)
coefficient-halves {F} laws (suc half) (x ∷ es) place chain codes = elim (cases_eq place x.0) [
  | inl same ↦
      ap (λ b. cond b x.1 (coefficient es place)) (eq-eqb place x.0 same)
      ∙ sym (laws.add_zero x.1 (codes 0 x (omega arith)))
      ∙ ap (F.add x.1) (sym (coefficient-lower (drop half es) place (λ k d below. after k d below same)))
      ∙ ap (λ (t : ℕ). F.add t (coefficient (drop half es) place)) (sym (ap (λ b. cond b x.1 (coefficient (take half es) place)) (eq-eqb place x.0 same)))
  | inr other ↦
      ap (λ b. cond b x.1 (coefficient es place)) (ne_eqb place x.0 other)
      ∙ coefficient-halves laws half es place (IsChain-tail x es chain) (All-tail (λ (e : ℕ × ℕ). e.1 < F.order) x es codes)
      ∙ ap (λ (t : ℕ). F.add t (coefficient (drop half es) place)) (sym (ap (λ b. cond b x.1 (coefficient (take half es) place)) (ne_eqb place x.0 other)))
] where
  after : (k : ℕ) (d : ℕ × ℕ) → k < length (drop half es) → place ≡ x.0 → place < (get_or (drop half es) k d).0
  after k d below same = (let h : x.0 < (get_or es (half + k) d).0 = chain.ascending 0 (suc (half + k)) d (omega arith)
      (omega (arith, length-drop {A = ℕ × ℕ})) in rw (get_or-drop half es k d) (omega arith))
