-- The first incidence with a fault
use Rattle.std.proofs.Common.{◌≡◌, ◌≢◌, inl, inr, ◌+◌, ◌<◌, ◌≤◌, ℕ, List, [], ◌∷◌, ◌++◌, Bool, true, false, Some, length, get_or, take, map, refl, sym, ◌∙◌, subst, ap, arith, cond}
use Rattle.std.specs.Prelude.{Contains, ◌↔◌, not}
use Rattle.std.specs.List.{list_any}
use Rattle.std.proofs.lemmas.Bool.{cases_order, false≢true, true≢false}
use Rattle.std.proofs.lemmas.List.{length-map, length-take, get_or-map, get_or-take, take_more, map-append}
use Rattle.std.proofs.lemmas.List.Folds.{list_any_at}
use Rattle.conley_chains.specs.Faults.{triple_at}
use Rattle.conley_first.specs.Places.{FindsFirst}
use Rattle.indexmap.proofs.CallerLemmas.{Contains-list_any}
use Rattle.conley_lefschetz.specs.Making.{cells_in_triple, NotesCells, NextFault}
use Rattle.conley_lefschetz.specs.Fault.{IsFault, StoodBefore}

module _ (dims : List ℕ) (incidences : List (ℕ × ℕ × ℕ)) (k : ℕ) (lt : k < length incidences) (old new : List (ℕ × ℕ))
    (stood : (x y : ℕ) → Contains old (x, y) ↔ StoodBefore incidences k x y) (none : (j why : ℕ) → j < k → IsFault dims incidences j why → ⊥) where
  pub fault_here : (why : ℕ) → why ≢ 0 → NextFault dims old new (triple_at incidences k).0 (triple_at incidences k).1 (triple_at incidences k).2 why
      → FindsFirst (IsFault dims incidences) (Some (k, why))
  fault_here why ne n = (
    (lt, elim (n.fault ne) [ inl f ↦ inl f | inr c ↦ inr (c.0, (stood _ _).0 c.1) ]),
    (λ l q before fault. elim before [
      | inl less ↦ none l q less fault
      | inr same ↦ elim same.1 [
        | inl less ↦
            let here : IsFault dims incidences k q = subst (λ m. IsFault dims incidences m q) same.0 fault in
            elim here.1 [ inl f ↦ n.least q less f | inr c ↦ absurd (omega (arith, c.0, n.few)) ]
        | inr both ↦ absurd both.1
      ]
    ]),
  )

  pub none_more : NextFault dims old new (triple_at incidences k).0 (triple_at incidences k).1 (triple_at incidences k).2 0 → (j why : ℕ) → j < k + 1
      → IsFault dims incidences j why → ⊥
  none_more n j why in_range fault = elim (cases_order j k) [
    | inl e ↦
        let here : IsFault dims incidences k why = subst (λ m. IsFault dims incidences m why) e fault in
        elim here.1 [ inl f ↦ n.none refl why f | inr c ↦ n.fresh refl ((stood _ _).1 c.1) ]
    | inr other ↦ elim other [ inl less ↦ none j why less fault | inr more ↦ absurd (omega arith) ]
  ]

-- the places of the first k incidences
module _ (incidences : List (ℕ × ℕ × ℕ)) (k : ℕ) (le : k ≤ length incidences) (keys : List (ℕ × ℕ))
    (same : keys ≡ map cells_in_triple (take k incidences)) where
  length-keys : length keys ≡ k
  length-keys = omega (arith, ap length same, length-map (take k incidences) cells_in_triple, length-take k incidences)

  key_at : (j : ℕ) (d : ℕ × ℕ) → j < k → get_or keys j d ≡ cells_in_triple (triple_at incidences j)
  key_at j d lt =
      let lt' : j < length (take k incidences) = omega (arith, lt, le, length-take k incidences) in
      ap (λ ks. get_or ks j d) same ∙ get_or-map cells_in_triple (take k incidences) j (0, 0, 0) d lt'
      ∙ ap cells_in_triple (get_or-take k incidences j (0, 0, 0) lt)

  pub stood_keys : (x y : ℕ) → Contains keys (x, y) ↔ StoodBefore incidences k x y
  stood_keys x y = (
    (λ c.
        let lt : c.0 < k = omega (arith, c.1, length-keys) in
        let e : cells_in_triple (triple_at incidences c.0) ≡ (x, y) = sym (key_at c.0 (x, y) lt) ∙ c.2 in
        (c.0, lt, ap (λ (p : ℕ × ℕ). p.0) e, ap (λ (p : ℕ × ℕ). p.1) e)),
    (λ s. let e : cells_in_triple (triple_at incidences s.0) ≡ (x, y) = let a = s.2 in let b = s.3 in cc in
        (s.0, omega (arith, s.1, length-keys), key_at s.0 (x, y) s.1 ∙ e)),
  )

-- one place more
pub keys_more : (incidences : List (ℕ × ℕ × ℕ)) (k : ℕ) → k < length incidences → (old new : List (ℕ × ℕ)) → old ≡ map cells_in_triple (take k incidences)
    → new ≡ old ++ cells_in_triple (triple_at incidences k) ∷ [] → new ≡ map cells_in_triple (take (k + 1) incidences)
keys_more incidences k lt old new so_far added =
    added ∙ ap (λ ks. ks ++ cells_in_triple (triple_at incidences k) ∷ []) so_far ∙ sym (ap (map cells_in_triple) (take_more incidences k (0, 0, 0) lt)
    ∙ map-append cells_in_triple (take k incidences) (triple_at incidences k ∷ []))

-- a set of places gains one
module _ (eq : ℕ × ℕ → ℕ × ℕ → Bool) (same : (p q : ℕ × ℕ) → eq p q ≡ true → p ≡ q) (itself : (p : ℕ × ℕ) → eq p p ≡ true) where
  any_from_contains : (keys : List (ℕ × ℕ)) (p : ℕ × ℕ) → Contains keys p → list_any (eq p) keys ≡ true
  any_from_contains keys p c = list_any_at (eq p) keys c.0 p c.1 (subst (λ q. eq p q ≡ true) (sym c.2) (itself p))

  pub notes : (keys new : List (ℕ × ℕ)) (x y : ℕ) (added : Bool) → added ≡ not (list_any (eq (x, y)) keys)
      → new ≡ cond (list_any (eq (x, y)) keys) keys (keys ++ (x, y) ∷ []) → NotesCells keys new x y added
  notes keys new x y added e news = by (list_any (eq (x, y)) keys) refl
    where
      by : (b : Bool) → list_any (eq (x, y)) keys ≡ b → NotesCells keys new x y added
      by true h =
          let there : Contains keys (x, y) = Contains-list_any eq same keys (x, y) h in
          let n : new ≡ keys = news ∙ ap (λ b. cond b keys (keys ++ (x, y) ∷ [])) h in
          record {
            noted = λ t. absurd (true≢false (sym t ∙ e ∙ ap not h));
            fresh = λ t. absurd (true≢false (sym t ∙ e ∙ ap not h));
            stood = λ _. there;
          }
      by false h =
          let n : new ≡ keys ++ (x, y) ∷ [] = news ∙ ap (λ b. cond b keys (keys ++ (x, y) ∷ [])) h in
          record {
            noted = λ _. n;
            fresh = λ _ c. false≢true (sym h ∙ any_from_contains keys (x, y) c);
            stood = λ t. absurd (false≢true (sym t ∙ e ∙ ap not h));
          }
