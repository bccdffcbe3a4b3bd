-- The vertices of a listed simplex, noted one after another.
use Rattle.std.proofs.Common.{◌≡◌, ◌≢◌, inl, inr, ◌+◌, ◌<◌, ◌≤◌, ℕ, List, [], ◌∷◌, ◌++◌, Bool, true, false, nat_eq, length, take, get_or, refl, sym, ◌∙◌, ap, subst, arith, cond}
use Rattle.std.specs.Prelude.{All, Contains, not}
use Rattle.std.specs.List.{AllPairs, list_any}
use Rattle.std.proofs.lemmas.Bool.{or_cases, or_left, or_right, false≢true, true≢false, eqb-true, eq-eqb}
use Rattle.std.proofs.lemmas.List.{get_or_default, get_or-take, length-take-le, take_more, take_all}
use Rattle.std.proofs.lemmas.List.Elements.{All-push}
use Rattle.std.proofs.lemmas.List.Quantifiers.{all_pairs_push}
use Rattle.conley_lists.proofs.ContainsLemmas.{Contains-rest, Contains-cases}
use Rattle.conley_generated.proofs.CellLemmas.{Contains-empty}
use Rattle.conley_simplicial.specs.Fault.{IsBadSimplex}
use Rattle.conley_simplicial.specs.Making.{NotesVertex}

tested : (keys : List ℕ) (v : ℕ) → list_any (nat_eq v) keys ≡ true → Contains keys v
tested [] v e = absurd (false≢true e)
tested (key ∷ keys) v e = elim (or_cases (nat_eq v key) (list_any (nat_eq v) keys) e) [
  | inl here ↦ (0, omega arith, sym (eqb-true v key here))
  | inr later ↦ Contains-rest key keys v (tested keys v later)
]

contained : (keys : List ℕ) (v : ℕ) → Contains keys v → list_any (nat_eq v) keys ≡ true
contained [] v c = Contains-empty v c
contained (key ∷ keys) v c = elim (Contains-cases key keys v c) [
  | inl e ↦ or_left (nat_eq v key) (list_any (nat_eq v) keys) (eq-eqb v key e)
  | inr later ↦ or_right (nat_eq v key) (list_any (nat_eq v) keys) (contained keys v later)
]

pub notes_vertex : (keys new : List ℕ) (v : ℕ) (added : Bool) → added ≡ not (list_any (nat_eq v) keys)
    → new ≡ cond (list_any (nat_eq v) keys) keys (keys ++ v ∷ []) → NotesVertex keys new v added
notes_vertex keys new v added e is = by (list_any (nat_eq v) keys) refl e is
  where
    by : (b : Bool) → list_any (nat_eq v) keys ≡ b → added ≡ not b → new ≡ cond b keys (keys ++ v ∷ []) → NotesVertex keys new v added
    by true t e same = record {
      noted = λ yes. absurd (false≢true (sym e ∙ yes));
      fresh = λ yes. absurd (false≢true (sym e ∙ yes));
      stood =
          λ _. tested keys v t;
    }
    by false t e same = record { noted = λ _. same; fresh = λ _ c. false≢true (sym t ∙ contained keys v c); stood = λ no. absurd (true≢false (sym e ∙ no)) }

-- the first i numbers of a list are vertices, and no two of them are one
pub record IsGoodUpTo (n : ℕ) (list seen : List ℕ) (i : ℕ) : Type 0 where
  pub seen_are : seen ≡ take i list
  pub apart : AllPairs (λ v w. v ≢ w) seen
  pub below : All (λ v. v < n) seen

module _ (n : ℕ) (list : List ℕ) where
  pub good_none : (seen : List ℕ) → seen ≡ [] → IsGoodUpTo n list seen 0
  good_none seen e = record {
    seen_are = e;
    apart = λ i j d less lt. absurd (omega (arith, lt, ap length e));
    below = λ k d lt. absurd (omega (arith, lt, ap length e));
  }

  module _ (seen : List ℕ) (i : ℕ) (good : IsGoodUpTo n list seen i) (lt : i < length list) where
    pub good_more : (new : List ℕ) (v : ℕ) → v ≡ get_or list i 0 → v < n → NotesVertex seen new v true → IsGoodUpTo n list new (i + 1)
    good_more new v is below notes = record {
      seen_are = notes.noted refl ∙ ap (λ l. l ++ v ∷ []) good.seen_are ∙ ap (λ u. take i list ++ u ∷ []) is ∙ sym (take_more list i 0 lt);
      apart = subst (λ l. AllPairs (λ v w. v ≢ w) l) (sym (notes.noted refl)) (all_pairs_push (λ v w. v ≢ w) seen v good.apart
          (λ k d within e. notes.fresh refl (k, within, get_or_default seen k v d within ∙ e)));
      below = subst (λ l. All (λ v. v < n) l) (sym (notes.noted refl)) (All-push (λ v. v < n) seen v good.below below);
    }

    pub bad_beyond : (v : ℕ) → v ≡ get_or list i 0 → n ≤ v → IsBadSimplex n list
    bad_beyond v is beyond = inr (inr (i, lt, omega (arith, is, beyond)))

    pub bad_twice : (new : List ℕ) (v : ℕ) → v ≡ get_or list i 0 → NotesVertex seen new v false → IsBadSimplex n list
    bad_twice new v is notes =
        let there = notes.stood refl in
        let few : there.0 < i = omega (arith, there.1, ap length good.seen_are, length-take-le i list (omega (arith, lt))) in
        inr (inl (
          there.0,
          i,
          few,
          lt,
          sym (get_or-take i list there.0 0 few) ∙ sym (ap (λ l. get_or l there.0 0) good.seen_are)
              ∙ get_or_default seen there.0 0 v there.1 ∙ there.2 ∙ is,
        ))

  pub good_all : (seen : List ℕ) (i : ℕ) → IsGoodUpTo n list seen i → length list ≤ i → 0 < length list → ¬ IsBadSimplex n list
  good_all seen i good le some bad =
      let whole : seen ≡ list = good.seen_are ∙ take_all i list le in
      elim bad [
        | inl none ↦ absurd (omega (arith, none, some))
        | inr other ↦ elim other [
          | inl twice ↦ subst (λ l. AllPairs (λ v w. v ≢ w) l) whole good.apart twice.0 twice.1 0 twice.2 twice.3 twice.4
          | inr beyond ↦ let below = subst (λ l. All (λ v. v < n) l) whole good.below beyond.0 0 beyond.1 in absurd (omega (arith, below, beyond.2))
        ]
      ]
