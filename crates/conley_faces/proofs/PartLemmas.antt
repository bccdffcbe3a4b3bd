-- The numbers of an ascending list that meet a predicate
use Rattle.std.proofs.Common.{inl, inr, ℕ, ◌+◌, ◌<◌, ◌++◌, ◌∷◌, [], List, length, get_or, take, sym, arith, subst}
use Rattle.std.specs.Prelude.{Contains}
use Rattle.std.specs.List.Sorted.{IsStrictlyIncreasing}
use Rattle.std.proofs.lemmas.List.{take_more, get_or-take, length-take}
use Rattle.std.proofs.lemmas.List.Elements.{Contains-push, Contains-push_cases, Contains-append_left, Contains-get_or}
use Rattle.conley_lists.proofs.ListLemmas.{Contains-none, place_of, rises, increasing-push}
use Rattle.conley_faces.specs.Closures.{IsPart}

-- a number of the first k is less than number k of an ascending list
before_less : (list : List ℕ) (k y : ℕ) → IsStrictlyIncreasing list → k < length list → Contains (take k list) y → y < get_or list k 0
before_less list k y up lt c =
    let p = place_of (take k list) y c in
    let at : p.0 < k = omega (arith, p.1, length-take k list) in
    let same = get_or-take k list p.0 0 at in
    omega (arith, p.2, same, rises list up p.0 k at lt)

-- one number more of the list is looked at
module _ (P : ℕ → Type 0) (list part : List ℕ) (k : ℕ) (lt : k < length list) (up : IsStrictlyIncreasing list) (so_far : IsPart P (take k list) part) where
  abbrev x : ℕ
  x = get_or list k 0

  -- it meets the predicate
  pub part-more : P (get_or list k 0) → IsPart P (take (k + 1) list) (part ++ get_or list k 0 ∷ [])
  part-more p = record {
    ascending = increasing-push part x so_far.ascending (λ i d below. before_less list k (get_or part i d) up lt
        ((so_far.same (get_or part i d)).0 (Contains-get_or part i d below)).0);
    same = λ y. rw (take_more list k 0 lt) (
      (λ c. elim (Contains-push_cases part x y c) [
        | inl old ↦ let h = (so_far.same y).0 old in (Contains-append_left (take k list) (x ∷ []) y h.0, h.1)
        | inr e ↦ (subst (Contains (take k list ++ x ∷ [])) e (Contains-push (take k list) x), subst P e p)
      ]),
      (λ h. elim (Contains-push_cases (take k list) x y h.0) [
        | inl old ↦ Contains-append_left part (x ∷ []) y ((so_far.same y).1 (old, h.1))
        | inr e ↦ subst (Contains (part ++ x ∷ [])) e (Contains-push part x)
      ]),
    );
  }

  -- it doesn't
  pub part-other : (P (get_or list k 0) → ⊥) → IsPart P (take (k + 1) list) part
  part-other none = record {
    ascending = so_far.ascending;
    same = λ y. rw (take_more list k 0 lt) (
      (λ c. let h = (so_far.same y).0 c in (Contains-append_left (take k list) (x ∷ []) y h.0, h.1)),
      (λ h. elim (Contains-push_cases (take k list) x y h.0) [
        | inl old ↦ (so_far.same y).1 (old, h.1)
        | inr e ↦ absurd (none (subst P (sym e) h.1))
      ]),
    );
  }

-- nothing was looked at
pub part-none : (P : ℕ → Type 0) → IsPart P [] []
part-none P = record {
  ascending = λ k below. absurd (omega arith);
  same = λ y. ((λ c. Contains-none y c), (λ h. Contains-none y h.0));
}
