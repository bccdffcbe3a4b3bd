-- What the tests of candidates say, and when a list is that of the candidates.
use Rattle.std.proofs.Common.{◌≡◌, inl, inr, ◌<◌, ℕ, Bool, true, false, not, cond, List, [], ◌∷◌, length, get_or, sym, ◌∙◌, ap, subst, arith}
use Rattle.std.specs.Prelude.{Contains, ◌↔◌, ◌==◌}
use Rattle.std.specs.List.{list_any, filter, range_with_len}
use Rattle.std.specs.List.Sorted.{IsStrictlyIncreasing}
use Rattle.std.proofs.lemmas.Bool.{eqb-true, eq-eqb, and_parts, and_from, both_ways, not-true, not_from_false, false_from_ne_true, cond-true, cond-false}
use Rattle.std.proofs.lemmas.List.Folds.{Any-from_list_any, list_any_at}
use Rattle.std.proofs.lemmas.List.Elements.{All-filter, filter_passes, Contains-get_or}
use Rattle.std.proofs.lemmas.List.Kept.{IsStrictlyIncreasing-filter}
use Rattle.conley_lists.specs.Lists.{ListedStep, IsMarked}
use Rattle.conley_lists.proofs.AscendingLemmas.{same_numbers}
use Rattle.conley_lists.proofs.ListLemmas.{step_begins}
use Rattle.conley_faces.specs.Closures.{IsInListOf, IsPart}
use Rattle.conley_lists.proofs.ContainsLemmas.{Contains-first, Contains-rest, Contains-cases}
use Rattle.conley_lefschetz.specs.Complex.{Layout}
use Rattle.conley_trial.specs.Pairs.{is_over, is_two_over, is_in_a_pair, looks_two_up, is_candidate, candidates}
use Rattle.conley_trial.specs.Making.{AreCofaces}
use Rattle.conley_trial.proofs.RangeLemmas.{range_has, range_only, range_ascends}

-- what a filter keeps
filter_only : (p : ℕ → Bool) (xs : List ℕ) (y : ℕ) → Contains (filter p xs) y → (p y ≡ true) × Contains xs y
filter_only p xs y c = (
  subst (λ z. p z ≡ true) c.2 (filter_passes p xs c.0 y c.1),
  subst (Contains xs) c.2 (All-filter p (Contains xs) xs (λ k d lt. Contains-get_or xs k d lt) c.0 y c.1),
)

filter_keeps : (p : ℕ → Bool) (xs : List ℕ) (y : ℕ) → p y ≡ true → Contains xs y → Contains (filter p xs) y
filter_keeps p [] y t c = c
filter_keeps p (x ∷ xs) y t c = elim (Contains-cases x xs y c) [
  | inl e ↦ subst (λ z. Contains (filter p (x ∷ xs)) z) (sym e) (kept_first (ap p (sym e) ∙ t))
  | inr later ↦ kept_rest (p x) (filter_keeps p xs y t later)
]
  where
    kept_first : p x ≡ true → Contains (filter p (x ∷ xs)) x
    kept_first e = subst (λ b. Contains (cond b (x ∷ filter p xs) (filter p xs)) x) (sym e) (Contains-first x (filter p xs))

    kept_rest : (b : Bool) → Contains (filter p xs) y → Contains (cond b (x ∷ filter p xs) (filter p xs)) y
    kept_rest true h = Contains-rest x (filter p xs) y h
    kept_rest false h = h

pub stands_where_any : (xs : List ℕ) (x : ℕ) → list_any (λ z. z == x) xs ≡ true → Contains xs x
stands_where_any xs x t =
    let a = Any-from_list_any (λ (z : ℕ). z == x) xs t in
    subst (Contains xs) (eqb-true a.1 x a.4) (a.0, a.2, a.3)

pub any_where_stands : (xs : List ℕ) (x : ℕ) → Contains xs x → list_any (λ z. z == x) xs ≡ true
any_where_stands xs x c = list_any_at (λ (z : ℕ). z == x) xs c.0 x c.1 (eq-eqb (get_or xs c.0 x) x c.2)

pub steps_two_over : (c : Layout) (x y : ℕ) → is_two_over c x y ≡ true → (z : ℕ) × (ListedStep c.faces y z × ListedStep c.faces z x)
steps_two_over c x y t =
    let a = Any-from_list_any (is_over c x) (get_or c.faces y []) t in
    (a.1, ((a.0, a.2, a.3), stands_where_any (get_or c.faces a.1 []) x a.4))

pub two_over_by_steps : (c : Layout) (x y z : ℕ) → ListedStep c.faces y z → ListedStep c.faces z x → is_two_over c x y ≡ true
two_over_by_steps c x y z s t =
    let there : is_over c x z ≡ true = any_where_stands (get_or c.faces z []) x t in
    list_any_at (is_over c x) (get_or c.faces y []) s.0 z s.1 (ap (is_over c x) s.2 ∙ there)

module _ (c : Layout) (pairs : List (List ℕ)) (r x : ℕ) where
  pub candidates_ascend : IsStrictlyIncreasing (candidates c pairs r x)
  unfolding candidates
  candidates_ascend = IsStrictlyIncreasing-filter (is_candidate c pairs r x) (range_with_len 0 (length c.dims)) (range_ascends (length c.dims))

  pub candidates_same : (y : ℕ) → Contains (candidates c pairs r x) y ↔ ((y < length c.dims) × (is_candidate c pairs r x y ≡ true))
  unfolding candidates
  candidates_same y = (
    (λ in_it. let h = filter_only (is_candidate c pairs r x) (range_with_len 0 (length c.dims)) y in_it in (range_only (length c.dims) y h.1, h.0)),
    (λ h. filter_keeps (is_candidate c pairs r x) (range_with_len 0 (length c.dims)) y h.1 (range_has 0 (length c.dims) y (omega arith) (omega (arith, h.0)))),
  )

  -- the cells over x that stand in no pair are the candidates
  module _ (marks : List Bool) (marks_are : (y : ℕ) → IsMarked marks y ↔ (is_in_a_pair pairs y ≡ true)) (count : length c.faces ≡ length c.dims) where
    free : (y : ℕ) → (IsMarked marks y → ⊥) → not (is_in_a_pair pairs y) ≡ true
    free y none = not_from_false (is_in_a_pair pairs y) (false_from_ne_true (is_in_a_pair pairs y) (λ t. none ((marks_are y).1 t)))

    unmarked_where_free : (y : ℕ) → not (is_in_a_pair pairs y) ≡ true → IsMarked marks y → ⊥
    unmarked_where_free y t m = both_ways (is_in_a_pair pairs y) (not-true (is_in_a_pair pairs y) t) ((marks_are y).0 m)

    by_test : (over : ℕ → Bool) (cells found : List ℕ) → ((y : ℕ) → cond (looks_two_up c r x) (is_two_over c x y) (is_over c x y) ≡ over y)
        → ((y : ℕ) → Contains cells y ↔ (over y ≡ true)) → ((y : ℕ) → over y ≡ true → y < length c.dims)
        → IsPart (λ y. IsMarked marks y → ⊥) cells found → found ≡ candidates c pairs r x
    by_test over cells found test are within part = same_numbers found (candidates c pairs r x) part.ascending candidates_ascend (λ y. (
      (λ in_found.
          let h = (part.same y).0 in_found in
          let is = (are y).0 h.0 in
          (candidates_same y).1 (
            within y is,
            and_from (cond (looks_two_up c r x) (is_two_over c x y) (is_over c x y)) (not (is_in_a_pair pairs y))
                (test y ∙ is) (free y h.1),
          )),
      (λ in_candidates.
          let h = (candidates_same y).0 in_candidates in
          let both = and_parts (cond (looks_two_up c r x) (is_two_over c x y) (is_over c x y)) (not (is_in_a_pair pairs y)) h.1 in
          (part.same y).1 ((are y).1 (sym (test y) ∙ both.0), unmarked_where_free y both.1)),
    ))

    module _ (cofaces : List (List ℕ)) (turned : AreCofaces c.faces cofaces) (found : List ℕ) where
      pub found_over : looks_two_up c r x ≡ false → IsPart (λ y. IsMarked marks y → ⊥) (get_or cofaces x []) found → found ≡ candidates c pairs r x
      found_over looks part = by_test (is_over c x) (get_or cofaces x []) found
          (λ y. cond-false (looks_two_up c r x) (is_two_over c x y) (is_over c x y) looks)
          (λ y. (
            (λ s. any_where_stands (get_or c.faces y []) x ((turned.steps x y).0 s)),
            (λ t. (turned.steps x y).1 (stands_where_any (get_or c.faces y []) x t)),
          ))
          (λ y t. omega (arith, step_begins c.faces y x (stands_where_any (get_or c.faces y []) x t), count))
          part

      pub found_two_over : (over : List ℕ) → looks_two_up c r x ≡ true → ((y : ℕ) → Contains over y ↔ IsInListOf cofaces (get_or cofaces x []) y)
          → IsPart (λ y. IsMarked marks y → ⊥) over found → found ≡ candidates c pairs r x
      found_two_over over looks same part = by_test (is_two_over c x) over found
          (λ y. cond-true (looks_two_up c r x) (is_two_over c x y) (is_over c x y) looks)
          (λ y. (
            (λ in_over. let z = (same y).0 in_over in two_over_by_steps c x y z.0 ((turned.steps z.0 y).0 z.1.1) ((turned.steps x z.0).0 z.1.0)),
            (λ t. let z = steps_two_over c x y t in (same y).1 (z.0, ((turned.steps x z.0).1 z.1.1, (turned.steps z.0 y).1 z.1.0))),
          ))
          (λ y t. let z = steps_two_over c x y t in omega (arith, step_begins c.faces y z.0 z.1.0, count))
          part
