-- Places gathered by their numbers, one place after another.
use Rattle.std.proofs.Common.{◌≡◌, ◌≢◌, inl, inr, ◌+◌, ◌<◌, ℕ, List, [], ◌∷◌, ◌++◌, length, get_or, Vec, Global, refl, sym, ◌∙◌, subst, ap, arith, length-append}
use Rattle.std.specs.Prelude.{Contains, slice_index}
use Rattle.std.specs.List.Sorted.{IsStrictlyIncreasing}
use Rattle.std.proofs.lemmas.Bool.{cases_eq, cases_order}
use Rattle.std.proofs.lemmas.List.{get_or_past, get_or_default, map-append}
use Rattle.std.proofs.lemmas.List.Elements.{Contains-push, Contains-push_cases}
use Rattle.conley_lists.specs.Lists.{items_of, PutsUnder}
use Rattle.conley_lists.specs.Gathered.{IsNumbering, AreGathered}
use Rattle.conley_lists.proofs.ListLemmas.{Contains-none, increasing-push, row_at_end, row_before, step_begins}

module _ (numbers : List ℕ) (n : ℕ) (lt : n < length numbers) (order : IsNumbering numbers) where
  -- the number at the next place has a list, or is the next
  pub number_below : (lists : List (List ℕ)) → AreGathered numbers n lists → slice_index numbers n ≢ length lists → slice_index numbers n < length lists
  number_below lists so_far ne = elim (cases_order (slice_index numbers n) (length lists)) [
    | inl e ↦ absurd (ne e)
    | inr other ↦ elim other [ inl less ↦ less | inr more ↦ let w = order n (length lists) lt more in absurd (omega (arith, so_far.below w.0 w.1, w.2)) ]
  ]

  -- a list of its own for the next place
  pub gathered-new : (rows : List (Vec ℕ Global)) (row : Vec ℕ Global) → AreGathered numbers n (items_of rows) → row.items ≡ n ∷ []
      → slice_index numbers n ≡ length (items_of rows) →
      AreGathered numbers (n + 1) (items_of (rows ++ row ∷ []))
  gathered-new rows row so_far is next = record {
    few = omega (arith, long, so_far.few);
    below = λ x lx. elim (cases_eq x n) [
      | inl e ↦ omega (arith, ap (slice_index numbers) e, next, long)
      | inr ne ↦ omega (arith, so_far.below x (omega arith), long)
    ];
    used = λ p lp. elim (cases_eq p (length (items_of rows))) [
      | inl e ↦ (n, omega arith, next ∙ sym e)
      | inr ne ↦ let w = so_far.used p (omega (arith, long)) in (w.0, omega (arith, w.1), w.2)
    ];
    ascending = λ p. elim (cases_order p (length (items_of rows))) [
      | inl e ↦ rw (row_at_end rows row p (length (items_of rows)) refl e, is) (λ k less. absurd (omega arith))
      | inr other ↦ elim other [
        | inl less ↦ rw (row_before rows row p (length (items_of rows)) refl less) (so_far.ascending p)
        | inr past ↦ rw (get_or_past (items_of (rows ++ row ∷ [])) p [] (omega (arith, long))) (λ k less. absurd (omega arith))
      ]
    ];
    same = λ p x. elim (cases_order p (length (items_of rows))) [
      | inl e ↦
          rw (row_at_end rows row p (length (items_of rows)) refl e, is) (
            (λ c. elim (Contains-push_cases [] n x c) [
              | inl none ↦ Contains-none x none
              | inr
                  f ↦ (omega arith, sym (ap (slice_index numbers) f) ∙ next ∙ sym e)
            ]),
            (λ s. elim (cases_eq x n) [
              | inl f ↦ subst (Contains (n ∷ [])) (sym f) (Contains-push [] n)
              | inr ne ↦ absurd (omega (arith, so_far.below x (omega (arith, s.0)), s.1, e))
            ]),
          )
      | inr other ↦ elim other [
        | inl less ↦
            rw (row_before rows row p (length (items_of rows)) refl less) (
              (λ c. let s = (so_far.same p x).0 c in (omega (arith, s.0), s.1)),
              (λ s. elim (cases_eq x n) [
                | inl f ↦ absurd (omega (arith, sym (ap (slice_index numbers) f) ∙ s.1, next))
                | inr ne ↦ (so_far.same p x).1 (omega (arith, s.0), s.1)
              ]),
            )
        | inr past ↦ (
          (λ s. absurd (omega (arith, step_begins (items_of (rows ++ row ∷ [])) p x s, long))),
          (λ s. elim (cases_eq x n) [
            | inl f ↦ absurd (omega (arith, sym (ap (slice_index numbers) f) ∙ s.1, next))
            | inr ne ↦ absurd (omega (arith, so_far.below x (omega (arith, s.0)), s.1))
          ]),
        )
      ]
    ];
  }
    where
      long : length (items_of (rows ++ row ∷ [])) ≡ length (items_of rows) + 1
      long = ap length (map-append (λ (r : Vec ℕ Global). r.items) rows (row ∷ [])) ∙ length-append (items_of rows) (row.items ∷ [])

  -- the next place at the end of the list of its number
  pub gathered-old : (old new : List (List ℕ)) → AreGathered numbers n old → PutsUnder old new (slice_index numbers n) n → slice_index numbers n < length old
      → AreGathered numbers (n + 1) new
  gathered-old old new so_far puts within = record {
    few = omega (arith, puts.count, so_far.few);
    below = λ x lx. elim (cases_eq x n) [
      | inl e ↦ omega (arith, ap (slice_index numbers) e, within, puts.count)
      | inr ne ↦ omega (arith, so_far.below x (omega arith), puts.count)
    ];
    used = λ p lp. let w = so_far.used p (omega (arith, puts.count)) in (w.0, omega (arith, w.1), w.2);
    ascending = λ p. elim (cases_eq p (slice_index numbers n)) [
      | inl e ↦
          subst (λ q. IsStrictlyIncreasing (get_or new q [])) (sym e)
          (rw puts.put (increasing-push (get_or old (slice_index numbers n) []) n (so_far.ascending (slice_index numbers n))
          (λ k d less. earlier (get_or (get_or old (slice_index numbers n) []) k d) (
            k,
            less,
            get_or_default (get_or old (slice_index numbers n) []) k (get_or (get_or old (slice_index numbers n) []) k d) d less,
          ))))
      | inr ne ↦ rw (puts.kept p ne) (so_far.ascending p)
    ];
    same = λ p x. (
      (λ s. elim ((puts.steps p x).0 s) [
        | inl o ↦ let w = (so_far.same p x).0 o in (omega (arith, w.0), w.1)
        | inr e ↦ (omega (arith, e.1), ap (slice_index numbers) e.1 ∙ sym e.0)
      ]),
      (λ s. (puts.steps p x).1 (elim (cases_eq x n) [
        | inl e ↦ inr (sym s.1 ∙ ap (slice_index numbers) e, e)
        | inr ne ↦ inl ((so_far.same p x).1 (omega (arith, s.0), s.1))
      ])),
    );
  }
    where
      earlier : (x : ℕ) → Contains (get_or old (slice_index numbers n) []) x → x < n
      earlier x c = ((so_far.same (slice_index numbers n) x).0 c).0
