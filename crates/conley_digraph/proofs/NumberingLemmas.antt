-- Numbers in the order of first nodes, and classes by them.
use Rattle.std.proofs.Common.{◌≡◌, inl, inr, ◌+◌, ◌<◌, ◌≤◌, ℕ, List, [], ◌∷◌, ◌++◌, length, set, refl, sym, ap, ◌∙◌, arith, get_or-set_other, get_or-set_same}
use Rattle.std.specs.Prelude.{◌↔◌, Option, None, Some, slice_index, slice_index_or}
use Rattle.std.proofs.lemmas.Bool.{cases_eq}
use Rattle.std.proofs.lemmas.List.{get_or_append_left, get_or_push, length_push}
use Rattle.std.proofs.lemmas.Option.{none-some, same_Some}
use Rattle.conley_walk.specs.Walk.{Reaches}
use Rattle.conley_lists.specs.Lists.{ListedStep}
use Rattle.conley_walk.proofs.WalkLemmas.{reaches_least}
use Rattle.conley_digraph.specs.Classes.{AreClasses}
use Rattle.conley_digraph.specs.Closing.{AreClosing}
use Rattle.conley_digraph.specs.Numbering.{IsRenumbered, IsRenumberedSoFar}

-- what isn't some value is none
pub none_unless : (o : Option ℕ) → ((c : ℕ) → o ≡ Some c → ⊥) → o ≡ None
none_unless None other = refl
none_unless (Some c) other = absurd (other c refl)

-- one node more, and the list of its number besides
module _ (numbers class_of : List ℕ) (n class : ℕ) (count : length class_of ≡ n) where
  pub old_class : (x : ℕ) → x < n → slice_index (class_of ++ class ∷ []) x ≡ slice_index class_of x
  old_class x lt = get_or_append_left class_of (class ∷ []) 0 x (omega (arith, count))

  pub new_class : slice_index (class_of ++ class ∷ []) n ≡ class
  new_class = get_or_push class_of class 0 n count

  -- the number of the node is told apart as before
  pub renumbered_more : IsRenumbered numbers class_of n → class ≤ n → ((x : ℕ) → x < n → (slice_index class_of x ≡ class)
      ↔ (slice_index numbers x ≡ slice_index numbers n)) →
      ((k : ℕ) → k < class → (x : ℕ) × (x < n) × (slice_index class_of x ≡ k)) → IsRenumbered numbers (class_of ++ class ∷ []) (n + 1)
  renumbered_more done le apart used = record {
    count = omega (arith, length_push class_of class, count);
    same = λ x y lx ly. elim (cases_eq x n) [
      | inl ex ↦ elim (cases_eq y n) [
        | inl ey ↦ ((λ _. ap (slice_index numbers) (ex ∙ sym ey)), (λ _. ap (slice_index (class_of ++ class ∷ [])) (ex ∙ sym ey)))
        | inr ny ↦
            let lt : y < n = omega arith in
            let a = apart y lt in (
              (λ e. ap (slice_index numbers) ex ∙ sym (a.0 (sym (old_class y lt) ∙ sym e ∙ ap (slice_index (class_of ++ class ∷ [])) ex ∙ new_class))),
              (λ e. ap (slice_index (class_of ++ class ∷ [])) ex ∙ new_class ∙ sym (a.1 (sym e ∙ ap (slice_index numbers) ex)) ∙ sym (old_class y lt)),
            )
      ]
      | inr nx ↦
          let lt : x < n = omega arith in
          elim (cases_eq y n) [
            | inl ey ↦
                let a = apart x lt in (
                  (λ e. a.0 (sym (old_class x lt) ∙ e ∙ ap (slice_index (class_of ++ class ∷ [])) ey ∙ new_class) ∙ ap (slice_index numbers) (sym ey)),
                  (λ e. old_class x lt ∙ a.1 (e ∙ ap (slice_index numbers) ey) ∙ sym new_class ∙ ap (slice_index (class_of ++ class ∷ [])) (sym ey)),
                )
            | inr ny ↦
                let lt' : y < n = omega arith in
                let d = done.same x y lt lt' in
                ((λ e. d.0 (sym (old_class x lt) ∙ e ∙ old_class y lt')), (λ e. old_class x lt ∙ d.1 e ∙ sym (old_class y lt')))
          ]
    ];
    in_order = λ x k lx lk. elim (cases_eq x n) [
      | inl ex ↦
          let w = used k (omega (arith, lk, ap (slice_index (class_of ++ class ∷ [])) ex, new_class)) in
          (w.0, omega (arith, w.1, ex), old_class w.0 w.1 ∙ w.2)
      | inr nx ↦
          let lt : x < n = omega arith in
          let w = done.in_order x k lt (omega (arith, lk, old_class x lt)) in
          (w.0, w.1, old_class w.0 (omega (arith, w.1, lt)) ∙ w.2)
    ];
    low = λ x lx. elim (cases_eq x n) [
      | inl ex ↦ omega (arith, ap (slice_index (class_of ++ class ∷ [])) ex, new_class, le, ex)
      | inr nx ↦ let lt : x < n = omega arith in omega (arith, old_class x lt, done.low x lt)
    ];
  }

module _ (numbers class_of : List ℕ) (renamed : List (Option ℕ)) (next n : ℕ) (so_far : IsRenumberedSoFar numbers class_of renamed next n) where
  -- the number of node n was seen
  pub renamed_same : (class : ℕ) → slice_index_or renamed (slice_index numbers n) None ≡ Some class
      → IsRenumberedSoFar numbers (class_of ++ class ∷ []) renamed next (n + 1)
  renamed_same class h = record {
    done = renumbered_more numbers class_of n class so_far.done.count so_far.done (omega (arith, seen.0, so_far.few))
        (λ x lt. (
          (λ e. (so_far.done.same x seen.1.0 lt seen.1.1).0 (e ∙ sym seen.1.3) ∙ seen.1.2),
          (λ e. same_Some (slice_index class_of x) class (sym (so_far.known x lt) ∙ ap (λ k. slice_index_or renamed k None) e ∙ h)),
        ))
        (λ k lk. so_far.used k (omega (arith, lk, seen.0)));
    few = omega (arith, so_far.few);
    known = λ x lx. elim (cases_eq x n) [
      | inl e ↦ ap (λ y. slice_index_or renamed (slice_index numbers y) None) e ∙ h ∙ ap Some (sym (ap (slice_index (class_of ++ class ∷ [])) e ∙ new))
      | inr ne ↦ let lt : x < n = omega arith in so_far.known x lt ∙ ap Some (sym (old x lt))
    ];
    named = λ k c e. let w = so_far.named k c e in (w.0, (w.1.0, omega (arith, w.1.1), w.1.2, old w.1.0 w.1.1 ∙ w.1.3));
    used = λ c lc. let w = so_far.used c lc in (w.0, omega (arith, w.1), old w.0 w.1 ∙ w.2);
  }
    where
      seen : (class < next) × ((x : ℕ) × (x < n) × (slice_index numbers x ≡ slice_index numbers n) × (slice_index class_of x ≡ class))
      seen = so_far.named (slice_index numbers n) class h

      old : (x : ℕ) → x < n → slice_index (class_of ++ class ∷ []) x ≡ slice_index class_of x
      old = old_class numbers class_of n class so_far.done.count

      new : slice_index (class_of ++ class ∷ []) n ≡ class
      new = new_class numbers class_of n class so_far.done.count

  -- the number of node n is new
  pub renamed_more : slice_index numbers n < length renamed → slice_index_or renamed (slice_index numbers n) None ≡ None →
      IsRenumberedSoFar numbers (class_of ++ next ∷ []) (set renamed (slice_index numbers n) (Some next)) (next + 1) (n + 1)
  renamed_more within h = record {
    done = renumbered_more numbers class_of n next so_far.done.count so_far.done so_far.few
        (λ x lt. (
          (λ e. absurd (omega (arith, e, (so_far.named (slice_index numbers x) (slice_index class_of x) (so_far.known x lt)).0))),
          (λ e. absurd (other x lt e)),
        ))
        so_far.used;
    few = omega (arith, so_far.few);
    known = λ x lx. elim (cases_eq x n) [
      | inl e ↦
          ap (λ y. slice_index_or (set renamed (slice_index numbers n) (Some next)) (slice_index numbers y) None) e
          ∙ get_or-set_same renamed (slice_index numbers n) (Some next) None within
          ∙ ap Some (sym (ap (slice_index (class_of ++ next ∷ [])) e ∙ new))
      | inr ne ↦
          let lt : x < n = omega arith in
          get_or-set_other renamed (slice_index numbers n) (slice_index numbers x) (Some next) None (other x lt) ∙ so_far.known x lt ∙ ap Some (sym (old x lt))
    ];
    named = λ k c e. elim (cases_eq k (slice_index numbers n)) [
      | inl here ↦
          let is : next ≡ c = same_Some next c (sym (get_or-set_same renamed (slice_index numbers n) (Some next) None within)
          ∙ ap (λ j. slice_index_or (set renamed (slice_index numbers n) (Some next)) j None) (sym here) ∙ e) in
          (omega (arith, is), (n, omega arith, sym here, new ∙ is))
      | inr ne ↦
          let w = so_far.named k c (sym (get_or-set_other renamed (slice_index numbers n) k (Some next) None ne) ∙ e) in
          (omega (arith, w.0), (w.1.0, omega (arith, w.1.1), w.1.2, old w.1.0 w.1.1 ∙ w.1.3))
    ];
    used = λ c lc. elim (cases_eq c next) [
      | inl e ↦ (n, omega arith, new ∙ sym e)
      | inr ne ↦ let w = so_far.used c (omega arith) in (w.0, omega (arith, w.1), old w.0 w.1 ∙ w.2)
    ];
  }
    where
      old : (x : ℕ) → x < n → slice_index (class_of ++ next ∷ []) x ≡ slice_index class_of x
      old = old_class numbers class_of n next so_far.done.count

      new : slice_index (class_of ++ next ∷ []) n ≡ next
      new = new_class numbers class_of n next so_far.done.count

      other : (x : ℕ) → x < n → slice_index numbers x ≡ slice_index numbers n → ⊥
      other x lt e = none-some (slice_index class_of x) (sym h ∙ ap (λ k. slice_index_or renamed k None) (sym e) ∙ so_far.known x lt)

-- classes are told apart by the order in which they were closed, in any numbering
pub closing_classes : (lists : List (List ℕ)) (numbers roots class_of : List ℕ) → AreClosing lists numbers roots
    → IsRenumbered numbers class_of (length numbers) → AreClasses lists class_of
closing_classes lists numbers roots class_of closing renumbered = record {
  count = renumbered.count ∙ closing.count;
  same = λ x y lx ly.
      let r = renumbered.same x y (omega (arith, closing.count)) (omega (arith, closing.count)) in (
        (λ e. record { there = closing.same x y lx ly (r.0 e); back = closing.same y x ly lx (sym (r.0 e)) }),
        (λ m. r.1 (omega (arith, falls x y m.there, falls y x m.back))),
      );
  in_order = λ x k lx. renumbered.in_order x k (omega (arith, closing.count));
}
  where
    falls : (x y : ℕ) → Reaches (ListedStep lists) x y → slice_index numbers y ≤ slice_index numbers x
    falls x y r = reaches_least (λ q. slice_index numbers q ≤ slice_index numbers x) (λ a b step le. omega (arith, le, closing.steps a b step)) r (omega arith)
