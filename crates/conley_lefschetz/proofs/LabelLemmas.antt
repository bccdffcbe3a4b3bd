-- Numbering labels one after another
use Rattle.std.proofs.Common.{◌≡◌, inl, inr, ◌+◌, ◌<◌, ◌≤◌, ℕ, List, [], ◌∷◌, ◌++◌, Bool, true, false, Some, None, String, string_bytes, length, take, drop, get_or, refl, sym, ◌∙◌, ap, subst, arith, cond}
use Rattle.std.specs.Prelude.{not, bytes_eq}
use Rattle.std.specs.List.{list_any, position_or_len, position}
use Rattle.std.specs.String.{string_eq}
use Rattle.std.specs.declared.alloc.Global.{Global}
use Rattle.std.proofs.lemmas.Bool.{cases_lt, false≢true, true≢false}
use Rattle.std.proofs.lemmas.Bool.Decides.{nat_tests}
use Rattle.std.proofs.lemmas.Slice.Eq.{bytes_eq-Decides}
use Rattle.std.proofs.lemmas.List.{get_or-map, map-append, get_or_append_left, length-append, length-take-le, take_more, take-append-drop, drop_more}
use Rattle.std.proofs.Math.Seq.{get_or-append_seam}
use Rattle.std.proofs.lemmas.List.Folds.{list_any_at}
use Rattle.std.proofs.lemmas.List.Quantifiers.{position-Some}
use Rattle.std.proofs.lemmas.List.Sums.{fails_before_first}
use Rattle.conley_lefschetz.specs.Making.{NumbersLabel}
use Rattle.conley_lefschetz.specs.Fault.{IsDuplicate, FindsEqual}
use Rattle.conley_first.specs.First.{Precedes}
use Rattle.conley_lefschetz.specs.Listing.{bytes_of}
use Rattle.conley_lefschetz.proofs.ColumnLemmas.{position_missed}
use Rattle.conley_lefschetz.proofs.TextLemmas.{length-bytes_of}

module _ (keys : List (String Global)) (copy : String Global) where
  -- a key that the test finds is the same text, and the same text is found
  found_text : (i : ℕ) → i < length keys → string_eq copy (get_or keys i copy) ≡ true → get_or (bytes_of keys) i [] ≡ string_bytes copy
  found_text i lt e = get_or-map string_bytes keys i copy [] lt ∙ sym ((bytes_eq-Decides (string_bytes copy) (string_bytes (get_or keys i copy))).0 e)

  text_found : (i : ℕ) → i < length keys → get_or (bytes_of keys) i [] ≡ string_bytes copy → string_eq copy (get_or keys i copy) ≡ true
  text_found i lt e = (bytes_eq-Decides (string_bytes copy) (string_bytes (get_or keys i copy))).1 (sym e ∙ get_or-map string_bytes keys i copy [] lt)

  pub numbers_new : (label : List ℕ) (new : List (String Global)) → string_bytes copy ≡ label → true ≡ not (list_any (string_eq copy) keys)
      → new ≡ (cond (list_any (string_eq copy) keys) keys (keys ++ copy ∷ [])) → NumbersLabel (bytes_of keys) (bytes_of new) label None
  numbers_new label new e added same =
      let none : list_any (string_eq copy) keys ≡ false = by (list_any (string_eq copy) keys) added in (
        ap bytes_of (same ∙ ap (λ b. cond b keys (keys ++ copy ∷ [])) none) ∙ (rw map-append (ap (λ l. bytes_of keys ++ l ∷ []) e)),
        (λ i lt h. let lt' : i < length keys = omega (arith, length-bytes_of keys) in
            false≢true (sym none ∙ list_any_at (string_eq copy) keys i copy lt' (text_found i lt' (h ∙ sym e)))),
      )
    where
      by : (b : Bool) → true ≡ not b → b ≡ false
      by true h = absurd (true≢false h)
      by false h = refl

  pub numbers_old : (label : List ℕ) (new : List (String Global)) (i : ℕ) → string_bytes copy ≡ label → i < length keys
      → i ≡ position_or_len (string_eq copy) keys → NumbersLabel (bytes_of keys) (bytes_of new) label (Some i)
  numbers_old label new i e lt at =
      let found : position (string_eq copy) keys ≡ Some i = grind (arith, nat_tests) in
      let p = position-Some (string_eq copy) keys i copy found in (
        omega (arith, length-bytes_of keys),
        found_text i lt p.1 ∙ e,
        (λ h less same. let lt' : h < length keys = omega arith in false≢true (sym (p.2 h less) ∙ text_found h lt' (same ∙ sym e))),
      )

-- one label more, after labels that differ
module _ (old : List (List ℕ)) (label : List ℕ) (differ : (i j : ℕ) → ¬ IsDuplicate old i j) where
  pub distinct_push : ((i : ℕ) → i < length old → get_or old i [] ≡ label → ⊥) → (i j : ℕ) → ¬ IsDuplicate (old ++ label ∷ []) i j
  distinct_push new i j d =
      let left : get_or (old ++ label ∷ []) i [] ≡ get_or old i [] = get_or_append_left old (label ∷ []) [] i
      (omega (arith, d.0, d.1, length-append old (label ∷ []))) in
      elim (cases_lt j (length old)) [
        | inl lt ↦ differ i j (d.0, lt, sym left ∙ d.2 ∙ get_or_append_left old (label ∷ []) [] j lt)
        | inr ge ↦
            let e : j ≡ length old = omega (arith, ge, d.1, length-append old (label ∷ [])) in
            new i (omega (arith, d.0, e)) (sym left ∙ d.2 ∙ ap (λ k. get_or (old ++ label ∷ []) k []) e ∙ get_or-append_seam old label [] [])
      ]

  -- a label that stood before: the first pair of equal labels
  pub duplicate_first : (labels rest : List (List ℕ)) → labels ≡ old ++ label ∷ rest → (i : ℕ) → (i < length old) × (get_or old i [] ≡ label)
      × ((h : ℕ) → h < i → get_or old h [] ≡ label → ⊥)
      → IsDuplicate labels i (length old) × ((h k : ℕ) → Precedes (k ∷ h ∷ []) (length old ∷ i ∷ []) → ¬ IsDuplicate labels h k)
  duplicate_first labels rest whole i n =
      let left : (h : ℕ) → h < length old → get_or labels h [] ≡ get_or old h [] = λ h lt. ap (λ ls. get_or ls h []) whole
      ∙ get_or_append_left old (label ∷ rest) [] h lt in
      let seam : get_or labels (length old) [] ≡ label = ap (λ ls. get_or ls (length old) []) whole ∙ get_or-append_seam old label rest [] in (
        (n.0, omega (arith, ap length whole, length-append old (label ∷ rest)), left i n.0 ∙ n.1 ∙ sym seam),
        (λ h k before d. elim before [
          | inl less ↦ differ h k (d.0, less, sym (left h (omega (arith, d.0, less))) ∙ d.2 ∙ left k less)
          | inr same ↦ elim same.1 [
            | inl less ↦ n.2 h less (sym (left h (omega (arith, less, n.0))) ∙ d.2 ∙ ap (λ k. get_or labels k []) same.0 ∙ seam)
            | inr both ↦ absurd both.1
          ]
        ]),
      )

-- a label that is looked up, and one that no key has
module _ (keys : List (String Global)) (label : List ℕ) (d : String Global) where
  pub label_found : (k : ℕ) → position (λ (key : String Global). bytes_eq label (string_bytes key)) keys ≡ Some k → (k < length (bytes_of keys))
      × (get_or (bytes_of keys) k [] ≡ label)
  label_found k found =
      let p = position-Some (λ (key : String Global). bytes_eq label (string_bytes key)) keys k d found in (
        omega (arith, p.0, length-bytes_of keys),
        get_or-map string_bytes keys k d [] p.0 ∙ sym ((bytes_eq-Decides label (string_bytes (get_or keys k d))).0 p.1),
      )

  pub label_missed : position (λ (key : String Global). bytes_eq label (string_bytes key)) keys ≡ None → (k : ℕ) → k < length (bytes_of keys)
      → get_or (bytes_of keys) k [] ≡ label → ⊥
  label_missed missed k lt same =
      let past : length keys ≤ position_or_len (λ (key : String Global). bytes_eq label (string_bytes key)) keys =
      position_missed (λ (key : String Global). bytes_eq label (string_bytes key)) keys (sym missed) in
      let lt' : k < length keys = omega (arith, lt, length-bytes_of keys) in
      let fails : bytes_eq label (string_bytes (get_or keys k d)) ≡ false = fails_before_first (λ (key : String Global). bytes_eq label (string_bytes key))
      keys k d (omega (arith, lt', past)) in
      false≢true (sym fails ∙ (bytes_eq-Decides label (string_bytes (get_or keys k d))).1 (sym same ∙ get_or-map string_bytes keys k d [] lt'))

pub label_of : (keys : List (String Global)) (label : List ℕ) (k : ℕ) → position (λ (key : String Global). bytes_eq label (string_bytes key)) keys ≡ Some k
    → (k < length (bytes_of keys)) × (get_or (bytes_of keys) k [] ≡ label)
label_of [] label k found = cc
label_of (key ∷ rest) label k found = label_found (key ∷ rest) label key k found

pub no_label : (keys : List (String Global)) (label : List ℕ) → position (λ (key : String Global). bytes_eq label (string_bytes key)) keys ≡ None → (k : ℕ)
    → k < length (bytes_of keys) → get_or (bytes_of keys) k [] ≡ label → ⊥
no_label [] label missed k lt same = absurd (omega (arith, lt))
no_label (key ∷ rest) label missed k lt same = label_missed (key ∷ rest) label key missed k lt same

-- ---- labels numbered one after another

module _ (labels : List (List ℕ)) (j : ℕ) (lt : j < length labels) (distinct : (h i : ℕ) → ¬ IsDuplicate (take j labels) h i) where
  pub equal_found : (old : List (List ℕ)) (label : List ℕ) (new : List (List ℕ)) (i : ℕ) → old ≡ take j labels → label ≡ get_or labels j []
      → NumbersLabel old new label (Some i) → FindsEqual labels (Some (i, j))
  equal_found old label new i are is n =
      let whole : labels ≡ take j labels ++ get_or labels j [] ∷ drop (j + 1) labels = sym (take-append-drop j labels)
      ∙ ap (λ l. take j labels ++ l) (drop_more labels j [] lt) in
      let count : length (take j labels) ≡ j = length-take-le j labels (omega (arith, lt)) in
      let m : NumbersLabel (take j labels) new (get_or labels j []) (Some i) = subst (λ (l : List ℕ). NumbersLabel (take j labels) new l (Some i)) is
      (subst (λ (o : List (List ℕ)). NumbersLabel o new label (Some i)) are n) in
      subst (λ k. FindsEqual labels (Some (i, k))) count (duplicate_first (take j labels) (get_or labels j []) distinct labels (drop (j + 1) labels) whole i m)

  pub none_equal : (old : List (List ℕ)) (label : List ℕ) (new : List (List ℕ)) → old ≡ take j labels → label ≡ get_or labels j []
      → NumbersLabel old new label None → (new ≡ take (j + 1) labels) × ((h i : ℕ) → ¬ IsDuplicate (take (j + 1) labels) h i)
  none_equal old label new are is n =
      let more = take_more labels j [] lt in
      let m : NumbersLabel (take j labels) new (get_or labels j []) None = subst (λ (l : List ℕ). NumbersLabel (take j labels) new l None) is
      (subst (λ (o : List (List ℕ)). NumbersLabel o new label None) are n) in (
        m.0 ∙ sym more,
        subst (λ (l : List (List ℕ)). (h i : ℕ) → ¬ IsDuplicate l h i) (sym more) (distinct_push (take j labels) (get_or labels j []) distinct m.1),
      )
