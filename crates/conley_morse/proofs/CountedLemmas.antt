-- One class more is looked at
use Rattle.std.proofs.Common.{◌≡◌, inl, inr, ◌+◌, ◌<◌, ℕ, List, [], ◌∷◌, ◌++◌, length, Vec, Global, refl, sym, ap, ◌∙◌, subst, arith, length-append}
use Rattle.std.specs.Prelude.{slice_index}
use Rattle.std.proofs.lemmas.Bool.{cases_eq}
use Rattle.std.proofs.lemmas.List.{map-append}
use Rattle.conley_lists.specs.Lists.{items_of}
use Rattle.conley_lists.proofs.ListLemmas.{row_at_end, row_before}
use Rattle.conley_field.specs.Arithmetic.{Arithmetic}
use Rattle.conley_lefschetz.specs.Complex.{Layout}
use Rattle.conley_lefschetz.specs.Conley.{AreConleyNumbers}
use Rattle.conley_transitions.specs.Classes.{AreRecurrenceClasses}
use Rattle.conley_transitions.specs.Morse.{set_at}
use Rattle.conley_graph.specs.Decomposition.{flow_of}
use Rattle.conley_morse.specs.Making.{ClassCounts, AreCountedSoFar}

pub counted_none : {F : Arithmetic} (c : Layout) (part_of : List ℕ) (lists : List (List ℕ)) → AreCountedSoFar F c part_of lists 0 [] []
counted_none c part_of lists = record {
  few = omega arith;
  come = λ i lt. absurd (omega (arith, lt));
  all = λ k lt. absurd (omega (arith, lt));
  in_order = λ i j less lt. absurd (omega (arith, lt));
  numbers_count = refl;
  conley = λ i lt. absurd (omega (arith, lt));
}

module _ {F : Arithmetic} (c : Layout) (part_of : List ℕ) (lists : List (List ℕ)) (classes : AreRecurrenceClasses c.faces part_of lists) (n : ℕ)
    (below : n < length lists) where
  -- it doesn't count
  pub counted_same : (sets numbers : List (List ℕ)) → AreCountedSoFar F c part_of lists n sets numbers → ¬ ClassCounts (flow_of F c part_of) (set_at lists n)
      → AreCountedSoFar F c part_of lists (n + 1) sets numbers
  counted_same sets numbers so_far not = record {
    few = omega (arith, so_far.few);
    come = λ i lt. let w = so_far.come i lt in (w.0, omega (arith, w.1), w.2, w.3);
    all = λ k lt counts. elim (cases_eq k n) [
      | inl e ↦ absurd (not (subst (λ j. ClassCounts (flow_of F c part_of) (set_at lists j)) e counts))
      | inr ne ↦ so_far.all k (omega arith) counts
    ];
    in_order = so_far.in_order;
    numbers_count = so_far.numbers_count;
    conley = so_far.conley;
  }

  -- it counts
  module _ (sets numbers : List (Vec ℕ Global)) (set number : Vec ℕ Global) (is : set.items ≡ set_at lists n)
      (so_far : AreCountedSoFar F c part_of lists n (items_of sets) (items_of numbers))
      (counts : ClassCounts (flow_of F c part_of) (set_at lists n)) (conley : AreConleyNumbers F c (set_at lists n) number.items) where
    long : (rows : List (Vec ℕ Global)) (row : Vec ℕ Global) → length (items_of (rows ++ row ∷ [])) ≡ length (items_of rows) + 1
    long rows row = ap length (map-append (λ (r : Vec ℕ Global). r.items) rows (row ∷ [])) ∙ length-append (items_of rows) (row.items ∷ [])

    old : (i : ℕ) → i < length (items_of sets) → set_at (items_of (sets ++ set ∷ [])) i ≡ set_at (items_of sets) i
    old i lt = row_before sets set i (length (items_of sets)) refl lt

    new : (i : ℕ) → i ≡ length (items_of sets) → set_at (items_of (sets ++ set ∷ [])) i ≡ set_at lists n
    new i e = row_at_end sets set i (length (items_of sets)) refl e ∙ is

    earlier : (i : ℕ) → i < length (items_of sets) → slice_index (set_at (items_of sets) i) 0 < slice_index (set_at lists n) 0
    earlier i lt = let w = so_far.come i lt in subst (λ (l : List ℕ). slice_index l 0 < slice_index (set_at lists n) 0) (sym w.2)
        (classes.in_order w.0 n w.1 below)

    pub counted_more : AreCountedSoFar F c part_of lists (n + 1) (items_of (sets ++ set ∷ [])) (items_of (numbers ++ number ∷ []))
    counted_more = record {
      few = omega (arith, long sets set, so_far.few);
      come = λ i lt. elim (cases_eq i (length (items_of sets))) [
        | inl e ↦ (n, omega arith, new i e, counts)
        | inr ne ↦
            let lt' : i < length (items_of sets) = omega (arith, lt, long sets set) in
            let w = so_far.come i lt' in
            (w.0, omega (arith, w.1), old i lt' ∙ w.2, w.3)
      ];
      all = λ k lt h. elim (cases_eq k n) [
        | inl e ↦ (length (items_of sets), omega (arith, long sets set), new (length (items_of sets)) refl ∙ sym (ap (set_at lists) e))
        | inr ne ↦ let w = so_far.all k (omega arith) h in (w.0, omega (arith, w.1, long sets set), old w.0 w.1 ∙ w.2)
      ];
      in_order = λ i j less lt. elim (cases_eq j (length (items_of sets))) [
        | inl e ↦ let lt' : i < length (items_of sets) = omega arith in rw (old i lt', new j e) (earlier i lt')
        | inr ne ↦ let lt' : j < length (items_of sets) = omega (arith, lt, long sets set) in rw (old i (omega arith), old j lt') (so_far.in_order i j less lt')
      ];
      numbers_count = long numbers number ∙ ap (λ m. m + 1) so_far.numbers_count ∙ sym (long sets set);
      conley = λ i lt. elim (cases_eq i (length (items_of sets))) [
        | inl e ↦ rw (new i e, row_at_end numbers number i (length (items_of numbers)) refl (e ∙ sym so_far.numbers_count)) conley
        | inr ne ↦
            let lt' : i < length (items_of sets) = omega (arith, lt, long sets set) in
            rw (old i lt', row_before numbers number i (length (items_of numbers)) refl (omega (arith, lt', so_far.numbers_count))) (so_far.conley i lt')
      ];
    }
