-- The recurrence classes as lists, from the numbers of the classes of transitions
use Rattle.std.proofs.Common.{◌≡◌, inl, ◌<◌, ◌≤◌, ℕ, List, [], length, refl, sym, ◌∙◌, subst, arith}
use Rattle.std.specs.Prelude.{Contains, ◌↔◌, slice_index}
use Rattle.std.proofs.lemmas.List.{get_or_default}
use Rattle.std.proofs.lemmas.List.Elements.{Contains-get_or}
use Rattle.conley_walk.specs.Walk.{Reaches}
use Rattle.conley_lists.specs.Lists.{ListedStep}
use Rattle.conley_lists.specs.Gathered.{AreGathered}
use Rattle.conley_lists.proofs.AscendingLemmas.{ascending_once, same_numbers}
use Rattle.conley_walk.proofs.WalkLemmas.{reaches_on, reaches_by_step, reaches_least}
use Rattle.conley_lists.proofs.ListLemmas.{All-from_contained, place_of, at_least, step_begins}
use Rattle.conley_faces.specs.Face.{IsCellList, IsLocallyClosed}
use Rattle.conley_digraph.specs.Classes.{AreClasses}
use Rattle.conley_transitions.specs.Flow.{Flow, IsFlow, IsCell, StepOf}
use Rattle.conley_transitions.specs.Morse.{set_at}
use Rattle.conley_transitions.proofs.FinestLemmas.{step_cells}
use Rattle.conley_transitions.specs.Classes.{AreRecurrenceClasses}

module _ (flow : Flow) (ok : IsFlow flow) (digraph : List (List ℕ)) (count : length digraph ≡ length flow.part_of)
    (reach : (x y : ℕ) → Reaches (ListedStep digraph) x y ↔ Reaches (StepOf flow) x y) where
  -- what a cell reaches is a cell
  reached_cell : (x y : ℕ) → IsCell flow x → Reaches (StepOf flow) x y → IsCell flow y
  reached_cell x y cell r = reaches_least (IsCell flow) (λ a b s h. (step_cells flow ok a b s).1) r cell

  pub gathered_classes : (class_of : List ℕ) (lists : List (List ℕ)) → AreClasses digraph class_of → AreGathered class_of (length class_of) lists
      → AreRecurrenceClasses flow.faces flow.part_of lists
  gathered_classes class_of lists classes parts = record {
    non_empty = λ k lt.
        let w = parts.used k lt in
        let h : Contains (set_at lists k) w.0 = (parts.same k w.0).1 (w.1, w.2) in
        omega (arith, h.1);
    ascending = parts.ascending;
    cells = λ k x h. cell x ((parts.same k x).0 h).0;
    all = λ x lt.
        let h : Contains (set_at lists (slice_index class_of x)) x = (parts.same (slice_index class_of x) x).1 (place x lt, refl) in
        (slice_index class_of x, (step_begins lists (slice_index class_of x) x h, h));
    once = λ j k x hj hk. sym ((parts.same j x).0 hj).1 ∙ ((parts.same k x).0 hk).1;
    same = λ k x y hx.
        let px = (parts.same k x).0 hx in (
          (λ hy.
              let py = (parts.same k y).0 hy in
              let r = (classes.same x y (node x px.0) (node y py.0)).0 (px.1 ∙ sym py.1) in
              record { there = (reach x y).0 r.there; back = (reach y x).0 r.back }),
          (λ r.
              let ly = place y (reached_cell x y (cell x px.0) r.there) in
              let e = (classes.same x y (node x px.0) (node y ly)).1 (record { there = (reach x y).1 r.there; back = (reach y x).1 r.back }) in
              (parts.same k y).1 (ly, sym e ∙ px.1)),
        );
    in_order = λ j k jk lt.
        let p = (parts.same k (slice_index (set_at lists k) 0)).0 (first k lt) in
        let w = classes.in_order (slice_index (set_at lists k) 0) j (node (slice_index (set_at lists k) 0) p.0) (omega (arith, jk, p.1)) in
        let h : Contains (set_at lists j) w.0 = (parts.same j w.0).1 (omega (arith, w.1, p.0), w.2) in
        let at = place_of (set_at lists j) w.0 h in
        let least : slice_index (set_at lists j) 0 ≤ slice_index (set_at lists j) at.0 = at_least (set_at lists j) (parts.ascending j) 0 at.0
        (λ none. absurd (omega (arith, none))) at.1 in
        omega (arith, least, at.2, w.1);
  }
    where
      cell : (x : ℕ) → x < length class_of → IsCell flow x
      cell x lt = omega (arith, lt, classes.count, count)

      node : (x : ℕ) → x < length class_of → x < length digraph
      node x lt = omega (arith, lt, classes.count)

      place : (x : ℕ) → IsCell flow x → x < length class_of
      place x lt = omega (arith, lt, classes.count, count)

      first : (k : ℕ) → k < length lists → Contains (set_at lists k) (slice_index (set_at lists k) 0)
      first k lt =
          let w = parts.used k lt in
          let h : Contains (set_at lists k) w.0 = (parts.same k w.0).1 (w.1, w.2) in
          Contains-get_or (set_at lists k) 0 0 (omega (arith, h.1))

-- a class is a list of cells without a gap
module _ (flow : Flow) (ok : IsFlow flow) (lists : List (List ℕ)) (classes : AreRecurrenceClasses flow.faces flow.part_of lists) (k : ℕ) where
  pub class_cells : IsCellList flow.faces (set_at lists k)
  class_cells = record {
    ascending = classes.ascending k;
    cells = All-from_contained (λ x. x < length flow.faces) (set_at lists k) (λ x h. omega (arith, classes.cells k x h, ok.parts));
  }

  pub class_closed : IsLocallyClosed flow.faces (set_at lists k)
  class_closed x y z gap =
      let back = (classes.same k z x gap.lower).0 gap.upper in
      let down = reaches_by_step {Step = StepOf flow} {x = x} {y = y} (inl gap.down) in
      let further = reaches_by_step {Step = StepOf flow} {x = y} {y = z} (inl gap.further) in
      gap.outside ((classes.same k x y gap.upper).1 (record { there = down; back = reaches_on further back.there }))

-- the first cell of one list is below that of the other
abbrev pub IsFirstBelow : List ℕ → List ℕ → Type 0
IsFirstBelow a b = slice_index a 0 < slice_index b 0

-- a class of one list of classes is one of the other
module _ (faces : List (List ℕ)) (part_of : List ℕ) (a b : List (List ℕ)) (first : AreRecurrenceClasses faces part_of a)
    (second : AreRecurrenceClasses faces part_of b) where
  class_in : (cells : List ℕ) → Contains a cells → Contains b cells
  class_in cells at =
      let x = slice_index (set_at a at.0) 0 in
      let here : Contains (set_at a at.0) x = Contains-get_or (set_at a at.0) 0 0 (first.non_empty at.0 at.1) in
      let there = second.all x (first.cells at.0 x here) in
      let same : set_at a at.0 ≡ set_at b there.0 = same_numbers (set_at a at.0) (set_at b there.0) (first.ascending at.0) (second.ascending there.0) (λ y. (
        (λ h. (second.same there.0 x y there.1.1).1 ((first.same at.0 x y here).0 h)),
        (λ h. (first.same at.0 x y here).1 ((second.same there.0 x y there.1.1).0 h)),
      )) in
      let is : set_at b there.0 ≡ cells = sym same ∙ get_or_default a at.0 [] cells at.1 ∙ at.2 in
      subst (λ (s : List ℕ). Contains b s) is (Contains-get_or b there.0 [] there.1.0)

pub classes_once : (faces : List (List ℕ)) (part_of : List ℕ) (a b : List (List ℕ)) → AreRecurrenceClasses faces part_of a
    → AreRecurrenceClasses faces part_of b → a ≡ b
classes_once faces part_of a b first second =
    ascending_once IsFirstBelow (λ x y less more. omega arith) [] a b first.in_order second.in_order
    (λ cells. (class_in faces part_of a b first second cells, class_in faces part_of b a second first cells))
