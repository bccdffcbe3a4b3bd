-- Steps within a set, by places: what the lists reach is what steps by faces and parts within the set reach
use Rattle.std.proofs.Common.{◌≡◌, inl, inr, ◌+◌, ◌<◌, ℕ, Bool, true, false, List, [], ◌∷◌, ◌++◌, Vec, Global, length, refl, sym, ap, ◌∙◌, subst, arith, length-append}
use Rattle.std.specs.Prelude.{Contains, ◌↔◌, slice_index}
use Rattle.std.specs.List.Sorted.{IsStrictlyIncreasing}
use Rattle.std.proofs.lemmas.Bool.{cases_eq}
use Rattle.std.proofs.lemmas.List.Elements.{Contains-get_or}
use Rattle.conley_walk.specs.Walk.{Walk, Reaches}
use Rattle.conley_lists.specs.Lists.{items_of, ListedStep, IsDigraph, PutsUnder}
use Rattle.conley_walk.proofs.WalkLemmas.{reaches_itself, reaches_on, reaches_by_step, reaches_least}
use Rattle.conley_lists.proofs.ListLemmas.{place_of, step_begins, length-items_of, row_at_end, row_before}
use Rattle.conley_faces.specs.Face.{IsFace, IsLocallyClosed}
use Rattle.conley_faces.proofs.GapLemmas.{contains_cases}
use Rattle.conley_isolation.specs.Making.{StepWithin, IsUnder, HasFaceSteps, HaveFirsts, LinksFirsts, HasSteps}
use Rattle.conley_isolation.proofs.PlaceLemmas.{one_place}

-- one place more is linked to the first of its part
pub links-more : (firsts : List ℕ) (n : ℕ) (old so mid new : List (List ℕ)) → LinksFirsts firsts n old so → PutsUnder so mid n (slice_index firsts n)
    → PutsUnder mid new (slice_index firsts n) n → LinksFirsts firsts (n + 1) old new
links-more firsts n old so mid new links a b = record {
  count = b.count ∙ a.count ∙ links.count;
  kept = λ i j s. up i j (links.kept i j s);
  only = λ i j s. elim ((b.steps i j).0 s) [
    | inl m ↦ elim ((a.steps i j).0 m) [
      | inl o ↦ elim (links.only i j o) [
        | inl given ↦ inl given
        | inr more ↦ inr (elim more [ inl w ↦ inl (omega (arith, w.0), w.1) | inr w ↦ inr (omega (arith, w.0), w.1) ])
      ]
      | inr e ↦ inr (inl (omega (arith, e.0), e.1 ∙ ap (slice_index firsts) (sym e.0)))
    ]
    | inr e ↦ inr (inr (omega (arith, e.1), e.0 ∙ ap (slice_index firsts) (sym e.1)))
  ];
  back = λ i lt. elim (cases_eq i n) [
    | inl e ↦ (b.steps i (slice_index firsts i)).1 (inl ((a.steps i (slice_index firsts i)).1 (inr (e, ap (slice_index firsts) e))))
    | inr ne ↦ up i (slice_index firsts i) (links.back i (omega arith))
  ];
  there = λ i lt. elim (cases_eq i n) [
    | inl e ↦ (b.steps (slice_index firsts i) i).1 (inr (ap (slice_index firsts) e, e))
    | inr ne ↦ up (slice_index firsts i) i (links.there i (omega arith))
  ];
}
  where
    up : (i j : ℕ) → ListedStep so i j → ListedStep new i j
    up i j s = (b.steps i j).1 (inl ((a.steps i j).1 (inl s)))

-- the steps down from one cell more
pub face_steps-more : (direct : Bool) (faces : List (List ℕ)) (set : List ℕ) (n : ℕ) (rows : List (Vec ℕ Global)) (row : Vec ℕ Global)
    → HasFaceSteps direct faces set n (items_of rows) →
    ((j : ℕ) → Contains row.items j ↔ ((j < length set) × IsUnder direct faces (slice_index set n) (slice_index set j)))
    → HasFaceSteps direct faces set (n + 1) (items_of (rows ++ row ∷ []))
face_steps-more direct faces set n rows row so_far has = record {
  count = length-items_of (rows ++ row ∷ []) ∙ length-append rows (row ∷ []) ∙ omega (arith, length-items_of rows, so_far.count);
  steps = λ i j. elim (cases_eq i n) [
    | inl e ↦ subst (λ k. ListedStep (items_of (rows ++ row ∷ [])) k j ↔ ((k < n + 1) × (j < length set)
        × IsUnder direct faces (slice_index set k) (slice_index set j))) (sym e)
        (rw (row_at_end rows row n n so_far.count refl) ((λ c. let w = (has j).0 c in (omega arith, w.0, w.1)), (λ w. (has j).1 (w.1, w.2))))
    | inr ne ↦ (
      (λ s.
          let less : i < n = omega (
            arith,
            ne,
            step_begins (items_of (rows ++ row ∷ [])) i j s,
            length-items_of (rows ++ row ∷ []),
            length-append rows (row ∷ []),
            length-items_of rows,
            so_far.count,
          ) in
          let w = (so_far.steps i j).0 (subst (λ (l : List ℕ). Contains l j) (row_before rows row i n so_far.count less) s) in
          (omega arith, w.1, w.2)),
      (λ w.
          let less : i < n = omega (arith, ne, w.0) in
          subst (λ (l : List ℕ). Contains l j) (sym (row_before rows row i n so_far.count less)) ((so_far.steps i j).1 (less, w.1, w.2))),
    )
  ];
}

module _ (faces : List (List ℕ)) (set : List ℕ) (up : IsStrictlyIncreasing set) (digraph : IsDigraph faces) where
  -- in a set without a gap the cells directly under each cell lead to its faces
  down_by_direct : IsLocallyClosed faces set → (lists : List (List ℕ)) → HasFaceSteps true faces set (length set) lists →
      (i j : ℕ) (w : List ℕ) → i < length set → j < length set → Walk (ListedStep faces) (slice_index set i) w (slice_index set j)
      → Reaches (ListedStep lists) i j
  down_by_direct closed lists has i j [] li lj a = subst (Reaches (ListedStep lists) i) (one_place set up i j li lj a) (reaches_itself i)
  down_by_direct closed lists has i j (z ∷ w) li lj a = elim (contains_cases set z) [
    | inl at ↦
        let p = place_of set z at in
        let step : ListedStep lists i p.0 = (has.steps i p.0).1 (li, p.1, subst (ListedStep faces (slice_index set i)) (sym p.2) a.0) in
        let rest = down_by_direct closed lists has p.0 j w p.1 lj (subst (λ v. Walk (ListedStep faces) v w (slice_index set j)) (sym p.2) a.1) in
        reaches_on (reaches_by_step {Step = ListedStep lists} {x = i} {y = p.0} step) rest
    | inr out ↦ absurd (closed (slice_index set i) z (slice_index set j) (record {
      upper = Contains-get_or set i 0 li;
      lower = Contains-get_or set j 0 lj;
      outside = out;
      down = record { cell = step_begins faces (slice_index set i) z a.0; walk = record { cells = z ∷ []; walk = (a.0, refl) } };
      further = record { cell = digraph (slice_index set i) z a.0; walk = record { cells = w; walk = a.1 } };
    }))
  ]

  down : (direct : Bool) → (direct ≡ true → IsLocallyClosed faces set) → (lists : List (List ℕ)) → HasFaceSteps direct faces set (length set) lists →
      (i j : ℕ) → i < length set → j < length set → IsFace faces (slice_index set i) (slice_index set j) → Reaches (ListedStep lists) i j
  down true closed lists has i j li lj f = down_by_direct (closed refl) lists has i j f.walk.cells li lj f.walk.walk
  down false closed lists has i j li lj f = reaches_by_step {Step = ListedStep lists} {x = i} {y = j} ((has.steps i j).1 (li, lj, f))

  under_face : (direct : Bool) (x y : ℕ) → IsUnder direct faces x y → IsFace faces x y
  under_face true x y s = record { cell = step_begins faces x y s; walk = record { cells = y ∷ []; walk = (s, refl) } }
  under_face false x y f = f

  module _ (part_of parts firsts : List ℕ) (cells : (x : ℕ) → Contains set x → x < length part_of) (count : length parts ≡ length set)
      (part : (i : ℕ) → i < length set → slice_index parts i ≡ slice_index part_of (slice_index set i)) (have : HaveFirsts parts firsts)
      (direct : Bool) (closed : direct ≡ true → IsLocallyClosed faces set) (lists new : List (List ℕ)) (has : HasFaceSteps direct faces set (length set) lists)
      (links : LinksFirsts firsts (length set) lists new) where
    here : (i : ℕ) → i < length set → Contains set (slice_index set i)
    here i lt = Contains-get_or set i 0 lt

    before : (i : ℕ) → i < length set → slice_index firsts i < length set
    before i lt = omega (arith, have.before i (omega (arith, count)))

    -- places of one part
    share : (i j : ℕ) → i < length set → j < length set → slice_index parts i ≡ slice_index parts j
        → StepWithin faces part_of set (slice_index set i) (slice_index set j)
    share i j li lj e = record {
      from = here i li;
      to = here j lj;
      step = inr (cells (slice_index set i) (here i li), (cells (slice_index set j) (here j lj), sym (part j lj) ∙ sym e ∙ part i li));
    }

    sound : (i j : ℕ) → ListedStep new i j → (j < length set) × StepWithin faces part_of set (slice_index set i) (slice_index set j)
    sound i j s = elim (links.only i j s) [
      | inl old ↦
          let w = (has.steps i j).0 old in
          (w.1, record { from = here i w.0; to = here j w.1; step = inl (under_face direct (slice_index set i) (slice_index set j) w.2) })
      | inr more ↦ elim more [
        | inl w ↦
            let lj : j < length set = omega (arith, w.1, before i w.0) in
            (lj, share i j w.0 lj (sym (have.part i (omega (arith, w.0, count))) ∙ ap (slice_index parts) (sym w.1)))
        | inr w ↦
            let li : i < length set = omega (arith, w.1, before j w.0) in
            (w.0, share i j li w.0 (ap (slice_index parts) w.1 ∙ have.part j (omega (arith, w.0, count))))
      ]
    ]

    -- a step within the set is a walk
    one_step : (i j : ℕ) → i < length set → j < length set → StepWithin faces part_of set (slice_index set i) (slice_index set j) → Reaches (ListedStep new) i j
    one_step i j li lj s = elim s.step [
      | inl f ↦ reaches_least (λ v. Reaches (ListedStep new) i v) (λ a b t h. reaches_on h
          (reaches_by_step {Step = ListedStep new} {x = a} {y = b} (links.kept a b t))) (down direct closed lists has i j li lj f) (reaches_itself i)
      | inr shared ↦
          let same : slice_index firsts i ≡ slice_index firsts j = have.same i j (omega (arith, count)) (omega (arith, count))
          (part i li ∙ sym shared.1.1 ∙ sym (part j lj)) in
          let first : ListedStep new i (slice_index firsts j) = subst (ListedStep new i) same (links.back i li) in
          reaches_on (reaches_by_step {Step = ListedStep new} {x = i} {y = slice_index firsts j} first)
          (reaches_by_step {Step = ListedStep new} {x = slice_index firsts j} {y = j} (links.there j lj))
    ]

    pub has_steps : HasSteps faces part_of set new
    has_steps = record {
      count = links.count ∙ has.count;
      sound = sound;
      reach = λ i j li lj r.
          let at = reaches_least (λ v. (k : ℕ) × (k < length set) × (slice_index set k ≡ v) × Reaches (ListedStep new) i k) (λ a b s h.
          let p = place_of set b s.to in
          let step : StepWithin faces part_of set (slice_index set h.0) (slice_index set p.0) =
          subst (λ v. StepWithin faces part_of set (slice_index set h.0) v) (sym p.2) (subst (λ v. StepWithin faces part_of set v b) (sym h.2) s) in
          (p.0, p.1, p.2, reaches_on h.3 (one_step h.0 p.0 h.1 p.1 step))) r (i, li, refl, reaches_itself i) in
          subst (Reaches (ListedStep new) i) (one_place set up at.0 j at.1 lj at.2) at.3;
    }

pub steps_digraph : (faces : List (List ℕ)) (part_of set : List ℕ) (lists : List (List ℕ)) → HasSteps faces part_of set lists → IsDigraph lists
steps_digraph faces part_of set lists steps i j s = omega (arith, (steps.sound i j s).0, steps.count)
