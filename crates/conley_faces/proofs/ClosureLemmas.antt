-- Closures are made one by one, and where none can be made all are or a cell is below itself
use Rattle.std.proofs.Common.{◌≡◌, ◌⊎◌, inl, inr, ℕ, zero, suc, ◌+◌, ◌<◌, ◌≤◌, List, [], ◌∷◌, ◌++◌, length, get_or, take, drop, refl, sym, ap, ◌∙◌, subst, arith, length-append, get_or-set_other, get_or-set_same}
use Rattle.std.specs.Prelude.{Contains, ◌↔◌}
use Rattle.std.specs.List.Sorted.{IsStrictlyIncreasing}
use Rattle.std.proofs.Math.ListN.{set, length-set}
use Rattle.std.proofs.lemmas.Bool.{cases_eq, cases_lt}
use Rattle.std.proofs.lemmas.List.{take_more, take-append-drop}
use Rattle.std.proofs.lemmas.List.Sums.{sum_by-set}
use Rattle.std.proofs.lemmas.List.Elements.{Contains-append_left, Contains-append_right, Contains-append_cases, Contains-push, Contains-push_cases}
use Rattle.conley_walk.specs.Walk.{Reaches}
use Rattle.conley_lists.specs.Lists.{ListedStep, IsDigraph}
use Rattle.conley_walk.proofs.WalkLemmas.{reaches_itself, reaches_on, reaches_by_step, reaches_least}
use Rattle.conley_lists.proofs.ListLemmas.{Contains-none, step_begins}
use Rattle.conley_faces.specs.Face.{IsFace, IsBelowItself, IsInClosure}
use Rattle.conley_faces.specs.Closures.{IsMade, IsInListOf, AreClosures, AreClosuresSoFar, IsStuck, unmade_one, unmade}
use Rattle.conley_faces.proofs.FaceLemmas.{face_itself, face_under, face_cases, face_ends}

unmade-made : (xs : List ℕ) → 0 < length xs → unmade_one xs ≡ 0
unmade-made [] lt = absurd (omega arith)
unmade-made (x ∷ xs) lt = refl

unmade-not : (xs : List ℕ) → length xs ≡ 0 → unmade_one xs ≡ 1
unmade-not [] e = refl
unmade-not (x ∷ xs) e = absurd (omega (arith, e))

-- the closure of x is made last
module _ (lists closures : List (List ℕ)) (digraph : IsDigraph lists) (so_far : AreClosuresSoFar lists closures) (x : ℕ) (lt : x < length lists) (list : List ℕ)
    (not_made : length (get_or closures x []) ≡ 0) (heads : (y : ℕ) → ListedStep lists x y → IsMade closures y)
    (up : IsStrictlyIncreasing list) (same : (y : ℕ) → Contains list y ↔ (IsInListOf closures (get_or lists x []) y ⊎ (y ≡ x))) where
  in_closures : x < length closures
  in_closures = omega (arith, lt, so_far.height)

  here : get_or (set closures x list) x [] ≡ list
  here = get_or-set_same closures x list [] in_closures

  other : (k : ℕ) → (k ≡ x → ⊥) → get_or (set closures x list) k [] ≡ get_or closures k []
  other k ne = get_or-set_other closures x k list [] ne

  nonempty : 0 < length list
  nonempty = let c = (same x).1 (inr refl) in omega (arith, c.1)

  made_here : IsMade (set closures x list) x
  made_here = rw here nonempty

  made_kept : (y : ℕ) → IsMade closures y → IsMade (set closures x list) y
  made_kept y m = elim (cases_eq y x) [
    | inl e ↦ subst (IsMade (set closures x list)) (sym e) made_here
    | inr ne ↦ rw (other y ne) m
  ]

  made_old : (k : ℕ) → (k ≡ x → ⊥) → IsMade (set closures x list) k → IsMade closures k
  made_old k ne m = rw (other k ne) at m

  faces_here : (y : ℕ) → Contains list y ↔ IsFace lists x y
  faces_here y = (
    (λ c. elim ((same y).0 c) [
      | inl g ↦ face_under lists x g.0 y g.1.0 ((so_far.faces g.0 y (heads g.0 g.1.0)).0 g.1.1)
      | inr e ↦ subst (IsFace lists x) (sym e) (face_itself lists x lt)
    ]),
    (λ f. elim (face_cases lists digraph x y f) [
      | inl e ↦ (same y).1 (inr (sym e))
      | inr g ↦ (same y).1 (inl (g.0, (g.1.0, (so_far.faces g.0 y (heads g.0 g.1.0)).1 g.1.1)))
    ]),
  )

  pub closures_more : AreClosuresSoFar lists (set closures x list)
  closures_more = record {
    height = length-set closures x list ∙ so_far.height;
    ascending = λ k. elim (cases_eq k x) [
      | inl e ↦ subst (λ q. IsStrictlyIncreasing (get_or (set closures x list) q [])) (sym e) (rw here up)
      | inr ne ↦ rw (other k ne) (so_far.ascending k)
    ];
    faces = λ k y m. elim (cases_eq k x) [
      | inl e ↦ subst (λ q. ListedStep (set closures x list) q y ↔ IsFace lists q y) (sym e) (rw here (faces_here y))
      | inr ne ↦ rw (other k ne) (so_far.faces k y (made_old k ne m))
    ];
    under = λ k y m s. elim (cases_eq k x) [
      | inl e ↦ made_kept y (heads y (subst (λ q. ListedStep lists q y) e s))
      | inr ne ↦ made_kept y (so_far.under k y (made_old k ne m) s)
    ];
    no_cycle = λ k m b. elim (cases_eq k x) [
      | inl e ↦
          let b' : IsBelowItself lists x = subst (IsBelowItself lists) e b in
          let m' : IsMade closures x = reaches_least (IsMade closures) (λ p q s h. so_far.under p q h s) b'.2 (heads b'.0 b'.1) in
          omega (arith, m', not_made)
      | inr ne ↦ so_far.no_cycle k (made_old k ne m) b
    ];
  }

  pub unmade-less : unmade (set closures x list) < unmade closures
  unmade-less =
      let s = sum_by-set unmade_one closures x list [] in_closures in
      omega (arith, s, unmade-made list nonempty, unmade-not (get_or closures x []) not_made)

-- the numbers below n
abbrev up_to : ℕ → List ℕ
up_to zero = []
up_to (suc n) = up_to n ++ n ∷ []

Contains-up_to : (n y : ℕ) → y < n → Contains (up_to n) y
Contains-up_to zero y lt = absurd (omega arith)
Contains-up_to (suc n) y lt = elim (cases_eq y n) [
  | inl e ↦ subst (Contains (up_to n ++ n ∷ [])) (sym e) (Contains-push (up_to n) n)
  | inr ne ↦ Contains-append_left (up_to n) (n ∷ []) y (Contains-up_to n y (omega arith))
]

-- a list without the number at place k
abbrev left_at : List ℕ → ℕ → List ℕ
left_at xs k = take k xs ++ drop (k + 1) xs

module _ (xs : List ℕ) (y : ℕ) (c : Contains xs y) where
  split : take (c.0 + 1) xs ≡ take c.0 xs ++ y ∷ []
  split = take_more xs c.0 y c.1 ∙ ap (λ (q : ℕ). take c.0 xs ++ q ∷ []) c.2

  length-left : length (left_at xs c.0) + 1 ≡ length xs
  length-left =
      let whole = ap length (take-append-drop (c.0 + 1) xs) in
      let parts = rw (split, length-append, length-append) at whole in
      let joined = length-append (take c.0 xs) (drop (c.0 + 1) xs) in
      omega (arith, parts, joined)

  Contains-left : (z : ℕ) → Contains xs z → (z ≡ y → ⊥) → Contains (left_at xs c.0) z
  Contains-left z d ne =
      let d' : Contains (take (c.0 + 1) xs ++ drop (c.0 + 1) xs) z = subst (λ q. Contains q z) (sym (take-append-drop (c.0 + 1) xs)) d in
      elim (Contains-append_cases (take (c.0 + 1) xs) (drop (c.0 + 1) xs) z d') [
        | inl front ↦ elim (Contains-push_cases (take c.0 xs) y z (subst (λ q. Contains q z) split front)) [
          | inl before ↦ Contains-append_left (take c.0 xs) (drop (c.0 + 1) xs) z before
          | inr e ↦ absurd (ne (sym e))
        ]
        | inr after ↦ Contains-append_right (take c.0 xs) (drop (c.0 + 1) xs) z after
      ]

-- a step, then a walk
abbrev IsUnder : List (List ℕ) → ℕ → ℕ → Type 0
IsUnder lists x y = (z : ℕ) × ListedStep lists x z × Reaches (ListedStep lists) z y

-- what each of its cells hands on to a cell directly under it holds of none, where no cell is below itself
module _ (lists : List (List ℕ)) (no_cycle : (x : ℕ) → IsBelowItself lists x → ⊥) (P : ℕ → Type 0)
    (on : (x : ℕ) → P x → (y : ℕ) × (ListedStep lists x y × P y)) where
  -- the cells under x are in the list
  ends : (n : ℕ) (left : List ℕ) → length left ≤ n → (x : ℕ) → P x → ((y : ℕ) → IsUnder lists x y → Contains left y) → ⊥
  ends zero left le x p all =
      let s = on x p in
      let c = all s.0 (s.0, s.1.0, reaches_itself s.0) in
      omega (arith, c.1, le)
  ends (suc n) left le x p all =
      let s = on x p in
      let c = all s.0 (s.0, s.1.0, reaches_itself s.0) in
      let shorter = length-left left s.0 c in
      ends n (left_at left c.0) (omega (arith, shorter, le)) s.0 s.1.1 (λ z u.
      Contains-left left s.0 c z
      (all z (s.0, s.1.0, reaches_on (reaches_by_step {Step = ListedStep lists} {x = s.0} {y = u.0} u.1) u.2))
      (λ e. no_cycle s.0 (subst (IsUnder lists s.0) e u)))

  pub never_handed_on : IsDigraph lists → (x : ℕ) → P x → ⊥
  never_handed_on ok x p = ends (length (up_to (length lists))) (up_to (length lists)) (omega arith) x p
      (λ y u. Contains-up_to (length lists) y (face_ends lists ok u.0 y (record { cell = ok x u.0 u.1; walk = u.2 })))

-- where nothing more can be made and no cell is below itself, all are made
module _ (lists closures : List (List ℕ)) (digraph : IsDigraph lists) (so_far : AreClosuresSoFar lists closures)
    (stuck : (x : ℕ) → x < length lists → IsStuck lists closures x) (no_cycle : (x : ℕ) → IsBelowItself lists x → ⊥) where
  all_made : (x : ℕ) → x < length lists → IsMade closures x
  all_made x lt = elim (cases_lt 0 (length (get_or closures x []))) [
    | inl made ↦ made
    | inr none ↦ absurd (never_handed_on lists no_cycle (λ q. (q < length lists) × (IsMade closures q → ⊥))
        (λ q h. elim (stuck q h.0) [
          | inl m ↦ absurd (h.1 m)
          | inr g ↦ (g.0, (g.1.0, (digraph q g.0 g.1.0, g.1.1)))
        ])
        digraph x (lt, λ m. omega (arith, m, none)))
  ]

  pub closures_whole : AreClosures lists closures
  closures_whole = record {
    height = so_far.height;
    ascending = so_far.ascending;
    faces = λ x y. (
      (λ s. (so_far.faces x y (all_made x (let lt = step_begins closures x y s in omega (arith, lt, so_far.height)))).0 s),
      (λ f. (so_far.faces x y (all_made x f.cell)).1 f),
    );
  }

-- what stands in a closure that is made is a cell
pub closures_in_range : (lists closures : List (List ℕ)) → IsDigraph lists → AreClosuresSoFar lists closures → (x y : ℕ) → ListedStep closures x y
    → y < length lists
closures_in_range lists closures digraph so_far x y s =
    let made : IsMade closures x = omega (arith, s.1) in
    face_ends lists digraph x y ((so_far.faces x y made).0 s)

-- the lists of the cells of a set hold its closure
pub closure_listed : (lists closures : List (List ℕ)) → AreClosures lists closures → (set : List ℕ) (y : ℕ) → IsInListOf closures set y
    ↔ IsInClosure lists set y
closure_listed lists closures are set y = (
  (λ g. (g.0, g.1.0, (are.faces g.0 y).0 g.1.1)),
  (λ g. (g.0, (g.1, (are.faces g.0 y).1 g.2))),
)

-- some list holds the closure of a set, where lists hold the faces of each cell
pub closure_exists : (lists closures : List (List ℕ)) → ((x y : ℕ) → ListedStep closures x y ↔ IsFace lists x y) → (set : List ℕ) → (closure : List ℕ)
    × ((y : ℕ) → Contains closure y ↔ IsInClosure lists set y)
closure_exists lists closures faces [] = ([], λ y. ((λ c. Contains-none y c), (λ g. Contains-none g.0 g.1)))
closure_exists lists closures faces (x ∷ set) =
    let rest = closure_exists lists closures faces set in
    let row = get_or closures x [] in (
      row ++ rest.0,
      λ y. (
        (λ c. elim (Contains-append_cases row rest.0 y c) [
          | inl here ↦ (x, Contains-append_left (x ∷ []) set x (Contains-push [] x), (faces x y).0 here)
          | inr later ↦ let g = (rest.1 y).0 later in (g.0, Contains-append_right (x ∷ []) set g.0 g.1, g.2)
        ]),
        (λ g. elim (Contains-append_cases (x ∷ []) set g.0 g.1) [
          | inl here ↦ elim (Contains-push_cases [] x g.0 here) [
            | inl none ↦ Contains-none g.0 none
            | inr e ↦ Contains-append_left row rest.0 y ((faces x y).1 (subst (λ q. IsFace lists q y) (sym e) g.2))
          ]
          | inr later ↦ Contains-append_right row rest.0 y ((rest.1 y).1 (g.0, later, g.2))
        ]),
      ),
    )
