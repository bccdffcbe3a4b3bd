-- Cells that wait, since they came into another part, and what is settled by them.
use Rattle.std.proofs.Common.{◌≡◌, ◌≢◌, ◌⊎◌, inl, inr, ◌+◌, ◌*◌, ◌<◌, ◌≤◌, ℕ, suc, List, [], ◌∷◌, ◌++◌, length, get_or, set, refl, sym, ap, ◌∙◌, subst, arith, length-append, get_or-set_other}
use Rattle.std.specs.Prelude.{Contains, slice_index}
use Rattle.std.proofs.Math.Nat.{suc-mul}
use Rattle.std.proofs.lemmas.Bool.{cases_eq}
use Rattle.std.proofs.lemmas.List.{length-set}
use Rattle.std.proofs.lemmas.List.Sums.{sum_by-set}
use Rattle.std.proofs.lemmas.List.Elements.{Contains-append_left, Contains-append_right, Contains-append_cases, Contains-push_cases}
use Rattle.conley_lists.specs.Lists.{ListedStep, IsDigraph}
use Rattle.conley_lists.proofs.ListLemmas.{Contains-none}
use Rattle.conley_faces.specs.Face.{IsFace, IsBelowItself}
use Rattle.conley_faces.proofs.FaceLemmas.{face_cases, face_on}
use Rattle.conley_digraph.specs.Turning.{IsTurnedRound}
use Rattle.conley_mvf.specs.Partition.{ShareAPart}
use Rattle.conley_mvf.proofs.WholeLemmas.{list_within_entries}
use Rattle.conley_hull.specs.Hull.{Refines}
use Rattle.conley_hull.specs.Making.{IsTable, Absorbs, LetsMovedWait, IsSettled, GapsWait, part_one, part_count, work}
use Rattle.conley_hull.proofs.JoinLemmas.{share-sym, share-trans}

pub moved-none : (labels waiting : List ℕ) → LetsMovedWait labels labels waiting waiting
moved-none labels waiting = record { kept = λ x c. c; cells = λ x c. inl c; moved = λ x z s. inl s }

pub moved-on : (old mid new before during after : List ℕ) → length mid ≡ length old → LetsMovedWait old mid before during → LetsMovedWait mid new during after
    → LetsMovedWait old new before after
moved-on old mid new before during after count a b = record {
  kept = λ x c. b.kept x (a.kept x c);
  cells = λ x c. elim (b.cells x c) [ inl d ↦ a.cells x d | inr lt ↦ inr (omega (arith, lt, count)) ];
  moved = λ x z s. elim (b.moved x z s) [
    | inl m ↦ elim (a.moved x z m) [
      | inl o ↦ inl o
      | inr w ↦ inr (elim w [ inl c ↦ inl (b.kept x c) | inr c ↦ inr (b.kept z c) ])
    ]
    | inr w ↦ inr w
  ];
}

-- the cells of a part that goes to another wait
pub moved-absorb : (k q : ℕ) (old new : List ℕ) (cells : List (List ℕ)) (before after : List ℕ) → IsTable old cells → Absorbs k q old new
    → after ≡ before ++ get_or cells q [] → LetsMovedWait old new before after
moved-absorb k q old new cells before after table a is = rw is (record {
  kept = λ x c. Contains-append_left before (get_or cells q []) x c;
  cells = λ x c. elim (Contains-append_cases before (get_or cells q []) x c) [ inl b ↦ inl b | inr m ↦ inr ((table.same q x).0 m).0 ];
  moved = λ x z s.
      let lx : x < length old = omega (arith, s.0, a.count) in
      let lz : z < length old = omega (arith, s.1.0, a.count) in
      elim (cases_eq (slice_index old x) q) [
        | inl e ↦ inr (inl (Contains-append_right before (get_or cells q []) x ((table.same q x).1 (lx, e))))
        | inr nx ↦ elim (cases_eq (slice_index old z) q) [
          | inl e ↦ inr (inr (Contains-append_right before (get_or cells q []) z ((table.same q z).1 (lz, e))))
          | inr nz ↦ inl (lx, (lz, sym (a.kept z nz) ∙ s.1.1 ∙ a.kept x nx))
        ]
      ];
})

part_one-some : (list : List ℕ) (x : ℕ) → Contains list x → part_one list ≡ 1
part_one-some [] x c = Contains-none x c
part_one-some (y ∷ ys) x c = refl

-- one part less weighs more than the cells that wait
pub work-absorb : (k q u v : ℕ) (labels : List ℕ) (cells cells' : List (List ℕ)) (before after : List ℕ) → IsTable labels cells → q ≢ k → u < length labels
    → v < length labels → slice_index labels u ≡ k → slice_index labels v ≡ q →
    cells' ≡ set (set cells q []) k (get_or cells k [] ++ get_or cells q []) → after ≡ before ++ get_or cells q [] → work cells' after ≤ work cells before
work-absorb k q u v labels cells cells' before after table apart lu lv u_k v_q is_cells is_after =
    let kk = get_or cells k [] in
    let qq = get_or cells q [] in
    let lk : k < length cells = omega (arith, table.below u lu, u_k, table.count) in
    let lq : q < length cells = omega (arith, table.below v lv, v_q, table.count) in
    let new = set (set cells q []) k (kk ++ qq) in
    let one = sum_by-set part_one cells q [] [] lq in
    let two = sum_by-set part_one (set cells q []) k (kk ++ qq) [] (omega (arith, length-set cells q [], lk)) in
    let at : part_one (get_or (set cells q []) k []) ≡ part_one kk = ap part_one (get_or-set_other cells q k [] [] (λ e. apart (sym e))) in
    let in_k : Contains kk u = (table.same k u).1 (lu, u_k) in
    let none : part_one [] ≡ 0 = refl in
    let fewer : part_count cells ≡ suc (part_count new) =
    omega (
      arith,
      one,
      two,
      at,
      none,
      part_one-some kk u in_k,
      part_one-some qq v ((table.same q v).1 (lv, v_q)),
      part_one-some (kk ++ qq) u (Contains-append_left kk qq u in_k),
    ) in
    let count : length new ≡ length cells = length-set (set cells q []) k (kk ++ qq) ∙ length-set cells q [] in
    let product : part_count cells * (length cells + 1) ≡ part_count new * (length cells + 1) + (length cells + 1) =
    ap (λ (p : ℕ). p * (length cells + 1)) fewer ∙ suc-mul (part_count new) (length cells + 1) in
    let same : part_count new * (length new + 1) ≡ part_count new * (length cells + 1) = ap (λ (n : ℕ). part_count new * (n + 1)) count in
    rw (is_cells, is_after) (omega (arith, product, same, length-append before qq, list_within_entries cells q, table.entries, table.count))

-- what is settled stays so
pub settled-on : (old new before after : List ℕ) (x y z : ℕ) → Refines old new → LetsMovedWait old new before after → IsSettled old before x y z
    → IsSettled new after x y z
settled-on old new before after x y z coarser m settled s = elim (m.moved x z s) [
  | inl o ↦ elim (settled o) [
    | inl t ↦ inl (coarser x y t)
    | inr w ↦ inr (elim w [ inl c ↦ inl (m.kept x c) | inr c ↦ inr (m.kept z c) ])
  ]
  | inr w ↦ inr w
]

-- two cells that are faces of each other are one
face_antisym : (faces : List (List ℕ)) → IsDigraph faces → ((x : ℕ) → ¬ IsBelowItself faces x) → (x y : ℕ) → IsFace faces x y → IsFace faces y x → x ≡ y
face_antisym faces digraph no_cycle x y f g = elim (face_cases faces digraph x y f) [
  | inl e ↦ e
  | inr w ↦ absurd (no_cycle x (w.0, w.1.0, (face_on faces w.0 y x w.1.1 g).walk))
]

-- nothing lies between the cells of a part of one cell
pub gaps_wait-own : (faces : List (List ℕ)) (own new waiting : List ℕ) → IsDigraph faces → ((x : ℕ) → ¬ IsBelowItself faces x)
    → ((x : ℕ) → x < length own → slice_index own x ≡ x) → LetsMovedWait own new [] waiting → GapsWait (IsFace faces) new waiting
gaps_wait-own faces own new waiting digraph no_cycle is_own m x y z f g s = elim (m.moved x z s) [
  | inl o ↦
      let z_x : z ≡ x = sym (is_own z o.1.0) ∙ o.1.1 ∙ is_own x o.0 in
      let x_y : x ≡ y = face_antisym faces digraph no_cycle x y f (subst (IsFace faces y) z_x g) in
      inl (subst (ShareAPart new x) x_y (s.0, (s.0, refl)))
  | inr w ↦ inr w
]

-- when x has been looked at below and above, only those are not settled that wait
pub look-settled : (below above : List (List ℕ)) (x : ℕ) (old mid new before during after : List ℕ) → IsTurnedRound below above → Refines old new
    → Refines mid new → LetsMovedWait old new before after → LetsMovedWait mid new during after →
    GapsWait (ListedStep below) old (before ++ x ∷ []) → ((y z : ℕ) → ListedStep below x y → ListedStep below y z → IsSettled mid during x y z)
    → ((y z : ℕ) → ListedStep above x y → ListedStep above y z → IsSettled new after x y z) →
    GapsWait (ListedStep below) new after
look-settled below above x old mid new before during after turned coarser coarser' m m' settled down up u v w f g s = elim (m.moved u w s) [
  | inl o ↦ elim (settled u v w f g o) [
    | inl t ↦ inl (coarser u v t)
    | inr waits ↦ elim waits [
      | inl c ↦ elim (Contains-push_cases before x u c) [
        | inl b ↦ inr (inl (m.kept u b))
        | inr e ↦ subst (λ i. ListedStep below i v → IsSettled new after i v w) e (λ f'. settled-on mid new during after x v w coarser' m' (down v w f' g)) f s
      ]
      | inr c ↦ elim (Contains-push_cases before x w c) [
        | inl b ↦ inr (inr (m.kept w b))
        | inr e ↦ subst (λ i. ListedStep below v i → ShareAPart new u i → ShareAPart new u v ⊎ (Contains after u ⊎ Contains after i)) e
            (λ g' s'. elim (up v u ((turned.steps v x).1 g') ((turned.steps u v).1 f) (share-sym new u x s')) [
              | inl t ↦ inl (share-trans new u x v s' t)
              | inr w' ↦ inr (elim w' [ inl a ↦ inr a | inr b ↦ inl b ])
            ]) g s
      ]
    ]
  ]
  | inr waits ↦ inr waits
]
