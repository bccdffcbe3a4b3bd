-- From lists without a fault to a partition into locally closed parts.
use Rattle.std.proofs.Common.{◌≡◌, ◌⊎◌, inl, inr, ◌≤◌, ◌<◌, ◌^◌, ℕ, zero, suc, List, [], ◌∷◌, None, length, get_or, sym, ap, ◌∙◌, subst, arith, length-append}
use Rattle.std.specs.Prelude.{◌↔◌, slice_index}
use Rattle.std.proofs.lemmas.Bool.{cases_lt, cases_order}
use Rattle.std.proofs.lemmas.List.{get_or_past}
use Rattle.std.proofs.lemmas.List.Concat.{flat_map-cons}
use Rattle.conley_first.specs.Places.{FindsFirst}
use Rattle.conley_walk.specs.Walk.{Reaches}
use Rattle.conley_lists.specs.Lists.{ListedStep, entries_of, IsOrderedCopy}
use Rattle.conley_walk.proofs.WalkLemmas.{reaches_on}
use Rattle.conley_lists.proofs.ListLemmas.{place_of, All-from_contained}
use Rattle.conley_faces.specs.Face.{IsGap, IsCellList}
use Rattle.conley_faces.specs.FaceOrder.{IsFaceOrder}
use Rattle.conley_faces.proofs.FaceLemmas.{face_cases, face_ends}
use Rattle.conley_mvf.specs.Partition.{IsPartition, IsMultivectorField, ShareAList, IsWhole}
use Rattle.conley_mvf.specs.Fault.{IsUnknown, StoodEarlier}
use Rattle.conley_mvf.specs.Making.{FindsFirstGap, TellsFirst, AreLeast, NumbersSoFar}
use Rattle.conley_mvf.proofs.FirstsLemmas.{IsOnce, are_least, one_first}

-- a list is no longer than all lists
pub list_within_entries : (lists : List (List ℕ)) (k : ℕ) → length (get_or lists k []) ≤ length (entries_of lists)
list_within_entries [] k = let e : get_or {A = List ℕ} [] k [] ≡ [] = get_or_past {X = List ℕ} [] k [] (omega arith) in omega (arith, ap length e)
list_within_entries (l ∷ lists) zero = omega (arith, ap length (flat_map-cons (λ (r : List ℕ). r) l lists), length-append l (entries_of lists))
list_within_entries (l ∷ lists) (suc k) = omega (
  arith,
  ap length (flat_map-cons (λ (r : List ℕ). r) l lists),
  length-append l (entries_of lists),
  list_within_entries lists k,
)

-- where no number is unknown, all are cells
pub all_known : (n : ℕ) (lists : List (List ℕ)) → FindsFirst (IsUnknown n lists) None → (k x : ℕ) → ListedStep lists k x → x < n
all_known n lists none k x s = elim (cases_lt x n) [
  | inl less ↦ less
  | inr past ↦ let p = place_of (get_or lists k []) x s in absurd (none k p.0 (p.1, omega (arith, p.2)))
]

-- where no number stood earlier, none stands in two lists
all_once : (lists : List (List ℕ)) → FindsFirst (StoodEarlier lists) None → IsOnce lists
all_once lists none k l x a b = elim (cases_order k l) [
  | inl e ↦ e
  | inr other ↦ elim other [ inl less ↦ absurd (apart k l less a b) | inr more ↦ absurd (apart l k more b a) ]
]
  where
    apart : (i j : ℕ) → i < j → ListedStep lists i x → ListedStep lists j x → ⊥
    apart i j less c d =
        let p = place_of (get_or lists i []) x c in
        let q = place_of (get_or lists j []) x d in
        none j q.0 (i, p.0, x, (q.1, q.2), (p.1, p.2), inl less)

-- lists in order that have cells alone are cell lists
pub cell_lists : (faces copy lists : List (List ℕ)) → IsOrderedCopy copy lists → ((k x : ℕ) → ListedStep lists k x → x < length faces) → (k : ℕ)
    → IsCellList faces (get_or copy k [])
cell_lists faces copy lists ordered known k = record {
  ascending = ordered.ascending k;
  cells = All-from_contained (λ x. x < length faces) (get_or copy k []) (λ x c. known k x ((ordered.same k x).0 c));
}

-- numbers of cells that have one first cell are numbers of parts
pub is_partition : (least part_of : List ℕ) (next : ℕ) → length least < 2 ^ 32 → NumbersSoFar least (length least) part_of next → IsPartition part_of
is_partition least part_of next few numbers = record {
  few = omega (arith, numbers.count);
  in_order =
      λ x k lt. numbers.in_order x k (omega (arith, numbers.count));
}

is_whole : (copy lists : List (List ℕ)) (least part_of : List ℕ) (next : ℕ) → IsOrderedCopy copy lists → NumbersSoFar least (length least) part_of next →
    ((x y : ℕ) → x < length least → y < length least → (slice_index least x ≡ slice_index least y) ↔ ((x ≡ y) ⊎ ShareAList copy x y)) → IsWhole lists part_of
is_whole copy lists least part_of next ordered numbers first x y lx ly =
    let lx' : x < length least = omega (arith, numbers.count) in
    let ly' : y < length least = omega (arith, numbers.count) in
    let same = numbers.same x y lx' ly' in
    let one = first x y lx' ly' in (
      (λ e. elim (one.0 (same.0 e)) [ inl f ↦ inl f | inr s ↦ inr (s.0, (ordered.same s.0 x).0 s.1, (ordered.same s.0 y).0 s.2) ]),
      (λ h. same.1 (one.1 (elim h [ inl f ↦ inl f | inr s ↦ inr (s.0, (ordered.same s.0 x).1 s.1, (ordered.same s.0 y).1 s.2) ]))),
    )

-- parts that are lists without a gap, or one cell, are locally closed
pub are_closed : (faces lists : List (List ℕ)) (part_of : List ℕ) → IsFaceOrder faces → length part_of ≡ length faces → IsWhole lists part_of
    → FindsFirstGap (λ k. IsGap faces (get_or lists k [])) None → IsMultivectorField faces part_of
are_closed faces lists part_of order count whole none = record {
  count = count;
  closed = λ p cells are x y z gap.
      let ix = (are.same x).0 gap.upper in
      let iz = (are.same z).0 gap.lower in
      let ly : y < length part_of = omega (arith, face_ends faces order.digraph x y gap.down, count) in
      let apart = λ (e : slice_index part_of x ≡ slice_index part_of y). gap.outside ((are.same y).1 (ly, sym e ∙ ix.1)) in
      elim ((whole x z ix.0 iz.0).0 (ix.1 ∙ sym iz.1)) [
        | inl e ↦ elim (face_cases faces order.digraph x y gap.down) [
          | inl same ↦ apart (ap (slice_index part_of) same)
          | inr step ↦ order.no_cycle x (step.0, step.1.0, reaches_on step.1.1.walk (subst (Reaches (ListedStep faces) y) (sym e) gap.further.walk))
        ]
        | inr s ↦ none s.0 x y z (record {
          upper = s.1;
          lower = s.2;
          outside = λ h. apart ((whole x y ix.0 ly).1 (inr (s.0, s.1, h)));
          down = gap.down;
          further = gap.further;
        })
      ];
}

-- what the steps made of lists without an unknown number or one that stood earlier, over a copy in order
module _ (cells : ℕ) (lists copy : List (List ℕ)) (ordered : IsOrderedCopy copy lists) (unknown : FindsFirst (IsUnknown cells lists) None)
    (earlier : FindsFirst (StoodEarlier lists) None) (least : List ℕ) (tells : TellsFirst copy (length copy) cells least) where
  within : (k x : ℕ) → ListedStep copy k x → x < cells
  within k x s = all_known cells lists unknown k x ((ordered.same k x).0 s)

  once : IsOnce copy
  once k l x a b = all_once lists earlier k l x ((ordered.same k x).0 a) ((ordered.same l x).0 b)

  pub firsts_are_least : AreLeast least
  firsts_are_least = are_least copy cells least within ordered.ascending once tells

  pub numbers_are_whole : (part_of : List ℕ) (next : ℕ) → NumbersSoFar least (length least) part_of next → IsWhole lists part_of
  numbers_are_whole part_of next numbers =
      is_whole copy lists least part_of next ordered numbers (λ x y lx ly. one_first copy cells least within ordered.ascending once tells x y
      (omega (arith, tells.count)) (omega (arith, tells.count)))
