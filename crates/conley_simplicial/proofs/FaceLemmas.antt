-- Lists with one vertex left out.
use Rattle.std.proofs.Common.{◌≡◌, ◌≢◌, ◌+◌, ◌<◌, ℕ, zero, suc, List, [], ◌∷◌, ◌++◌, Bool, length, map, get_or, refl, sym, ◌∙◌, ap, subst, arith}
use Rattle.std.specs.Prelude.{All, Contains}
use Rattle.std.specs.List.{AllPairs, remove}
use Rattle.std.specs.List.Sorted.{IsStrictlyIncreasing}
use Rattle.std.proofs.lemmas.List.{get_or-map, length-map, get_or_default}
use Rattle.std.proofs.lemmas.List.Elements.{All-cons, All-map, All-weaker, All-contains, All-nil}
use Rattle.std.proofs.lemmas.List.Kept.{AllPairs-from_increasing}
use Rattle.conley_generated.specs.Rule.{only_cells}
use Rattle.conley_lists.proofs.ContainsLemmas.{Contains-first, Contains-rest}
use Rattle.conley_lists.specs.Lists.{AreApart}
use Rattle.conley_generated.proofs.CellLemmas.{pairs_head, pairs_tail, behind_apart, apart_cons}
use Rattle.conley_simplicial.specs.Making.{is_odd, before_face, without, faces_of_simplex}

abbrev pub Ascends : List ℕ → Type 0
Ascends s = AllPairs (λ v w. v < w) s

abbrev pub Less : ℕ → ℕ → Type 0
Less v w = v < w

pub ascends_from : (s : List ℕ) → IsStrictlyIncreasing s → Ascends s
ascends_from s up = AllPairs-from_increasing s up

pub ascends_to : (s : List ℕ) → Ascends s → IsStrictlyIncreasing s
ascends_to s up k lt = up k (k + 1) 0 (omega arith) lt

pub ascends_cons : (v : ℕ) (s : List ℕ) → All (Less v) s → Ascends s → Ascends (v ∷ s)
ascends_cons v s below up zero zero d less lt = absurd (omega (arith, less))
ascends_cons v s below up zero (suc j) d less lt = below j d (omega (arith, lt))
ascends_cons v s below up (suc i) zero d less lt = absurd (omega (arith, less))
ascends_cons v s below up (suc i) (suc j) d less lt = up i j d (omega (arith, less)) (omega (arith, lt))

-- ---- left out by its place

pub length-without : (s : List ℕ) → length (without s) ≡ length s
length-without [] = refl
length-without (v ∷ s) = ap suc (length-map (without s) (before_face v) ∙ length-without s)

pub without_at : (s : List ℕ) (i : ℕ) (d : List ℕ × Bool) → i < length s → get_or (without s) i d ≡ (remove s i, is_odd i)
without_at [] i d lt = absurd (omega (arith, lt))
without_at (v ∷ s) zero d lt = refl
without_at (v ∷ s) (suc i) d lt =
    let there : i < length s = omega (arith, lt) in
    get_or-map (before_face v) (without s) i d d (omega (arith, there, length-without s)) ∙ ap (before_face v) (without_at s i d there)

pub only_cells-behind : (v : ℕ) (faces : List (List ℕ × Bool)) → only_cells (map (before_face v) faces) ≡ map (λ t. v ∷ t) (only_cells faces)
only_cells-behind v [] = refl
only_cells-behind v (face ∷ faces) = ap (λ l. (v ∷ face.0) ∷ l) (only_cells-behind v faces)

pub faces_without : (s : List ℕ) → 1 < length s → faces_of_simplex s ≡ without s
faces_without [] lt = absurd (omega (arith, lt))
faces_without (v ∷ []) lt = absurd (omega (arith, lt))
faces_without (v ∷ w ∷ s) lt = refl

-- ---- a list with one vertex left out

pub record IsPart (s t : List ℕ) : Type 0 where
  pub ascends : Ascends t
  pub within : All (Contains s) t
  pub shorter : length t + 1 ≡ length s

parts : (s : List ℕ) → Ascends s → All (IsPart s) (only_cells (without s))
parts [] up = All-nil (IsPart [])
parts (v ∷ s) up = All-cons (IsPart (v ∷ s)) s (only_cells (map (before_face v) (without s)))
    (record { ascends = pairs_tail Less v s up; within = All-contained' s (λ w c. Contains-rest v s w c); shorter = omega arith })
    (subst (λ (l : List (List ℕ)). All (IsPart (v ∷ s)) l) (sym (only_cells-behind v (without s)))
    (All-map (IsPart (v ∷ s)) (λ (t : List ℕ). v ∷ t) (only_cells (without s))
    (All-weaker (IsPart s) (λ t. IsPart (v ∷ s) (v ∷ t)) (λ t part. record {
      ascends = ascends_cons v t (All-weaker (Contains s) (Less v) (λ w c. All-contains (Less v) s w (pairs_head Less v s up) c) t part.within) part.ascends;
      within = All-cons (Contains (v ∷ s)) v t (Contains-first v s) (All-weaker (Contains s) (Contains (v ∷ s)) (λ w c. Contains-rest v s w c) t part.within);
      shorter = omega (arith, part.shorter);
    }) (only_cells (without s)) (parts s (pairs_tail Less v s up)))))
  where
    All-contained' : (s : List ℕ) → ((w : ℕ) → Contains s w → Contains (v ∷ s) w) → All (Contains (v ∷ s)) s
    All-contained' s h k d lt = h (get_or s k d) (k, lt, get_or_default s k (get_or s k d) d lt)

pub faces_are_parts : (s : List ℕ) → Ascends s → All (IsPart s) (only_cells (faces_of_simplex s))
faces_are_parts [] up = All-nil (IsPart [])
faces_are_parts (v ∷ []) up = All-nil (IsPart (v ∷ []))
faces_are_parts (v ∷ w ∷ s) up = parts (v ∷ w ∷ s) up

-- ---- no two are the same

without_apart : (s : List ℕ) → Ascends s → AreApart (only_cells (without s))
without_apart [] up = λ i j d less lt. absurd (omega (arith, lt))
without_apart (v ∷ s) up =
    subst (λ (l : List (List ℕ)). AreApart (s ∷ l)) (sym (only_cells-behind v (without s)))
    (apart_cons s (map (λ t. v ∷ t) (only_cells (without s))) (All-map (λ t. s ≢ t) (λ (t : List ℕ). v ∷ t) (only_cells (without s))
    (λ k d lt. not_behind s (get_or (only_cells (without s)) k d) (pairs_head Less v s up)))
    (behind_apart v (only_cells (without s)) (without_apart s (pairs_tail Less v s up))))
  where
    not_behind : (s t : List ℕ) → All (Less v) s → s ≢ v ∷ t
    not_behind [] t above e = cc
    not_behind (w ∷ s) t above e =
        let same : w ≡ v = cc in
        let less = above 0 0 (omega arith) in
        absurd (omega (arith, same, less))

pub faces_apart : (s : List ℕ) → Ascends s → AreApart (only_cells (faces_of_simplex s))
faces_apart [] up = λ i j d less lt. absurd (omega (arith, lt))
faces_apart (v ∷ []) up = λ i j d less lt. absurd (omega (arith, lt))
faces_apart (v ∷ w ∷ s) up = without_apart (v ∷ w ∷ s) up

-- ---- a vertex after some others is left out

pub left_out : (p : List ℕ) (v : ℕ) (s : List ℕ) → Contains (only_cells (without (p ++ v ∷ s))) (p ++ s)
left_out [] v s = Contains-first s (only_cells (map (before_face v) (without s)))
left_out (w ∷ p) v s =
    Contains-rest (p ++ v ∷ s) (only_cells (map (before_face w) (without (p ++ v ∷ s)))) (w ∷ (p ++ s))
    (subst (λ (l : List (List ℕ)). Contains l (w ∷ (p ++ s))) (sym (only_cells-behind w (without (p ++ v ∷ s))))
    (mapped (only_cells (without (p ++ v ∷ s))) (left_out p v s)))
  where
    mapped : (cells : List (List ℕ)) → Contains cells (p ++ s) → Contains (map (λ t. w ∷ t) cells) (w ∷ (p ++ s))
    mapped cells c =
        let n = length-map cells (λ (t : List ℕ). w ∷ t) in
        let lt : c.0 < length (map (λ (t : List ℕ). w ∷ t) cells) = omega (arith, n, c.1) in
        (c.0, lt, get_or-map (λ (t : List ℕ). w ∷ t) cells c.0 (p ++ s) (w ∷ (p ++ s)) c.1 ∙ ap (λ t. w ∷ t) c.2)
