-- Faces of cubes.
use Rattle.std.proofs.Common.{◌≡◌, ◌≢◌, ◌+◌, ◌-◌, ◌%◌, ◌<◌, ◌≤◌, ℕ, suc, List, [], ◌∷◌, ◌++◌, Bool, true, false, length, map, refl, sym, ◌∙◌, ap, subst, arith, cond}
use Rattle.std.specs.Prelude.{All, Contains}
use Rattle.std.proofs.lemmas.Bool.{eqb-true}
use Rattle.std.proofs.lemmas.List.{get_or-map, length-map}
use Rattle.std.proofs.lemmas.List.Elements.{All-cons, All-head, All-tail, All-map, All-weaker, All-nil}
use Rattle.conley_generated.specs.Rule.{only_cells}
use Rattle.conley_lists.proofs.ContainsLemmas.{Contains-first, Contains-rest}
use Rattle.conley_lists.specs.Lists.{AreApart}
use Rattle.conley_generated.proofs.CellLemmas.{behind_apart, apart_cons}
use Rattle.conley_cubical.specs.Cube.{is_wide, dim_of}
use Rattle.conley_cubical.specs.Making.{turned, unturned, faces_behind, faces_of_cube}
use Rattle.conley_cubical.proofs.SquareLaw.{wide_up, wide_down}

pub cells_turned : (c : ℕ) (faces : List (List ℕ × Bool)) → only_cells (map (turned c) faces) ≡ map (λ t. c ∷ t) (only_cells faces)
cells_turned c [] = refl
cells_turned c (face ∷ faces) = ap (λ l. (c ∷ face.0) ∷ l) (cells_turned c faces)

pub cells_kept : (c : ℕ) (faces : List (List ℕ × Bool)) → only_cells (map (unturned c) faces) ≡ map (λ t. c ∷ t) (only_cells faces)
cells_kept c [] = refl
cells_kept c (face ∷ faces) = ap (λ l. (c ∷ face.0) ∷ l) (cells_kept c faces)

-- what holds of both ends in place of a wide pair, and of the faces of the rest behind it, holds of all faces
pub faces_all : (P : List ℕ → Type 0) (c : ℕ) (s : List ℕ) (faces : List (List ℕ × Bool)) (b : Bool)
    → (b ≡ true → P ((c + 1) ∷ s) × P ((c - 1) ∷ s)) → All (λ t. P (c ∷ t)) (only_cells faces) → All P (only_cells (faces_behind b c s faces))
faces_all P c s faces true ends rest =
    All-cons P ((c + 1) ∷ s) (((c - 1) ∷ s) ∷ only_cells (map (turned c) faces)) (ends refl).0
    (All-cons P ((c - 1) ∷ s) (only_cells (map (turned c) faces)) (ends refl).1
    (subst (λ (l : List (List ℕ)). All P l) (sym (cells_turned c faces)) (All-map P (λ (t : List ℕ). c ∷ t) (only_cells faces) rest)))
faces_all P c s faces false ends rest = subst (λ (l : List (List ℕ)). All P l) (sym (cells_kept c faces))
    (All-map P (λ (t : List ℕ). c ∷ t) (only_cells faces) rest)

abbrev pub Inside : ℕ → Type 0
Inside c = c ≤ 4000000

-- a face has as many pairs, all in range, and one less of them is wide
pub record IsFacePart (s t : List ℕ) : Type 0 where
  pub count : length t ≡ length s
  pub inside : All Inside s → All Inside t
  pub down : dim_of s ≡ dim_of t + 1

pub faces_are_parts : (s : List ℕ) → All (IsFacePart s) (only_cells (faces_of_cube s))
faces_are_parts [] = All-nil (IsFacePart [])
faces_are_parts (c ∷ s) = faces_all (IsFacePart (c ∷ s)) c s (faces_of_cube s) (is_wide c) (λ wide. (upper wide, lower wide))
    (All-weaker (IsFacePart s) (λ t. IsFacePart (c ∷ s) (c ∷ t)) (λ t part. record {
      count = ap suc part.count;
      inside = λ all. All-cons Inside c t (All-head Inside c s all) (part.inside (All-tail Inside c s all));
      down = omega (arith, part.down);
    }) (only_cells (faces_of_cube s)) (faces_are_parts s))
  where
    dims : (e : ℕ) → is_wide c ≡ true → is_wide e ≡ false → dim_of (c ∷ s) ≡ dim_of (e ∷ s) + 1
    dims e wide narrow =
        let a : ◌≡◌ {A = ℕ} (cond (is_wide c) 1 0) 1 = ap (λ b. cond b 1 0) wide in
        let d : ◌≡◌ {A = ℕ} (cond (is_wide e) 1 0) 0 = ap (λ b. cond b 1 0) narrow in
        omega (arith, a, d)

    upper : is_wide c ≡ true → IsFacePart (c ∷ s) ((c + 1) ∷ s)
    upper wide = record {
      count = refl;
      inside = λ all.
          let one : c % 2 ≡ 1 = eqb-true (c % 2) 1 wide in
          let le = All-head Inside c s all in
          All-cons Inside (c + 1) s (omega (arith, one, le)) (All-tail Inside c s all);
      down = dims (c + 1) wide (wide_up c wide);
    }

    lower : is_wide c ≡ true → IsFacePart (c ∷ s) ((c - 1) ∷ s)
    lower wide = record {
      count = refl;
      inside = λ all. let le = All-head Inside c s all in All-cons Inside (c - 1) s (omega (arith, le)) (All-tail Inside c s all);
      down = dims (c - 1) wide (wide_down c wide);
    }

-- ---- no two are the same

heads_differ : (v w : ℕ) (s : List ℕ) (cells : List (List ℕ)) → v ≢ w → All (λ t. v ∷ s ≢ t) (map (λ t. w ∷ t) cells)
heads_differ v w s cells ne = All-map (λ t. v ∷ s ≢ t) (λ (t : List ℕ). w ∷ t) cells (λ k d lt e. ne (cc))

pub faces_apart : (s : List ℕ) → AreApart (only_cells (faces_of_cube s))
faces_apart [] = λ i j d less lt. absurd (omega (arith, lt))
faces_apart (c ∷ s) = by (faces_apart s) (is_wide c) refl
  where
    by : AreApart (only_cells (faces_of_cube s)) → (b : Bool) → is_wide c ≡ b → AreApart (only_cells (faces_behind b c s (faces_of_cube s)))
    by rest false narrow = subst (λ (l : List (List ℕ)). AreApart l) (sym (cells_kept c (faces_of_cube s))) (behind_apart c (only_cells (faces_of_cube s)) rest)
    by rest true wide =
        let one : c % 2 ≡ 1 = eqb-true (c % 2) 1 wide in
        let behind : List (List ℕ) = map (λ t. c ∷ t) (only_cells (faces_of_cube s)) in
        subst (λ (l : List (List ℕ)). AreApart (((c + 1) ∷ s) ∷ ((c - 1) ∷ s) ∷ l)) (sym (cells_turned c (faces_of_cube s)))
        (apart_cons ((c + 1) ∷ s) (((c - 1) ∷ s) ∷ behind)
        (All-cons (λ t. (c + 1) ∷ s ≢ t) ((c - 1) ∷ s) behind (λ e. let same : c + 1 ≡ c - 1 = cc in absurd (omega (arith, same)))
        (heads_differ (c + 1) c s (only_cells (faces_of_cube s)) (λ e. absurd (omega (arith, e)))))
        (apart_cons ((c - 1) ∷ s) behind (heads_differ (c - 1) c s (only_cells (faces_of_cube s)) (λ e. absurd (omega (arith, e, one))))
        (behind_apart c (only_cells (faces_of_cube s)) rest)))

-- ---- one of the ends in place of a wide pair behind some others

pub changed : (p : List ℕ) (c : ℕ) (s : List ℕ) → is_wide c ≡ true → Contains (only_cells (faces_of_cube (p ++ c ∷ s))) (p ++ (c + 1) ∷ s)
    × Contains (only_cells (faces_of_cube (p ++ c ∷ s))) (p ++ (c - 1) ∷ s)
changed [] c s wide = subst (λ b. Contains (only_cells (faces_behind b c s (faces_of_cube s))) ((c + 1) ∷ s)
    × Contains (only_cells (faces_behind b c s (faces_of_cube s))) ((c - 1) ∷ s)) (sym wide) (
      Contains-first ((c + 1) ∷ s) (((c - 1) ∷ s) ∷ only_cells (map (turned c) (faces_of_cube s))),
      Contains-rest ((c + 1) ∷ s) (((c - 1) ∷ s) ∷ only_cells (map (turned c) (faces_of_cube s))) ((c - 1) ∷ s)
          (Contains-first ((c - 1) ∷ s) (only_cells (map (turned c) (faces_of_cube s)))),
    )
changed (w ∷ p) c s wide =
    let rest = changed p c s wide in
    (in_rest (is_wide w) (p ++ (c + 1) ∷ s) rest.0, in_rest (is_wide w) (p ++ (c - 1) ∷ s) rest.1)
  where
    mapped : (cells : List (List ℕ)) (t : List ℕ) → Contains cells t → Contains (map (λ t. w ∷ t) cells) (w ∷ t)
    mapped cells t there =
        let n = length-map cells (λ (t : List ℕ). w ∷ t) in
        let lt : there.0 < length (map (λ (t : List ℕ). w ∷ t) cells) = omega (arith, n, there.1) in
        (there.0, lt, get_or-map (λ (t : List ℕ). w ∷ t) cells there.0 t (w ∷ t) there.1 ∙ ap (λ t. w ∷ t) there.2)

    in_rest : (b : Bool) (t : List ℕ) → Contains (only_cells (faces_of_cube (p ++ c ∷ s))) t
        → Contains (only_cells (faces_behind b w (p ++ c ∷ s) (faces_of_cube (p ++ c ∷ s)))) (w ∷ t)
    in_rest false t there = subst (λ (l : List (List ℕ)). Contains l (w ∷ t)) (sym (cells_kept w (faces_of_cube (p ++ c ∷ s))))
        (mapped (only_cells (faces_of_cube (p ++ c ∷ s))) t there)
    in_rest true t there =
        Contains-rest ((w + 1) ∷ (p ++ c ∷ s)) (((w - 1) ∷ (p ++ c ∷ s)) ∷ only_cells (map (turned w) (faces_of_cube (p ++ c ∷ s)))) (w ∷ t)
        (Contains-rest ((w - 1) ∷ (p ++ c ∷ s)) (only_cells (map (turned w) (faces_of_cube (p ++ c ∷ s)))) (w ∷ t)
        (subst (λ (l : List (List ℕ)). Contains l (w ∷ t)) (sym (cells_turned w (faces_of_cube (p ++ c ∷ s))))
        (mapped (only_cells (faces_of_cube (p ++ c ∷ s))) t there)))
