-- The cells under the seeds are the simplices.
use Rattle.std.proofs.Common.{◌≡◌, inl, inr, ◌<◌, ℕ, zero, suc, List, [], ◌∷◌, ◌++◌, Bool, length, get_or, sym, ◌∙◌, ap, subst, arith, append_assoc, length-append}
use Rattle.std.specs.Prelude.{All, Contains}
use Rattle.std.specs.List.Sorted.{IsStrictlyIncreasing}
use Rattle.std.proofs.lemmas.List.Elements.{All-head, All-tail, All-weaker, All-contains, All-nil, Contains-get_or}
use Rattle.conley_generated.specs.Rule.{IsFace, only_cells}
use Rattle.conley_generated.specs.Generated.{IsUnder}
use Rattle.conley_generated.specs.Generated.IsUnder.{seed, face}
use Rattle.conley_lists.proofs.ContainsLemmas.{Contains-cases}
use Rattle.conley_generated.proofs.CellLemmas.{pairs_head, pairs_tail, Contains-empty}
use Rattle.conley_simplicial.specs.Simplex.{IsSimplex}
use Rattle.conley_simplicial.specs.Making.{faces_of_simplex, rule_of, SeedsAre}
use Rattle.conley_simplicial.proofs.FaceLemmas.{Ascends, Less, ascends_from, ascends_to, IsPart, faces_are_parts, faces_without, left_out}

module _ (labels : List (List ℕ)) (n : ℕ) (simplices seeds : List (List ℕ)) (are : SeedsAre n simplices seeds) where
  abbrev Under : List ℕ → Type 0
  Under s = IsUnder (rule_of labels) seeds s

  long : (t s : List ℕ) → IsFace (rule_of labels) t s → 1 < length t
  long [] s c = Contains-empty s c
  long (v ∷ []) s c = Contains-empty s c
  long (v ∷ w ∷ t) s c = omega arith

  pub under_simplex : (s : List ℕ) → Under s → IsSimplex n simplices s
  under_simplex s (seed t c) = record {
    ascending = All-contains IsStrictlyIncreasing seeds s are.ascending c;
    some = All-contains (λ (s : List ℕ). 0 < length s) seeds s are.some c;
    among = elim (are.only s c) [
      | inl vertex ↦ inl vertex
      | inr listed ↦ inr (listed.0, listed.1, within s (get_or simplices listed.0 []) (λ v there. (listed.2 v).0 there))
    ];
  }
    where
      within : (s l : List ℕ) → ((v : ℕ) → Contains s v → Contains l v) → All (Contains l) s
      within s l h k d lt = h (get_or s k d) (Contains-get_or s k d lt)
  under_simplex s (face t u under is_face) =
      let up = under_simplex t under in
      let ascends = ascends_from t up.ascending in
      let part : IsPart t s = All-contains (IsPart t) (only_cells (faces_of_simplex t)) s (faces_are_parts t ascends) is_face in
      let two : 1 < length t = long t s is_face in
      record {
        ascending = ascends_to s part.ascends;
        some = omega (arith, part.shorter, two);
        among = elim up.among [
          | inl vertex ↦ absurd (omega (arith, two, ap length vertex.2))
          | inr listed ↦ inr (
            listed.0,
            listed.1,
            All-weaker (Contains t) (Contains (get_or simplices listed.0 []))
                (λ v c. All-contains (Contains (get_or simplices listed.0 [])) t v listed.2 c) s part.within,
          )
        ];
      }

  -- without the vertex behind some others
  drop_one : (p : List ℕ) (v : ℕ) (u : List ℕ) → Under (p ++ v ∷ u) → 0 < length (p ++ u) → Under (p ++ u)
  drop_one p v u under some =
      let two : 1 < length (p ++ v ∷ u) = omega (arith, some, length-append p (v ∷ u), length-append p u) in
      face (p ++ v ∷ u) (p ++ u) under (subst (λ (l : List (List ℕ × Bool)). Contains (only_cells l) (p ++ u)) (sym (faces_without (p ++ v ∷ u) two))
      (left_out p v u))

  -- a list under the seeds, with some of its vertices alone, is under them
  thinned : (p u s : List ℕ) → Under (p ++ u) → Ascends u → Ascends s → All (Contains u) s → 0 < length (p ++ s) → Under (p ++ s)
  thinned p [] [] under up us within some = under
  thinned p [] (w ∷ s) under up us within some = Contains-empty w (All-head (Contains []) w s within)
  thinned p (v ∷ u) [] under up us within some =
      let less : 0 < length (p ++ u) = omega (arith, some, length-append p [], length-append p u) in
      thinned p u [] (drop_one p v u under less) (pairs_tail Less v u up) us (All-nil (Contains u)) some
  thinned p (v ∷ u) (w ∷ s) under up us within some = elim (Contains-cases v u w (All-head (Contains (v ∷ u)) w s within)) [
    | inl e ↦
        let later : All (Contains u) s = λ k d lt. elim (Contains-cases v u (get_or s k d) (All-tail (Contains (v ∷ u)) w s within k d lt)) [
          | inl same ↦ absurd (omega (arith, e, same, pairs_head Less w s us k d lt))
          | inr there ↦ there
        ] in
        let longer : 0 < length ((p ++ v ∷ []) ++ s) = omega (arith, length-append (p ++ v ∷ []) s, length-append p (v ∷ [])) in
        subst Under (append_assoc p (v ∷ []) s ∙ ap (λ x. p ++ x ∷ s) (sym e))
        (thinned (p ++ v ∷ []) u s (subst Under (sym (append_assoc p (v ∷ []) u)) under) (pairs_tail Less v u up) (pairs_tail Less w s us) later longer)
    | inr there ↦
        let above : v < w = All-contains (Less v) u w (pairs_head Less v u up) there in
        let later : All (Contains u) (w ∷ s) = λ k d lt. elim (Contains-cases v u (get_or (w ∷ s) k d) (within k d lt)) [
          | inl same ↦ absurd (least k d lt above (sym same))
          | inr there ↦ there
        ] in
        let less : 0 < length (p ++ u) = omega (arith, there.1, length-append p u) in
        thinned p u (w ∷ s) (drop_one p v u under less) (pairs_tail Less v u up) us later some
  ]
    where
      least : (k : ℕ) (d : ℕ) → k < length (w ∷ s) → v < w → v ≡ get_or (w ∷ s) k d → ⊥
      least zero d lt above same = absurd (omega (arith, above, same))
      least (suc k) d lt above same = absurd (omega (arith, above, same, pairs_head Less w s us k d (omega (arith, lt))))

  pub simplex_under : (s : List ℕ) → IsSimplex n simplices s → Under s
  simplex_under s is = elim is.among [
    | inl vertex ↦ seed s (subst (Contains seeds) (sym vertex.2) (are.vertices vertex.0 vertex.1))
    | inr listed ↦
        let whole = are.listed listed.0 listed.1 in
        thinned [] whole.0 s (seed whole.0 whole.1) (ascends_from whole.0 (All-contains IsStrictlyIncreasing seeds whole.0 are.ascending whole.1))
        (ascends_from s is.ascending)
        (All-weaker (Contains (get_or simplices listed.0 [])) (Contains whole.0) (λ v c. (whole.2 v).1 c) s listed.2) is.some
  ]
