-- The second law: the pairs of the order are the covers of reach.
use Rattle.std.proofs.Common.{◌≡◌, inl, inr, ℕ, ◌<◌, ◌==◌, ◌&&◌, Bool, true, List, [], ◌∷◌, length, ap, sym, ◌∙◌, arith, subst}
use Rattle.std.specs.Prelude.{Contains, ◌↔◌, not}
use Rattle.std.specs.List.{list_any}
use Rattle.std.proofs.lemmas.Bool.{eqb-true, eq-eqb, ne_eqb, eqb-false, and_from, or_left, or_right, not_from_false}
use Rattle.conley_lists.proofs.ContainsLemmas.{Contains-first, Contains-rest, Contains-cases}
use Rattle.conley_walk.proofs.WalkLemmas.{reaches_on}
use Rattle.conley_walk.specs.Walk.{AreRecurrent}
use Rattle.conley_transitions.specs.Flow.{Flow, StepOf}
use Rattle.conley_transitions.specs.Morse.{set_at, IsAt, SetReaches, IsReachOrder}
use Rattle.conley_certificate.specs.Tests.{any_below}
use Rattle.conley_certificate.specs.Problem.{Problem, IsProblem, flow}
use Rattle.conley_certificate_file.specs.Certificate.{Certificate, Fits}
use Rattle.conley_certificate.specs.Certificate.{set_count, first_cell}
use Rattle.conley_graph.specs.Covers.{IsCover}
use Rattle.conley_certificate.specs.Values.{set_reaches, is_cover}
use Rattle.conley_certificate.proofs.TestLemmas.{true_or_false, never, both, either, not-is_true, any_below-none, none-any_below}
use Rattle.conley_certificate.proofs.ReachLemmas.{reaches-Below, Below-reaches}
use Rattle.conley_certificate.proofs.SetLemmas as sets

pub listed-Contains : (pairs : List (ℕ × ℕ)) (p q : ℕ) → list_any (λ pair. (pair.0 == p) && (pair.1 == q)) pairs ≡ true → Contains pairs (p, q)
listed-Contains [] p q h = cc
listed-Contains (e ∷ pairs) p q h = elim (either ((e.0 == p) && (e.1 == q)) (list_any (λ pair. (pair.0 == p) && (pair.1 == q)) pairs) h) [
  | inl here ↦
      let parts = both (e.0 == p) (e.1 == q) here in
      let same : e ≡ (p, q) = ap (λ (a : ℕ). (a, e.1)) (eqb-true e.0 p parts.0) ∙ ap (λ (b : ℕ). (p, b)) (eqb-true e.1 q parts.1) in
      subst (Contains (e ∷ pairs)) same (Contains-first e pairs)
  | inr rest ↦ Contains-rest e pairs (p, q) (listed-Contains pairs p q rest)
]

pub Contains-listed : (pairs : List (ℕ × ℕ)) (p q : ℕ) → Contains pairs (p, q) → list_any (λ pair. (pair.0 == p) && (pair.1 == q)) pairs ≡ true
Contains-listed [] p q c = absurd (omega (arith, c.1))
Contains-listed (e ∷ pairs) p q c = elim (Contains-cases e pairs (p, q) c) [
  | inl same ↦ or_left ((e.0 == p) && (e.1 == q)) (list_any (λ pair. (pair.0 == p) && (pair.1 == q)) pairs)
      (and_from (e.0 == p) (e.1 == q) (eq-eqb e.0 p (sym (ap (λ (pair : ℕ × ℕ). pair.0) same))) (eq-eqb e.1 q (sym (ap (λ (pair : ℕ × ℕ). pair.1) same))))
  | inr rest ↦ or_right ((e.0 == p) && (e.1 == q)) (list_any (λ pair. (pair.0 == p) && (pair.1 == q)) pairs) (Contains-listed pairs p q rest)
]

-- lists of the same sets, cells in any order, have the same covers
pub cover_same : (flow : Flow) (a b : List (List ℕ)) → length a ≡ length b → ((i x : ℕ) → Contains (set_at a i) x ↔ Contains (set_at b i) x) → (p q : ℕ)
    → IsCover flow a p q → IsCover flow b p q
cover_same flow a b count same p q cover = record {
  upper = omega (arith, cover.upper, count);
  lower = omega (arith, cover.lower, count);
  differ = cover.differ;
  reaches = (let r = cover.reaches in (r.0, r.1, (same p r.0).0 r.2, (same q r.1).0 r.3, r.4));
  none_between = λ r below not_p not_q down further. cover.none_between r (omega (arith, below, count)) not_p not_q
      (down.0, down.1, (same p down.0).1 down.2, (same r down.1).1 down.3, down.4)
      (further.0, further.1, (same r further.0).1 further.2, (same q further.1).1 further.3, further.4);
}

module _ (P : Problem) (ok : IsProblem P) (C : Certificate) (fits : Fits P.scalars P.complex C)
    (classes : (i x y : ℕ) → IsAt C.morse x i → Contains (set_at C.morse i) y ↔ AreRecurrent (StepOf (flow P)) x y) where
  pub set_reaches-SetReaches : (p q : ℕ) → p < set_count C → q < set_count C → set_reaches P C p q ≡ true
      → SetReaches (flow P) (set_at C.morse p) (set_at C.morse q)
  set_reaches-SetReaches p q p_below q_below h = (
    first_cell C p,
    first_cell C q,
    (sets.first_at P ok C fits p p_below).1,
    (sets.first_at P ok C fits q q_below).1,
    reaches-Below P ok (first_cell C p) (first_cell C q) h,
  )

  pub SetReaches-set_reaches : (p q : ℕ) → p < set_count C → q < set_count C → SetReaches (flow P) (set_at C.morse p) (set_at C.morse q)
      → set_reaches P C p q ≡ true
  SetReaches-set_reaches p q p_below q_below r =
      let from : AreRecurrent (StepOf (flow P)) (first_cell C p) r.0 = (classes p (first_cell C p) r.0 (sets.first_at P ok C fits p p_below)).0 r.2 in
      let to : AreRecurrent (StepOf (flow P)) (first_cell C q) r.1 = (classes q (first_cell C q) r.1 (sets.first_at P ok C fits q q_below)).0 r.3 in
      Below-reaches P ok (first_cell C p) (first_cell C q) (reaches_on from.there (reaches_on r.4 to.back))

  -- the test of reach between different sets
  abbrev pub is_lower : ℕ → ℕ → Bool
  is_lower q p = not (p == q) && set_reaches P C p q

  pub lower_order : IsReachOrder (flow P) C.morse is_lower
  lower_order p q p_below q_below = (
    λ h. (let parts = both (not (p == q)) (set_reaches P C p q) h in (
      eqb-false p q (not-is_true (p == q) parts.0),
      set_reaches-SetReaches p q p_below q_below parts.1,
    )),
    λ h. and_from (not (p == q)) (set_reaches P C p q) (not_from_false (p == q) (ne_eqb p q h.0)) (SetReaches-set_reaches p q p_below q_below h.1),
  )

  abbrev between : ℕ → ℕ → ℕ → Bool
  between p q r = (not (r == p) && not (r == q)) && (set_reaches P C p r && set_reaches P C r q)

  pub is_cover-IsCover : (p q : ℕ) → p < set_count C → q < set_count C → is_cover P C p q ≡ true → IsCover (flow P) C.morse p q
  is_cover-IsCover p q p_below q_below h =
      let parts = both (not (p == q) && set_reaches P C p q) (not (any_below (set_count C) (between p q))) h in
      let lower = (lower_order p q p_below q_below).0 parts.0 in
      record {
        upper = p_below;
        lower = q_below;
        differ = lower.0;
        reaches = lower.1;
        none_between = λ r r_below not_p not_q down further. never (between p q r)
            (and_from (not (r == p) && not (r == q)) (set_reaches P C p r && set_reaches P C r q)
            (and_from (not (r == p)) (not (r == q)) (not_from_false (r == p) (ne_eqb r p not_p)) (not_from_false (r == q) (ne_eqb r q not_q)))
            (and_from (set_reaches P C p r) (set_reaches P C r q) (SetReaches-set_reaches p r p_below r_below down)
            (SetReaches-set_reaches r q r_below q_below further)))
            (any_below-none (set_count C) (between p q) (not-is_true (any_below (set_count C) (between p q)) parts.1) r r_below);
      }

  pub IsCover-is_cover : (p q : ℕ) → IsCover (flow P) C.morse p q → is_cover P C p q ≡ true
  IsCover-is_cover p q cover = and_from (not (p == q) && set_reaches P C p q) (not (any_below (set_count C) (between p q)))
      ((lower_order p q cover.upper cover.lower).1 (cover.differ, cover.reaches))
      (not_from_false (any_below (set_count C) (between p q)) (none-any_below (set_count C) (between p q) (λ r r_below. elim (true_or_false (between p q r)) [
        | inr none ↦ none
        | inl some ↦
            let parts = both (not (r == p) && not (r == q)) (set_reaches P C p r && set_reaches P C r q) some in
            let differ = both (not (r == p)) (not (r == q)) parts.0 in
            let way = both (set_reaches P C p r) (set_reaches P C r q) parts.1 in
            absurd (cover.none_between r r_below (eqb-false r p (not-is_true (r == p) differ.0)) (eqb-false r q (not-is_true (r == q) differ.1))
            (set_reaches-SetReaches p r cover.upper r_below way.0) (set_reaches-SetReaches r q r_below cover.lower way.1))
      ])))
