-- Gaps of lists, one list after another.
use Rattle.std.proofs.Common.{inl, inr, ◌<◌, ℕ, List, [], ◌∷◌, Option, Some, None, length, get_or, subst}
use Rattle.std.specs.Prelude.{Contains, ◌↔◌}
use Rattle.conley_first.specs.First.{Precedes}
use Rattle.conley_lists.specs.Lists.{ListedStep}
use Rattle.conley_lists.proofs.ListLemmas.{step_begins}
use Rattle.conley_faces.specs.Face.{IsGap, IsFirstGap, IsTripleBefore}
use Rattle.conley_mvf.specs.Making.{FindsFirstGap}

-- a gap is one of each list with the same cells
gap_of_same : (faces : List (List ℕ)) (a b : List ℕ) → ((x : ℕ) → Contains a x ↔ Contains b x) → (x y z : ℕ) → IsGap faces a x y z → IsGap faces b x y z
gap_of_same faces a b same x y z g = record {
  upper = (same x).0 g.upper;
  lower = (same z).0 g.lower;
  outside = λ h. g.outside ((same y).1 h);
  down = g.down;
  further = g.further;
}

triple_before : (x y z a b c : ℕ) → Precedes (x ∷ y ∷ z ∷ []) (a ∷ b ∷ c ∷ []) → IsTripleBefore (x, y, z) (a, b, c)
triple_before x y z a b c (inl less) = inl less
triple_before x y z a b c (inr (e, inl less)) = inr (e, inl less)
triple_before x y z a b c (inr (e, inr (e', inl less))) = inr (e, inr (e', less))
triple_before x y z a b c (inr (e, inr (e', inr both))) = absurd both.1

-- the first gap of a list, where no earlier list has one
pub gap_here : (faces lists : List (List ℕ)) (k : ℕ) (t : ℕ × ℕ × ℕ) → IsFirstGap faces (get_or lists k []) t
    → ((j : ℕ) → j < k → (x y z : ℕ) → ¬ IsGap faces (get_or lists j []) x y z) →
    FindsFirstGap (λ k. IsGap faces (get_or lists k [])) (Some (k, t))
gap_here faces lists k t first before = (
  first.gap,
  (λ l x y z p g. elim p [
    | inl less ↦ before l less x y z g
    | inr at ↦ first.first x y z (subst (λ i. IsGap faces (get_or lists i []) x y z) at.0 g) (triple_before x y z t.0 t.1 t.2 at.1)
  ]),
)

-- a list with a gap is there
pub gap_listed : (faces lists : List (List ℕ)) (k x y z : ℕ) → IsGap faces (get_or lists k []) x y z → k < length lists
gap_listed faces lists k x y z g = step_begins lists k x g.upper

-- lists with the same cells have the same first gap
pub gaps_of_same : (faces lists parts : List (List ℕ)) → ((k x : ℕ) → ListedStep lists k x ↔ ListedStep parts k x) → (answer : Option (ℕ × (ℕ × ℕ × ℕ)))
    → FindsFirstGap (λ k. IsGap faces (get_or lists k [])) answer → FindsFirstGap (λ k. IsGap faces (get_or parts k [])) answer
gaps_of_same faces lists parts same None none = λ k x y z g. none k x y z (gap_of_same faces (get_or parts k []) (get_or lists k [])
    (λ q. ((same k q).1, (same k q).0)) x y z g)
gaps_of_same faces lists parts same (Some (k, t)) found = (
  gap_of_same faces (get_or lists k []) (get_or parts k []) (same k) t.0 t.1 t.2 found.0,
  λ l x y z p g. found.1 l x y z p (gap_of_same faces (get_or parts l []) (get_or lists l []) (λ q. ((same l q).1, (same l q).0)) x y z g),
)
