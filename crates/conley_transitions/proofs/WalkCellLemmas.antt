-- The cells of a walk
use Rattle.std.proofs.Common.{◌≡◌, ◌⊎◌, inl, inr, ℕ, List, [], ◌∷◌, ◌++◌, refl, sym, subst, arith}
use Rattle.std.specs.Prelude.{Contains}
use Rattle.std.proofs.lemmas.List.Elements.{Contains-push_cases, Contains-append_cases, Contains-append_left, Contains-append_right}
use Rattle.conley_walk.specs.Walk.{Walk, Reaches}
use Rattle.conley_lists.proofs.ContainsLemmas.{Contains-first, Contains-rest, Contains-one, Contains-cases}
use Rattle.conley_walk.proofs.WalkLemmas.{reaches_itself, reaches_on, reaches_by_step}

-- the first cell of a walk reaches each of its cells, and each reaches the last
pub walk_passes : (Step : ℕ → ℕ → Type 0) (x : ℕ) (w : List ℕ) (y c : ℕ) → Walk Step x w y → Contains (x ∷ w) c → Reaches Step x c × Reaches Step c y
walk_passes Step x [] y c a h =
    let e : c ≡ x = Contains-one x c h in
    subst (λ q. Reaches Step x q × Reaches Step q y) (sym e) (reaches_itself x, subst (Reaches Step x) a (reaches_itself x))
walk_passes Step x (z ∷ w) y c a h = elim (Contains-cases x (z ∷ w) c h) [
  | inl e ↦ subst (λ q. Reaches Step x q × Reaches Step q y) (sym e) (reaches_itself x, record { cells = z ∷ w; walk = a })
  | inr d ↦
      let r : Reaches Step z c × Reaches Step c y = walk_passes Step z w y c a.1 d in
      (reaches_on (reaches_by_step a.0) r.0, r.1)
]

-- any two cells of a closed walk reach each other
pub closed_walk_passes : (Step : ℕ → ℕ → Type 0) (x : ℕ) (w : List ℕ) (c d : ℕ) → Walk Step x w x → Contains (x ∷ w) c → Contains (x ∷ w) d → Reaches Step c d
closed_walk_passes Step x w c d a hc hd = reaches_on (walk_passes Step x w x c a hc).1 (walk_passes Step x w x d a hd).0

-- a walk contains its last cell
pub walk_contains_last : (Step : ℕ → ℕ → Type 0) (x : ℕ) (w : List ℕ) (y : ℕ) → Walk Step x w y → Contains (x ∷ w) y
walk_contains_last Step x [] y a = subst (Contains (x ∷ [])) a (Contains-first x [])
walk_contains_last Step x (z ∷ w) y a = Contains-rest x (z ∷ w) y (walk_contains_last Step z w y a.1)

-- the cells of a walk stay in a longer list
pub Contains-longer : (x : ℕ) (w v : List ℕ) (y : ℕ) → Contains (x ∷ w) y → Contains (x ∷ (w ++ v)) y
Contains-longer x w v y c = elim (Contains-cases x w y c) [
  | inl e ↦ subst (Contains (x ∷ (w ++ v))) (sym e) (Contains-first x (w ++ v))
  | inr d ↦ Contains-rest x (w ++ v) y (Contains-append_left w v y d)
]

-- nothing joined is empty but empty lists
pub append_empty : (v w : List ℕ) → v ++ w ≡ [] → w ≡ []
append_empty [] w e = e
append_empty (x ∷ v) w e = cc
