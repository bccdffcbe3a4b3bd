-- What a list with a first item contains.
use Rattle.std.proofs.Common.{◌≡◌, ◌⊎◌, inl, inr, ℕ, zero, suc, List, [], ◌∷◌, refl, sym, arith}
use Rattle.std.specs.Prelude.{Contains}

-- a list contains its first item, and those of its rest
pub Contains-first : {X : Type 0} (x : X) (xs : List X) → Contains (x ∷ xs) x
Contains-first x xs = (0, omega arith, refl)

pub Contains-rest : {X : Type 0} (x : X) (xs : List X) (y : X) → Contains xs y → Contains (x ∷ xs) y
Contains-rest x xs y c = (suc c.0, omega (arith, c.1), c.2)

-- and no others
pub Contains-cases : {X : Type 0} (x : X) (xs : List X) (y : X) → Contains (x ∷ xs) y → (y ≡ x) ⊎ Contains xs y
Contains-cases x xs y (zero, lt, e) = inl (sym e)
Contains-cases x xs y (suc k, lt, e) = inr (k, omega (arith, lt), e)

pub Contains-one : {X : Type 0} (x y : X) → Contains (x ∷ []) y → y ≡ x
Contains-one x y c = elim (Contains-cases x [] y c) [ inl e ↦ e | inr d ↦ absurd (omega (arith, d.1)) ]
