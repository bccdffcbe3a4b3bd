-- A set of cells with its closure and mouth, seen by the boundary of a complex.
--     HoldsInside, HoldsOfRest, LiesOutside         what is inside, the rest of a set, and what isn't inside
--     IsClosedAround d inside closure mouth         the set lies in its closure, which has all faces, and the mouth is the rest and below the set
--     own_boundary inside d                         the boundary among the cells of the set
--     IsClassAround below L p inside closure mouth  the set is the class of cells with the grade of p, and its closure lies at or below
use Rattle.std.specs.Prelude.{◌≡◌, ◌≢◌, ℕ, ◌<◌, Bool, true, false, if◌then◌else◌}
use Rattle.conley_algebra.specs.Entries.{Entries}
use Rattle.conley_homotopy.specs.Graded.{Generators}

-- what is inside has the property
abbrev pub HoldsInside : (ℕ → Bool) → (ℕ → Type 0) → Type 0
HoldsInside inside P = (x : ℕ) → inside x ≡ true → P x

-- the rest of a set, what isn't inside, has the property
abbrev pub HoldsOfRest : (ℕ → Type 0) → (ℕ → Bool) → (ℕ → Type 0) → Type 0
HoldsOfRest set inside P = (x : ℕ) → set x → inside x ≡ false → P x

-- what has the property isn't inside
abbrev pub LiesOutside : (ℕ → Bool) → (ℕ → Type 0) → Type 0
LiesOutside inside P = (x : ℕ) → P x → inside x ≡ false

pub record IsClosedAround (d : Entries) (inside : ℕ → Bool) (closure mouth : ℕ → Type 0) : Type 0 where
  pub inside_closure : HoldsInside inside closure
  pub closure_faces : (y x : ℕ) → d y x ≢ 0 → closure x → closure y
  pub rest_mouth : HoldsOfRest closure inside mouth
  pub mouth_faces : (y x : ℕ) → d y x ≢ 0 → mouth x → inside y ≡ false
  pub mouth_outside : LiesOutside inside mouth

abbrev pub own_boundary : (ℕ → Bool) → Entries → Entries
own_boundary inside d y x = if inside y then (if inside x then d y x else 0) else 0

pub record IsClassAround (below : ℕ → ℕ → Type 0) (L : Generators) (p : ℕ) (inside : ℕ → Bool) (closure mouth : ℕ → Type 0) : Type 0 where
  pub inside_grade : (x : ℕ) → inside x ≡ true → below (L.base x) p × below p (L.base x)
  pub grade_inside : (x : ℕ) → below (L.base x) p → below p (L.base x) → inside x ≡ true
  pub inside_closure : HoldsInside inside closure
  pub closure_within : (x : ℕ) → closure x → x < L.count
  pub closure_below : (x : ℕ) → closure x → below (L.base x) p
  pub closure_faces : (y x : ℕ) → L.boundary y x ≢ 0 → closure x → closure y
  pub rest_mouth : HoldsOfRest closure inside mouth
  pub mouth_outside : LiesOutside inside mouth
