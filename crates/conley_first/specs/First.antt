-- The first of the faults that hold.
--     Precedes a b                 list a stands before list b: number by number, and a list before those that it begins
--     StandsBefore a b             fault a stands before fault b: by number, then by place
--     IsFirst Holds fault          the fault holds, and none that holds stands before it
--     IsClear Holds n              no fault with a number below n holds
--     IsTold Holds                 the number and the place of a fault that holds tell the rest of it
-- The wording is this project's own.
use Rattle.std.specs.Prelude.{◌≡◌, ◌⊎◌, ◌<◌, ℕ, List, [], ◌∷◌}

-- number by number; a list stands before those that it begins
abbrev pub Precedes : List ℕ → List ℕ → Type 0
Precedes a [] = ⊥
Precedes [] (y ∷ b) = Unit {0}
Precedes (x ∷ a) (y ∷ b) = (x < y) ⊎ ((x ≡ y) × Precedes a b)

-- a fault has a number and a place
module _ {Fault : Type 0} (number : Fault → ℕ) (place : Fault → List ℕ) where
  -- by number, then by place
  abbrev pub StandsBefore : Fault → Fault → Type 0
  StandsBefore a b = Precedes (number a ∷ place a) (number b ∷ place b)

  -- the fault holds, and none that holds stands before it
  pub record IsFirst (Holds : Fault → Type 0) (fault : Fault) : Type 0 where
    pub holds : Holds fault
    pub first : (other : Fault) → StandsBefore other fault → ¬ Holds other

  -- no fault with a lesser number holds
  pub record IsClear (Holds : Fault → Type 0) (n : ℕ) : Type 0 where
    pub none : (fault : Fault) → number fault < n → ¬ Holds fault

  -- faults that hold at one place are one fault
  abbrev pub IsTold : (Fault → Type 0) → Type 0
  IsTold Holds = (a b : Fault) → Holds a → Holds b → number a ≡ number b → place a ≡ place b → a ≡ b
