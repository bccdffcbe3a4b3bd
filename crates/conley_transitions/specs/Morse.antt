-- Morse decompositions, and the finest one.
--     set_at sets i, IsAt sets x i       the set with number i; it is that of a set with the cell x
--     HaveCells sets, AreDisjoint sets   no set is empty; a cell is in one set at most
--     StandInOrder sets                  the first cells of the sets ascend
--     IsStrictOrder n below              the test is a strict partial order of the numbers below n
--     Descends sets below lasso          the lasso lies in one set, or begins in one and ends in a strictly lower one
--     IsMorse flow sets below            a Morse decomposition: below i j says that set i is strictly lower than set j
--     IsFinest flow sets                 each set lies in a set of every Morse decomposition
--     AreCountingClasses flow sets       the recurrence classes that count, each once
--     SetReaches flow from to            a walk leads from a cell of the one set to a cell of the other
--     IsReachOrder flow sets below       below j i says that i and j differ and i reaches j
-- After Mrozek and Wanner, stated by lassos, which are this project's own.
use Rattle.std.specs.Prelude.{◌≡◌, ◌≢◌, ◌⊎◌, ◌<◌, ◌↔◌, ℕ, List, [], Bool, true, Contains, length, slice_index, slice_index_or}
use Rattle.conley_lists.specs.Lists.{LieIn}
use Rattle.conley_order.specs.Preorder.{IsTransitive}
use Rattle.conley_walk.specs.Walk.{Reaches, AreRecurrent}
use Rattle.conley_transitions.specs.Flow.{Flow, IsCell, StepOf, Counts}
use Rattle.conley_transitions.specs.Lasso.{Lasso, alpha_cells, omega_cells, lasso_cells, IsIsolatedInvariant}

-- the set with number i
abbrev pub set_at : List (List ℕ) → ℕ → List ℕ
set_at sets i = slice_index_or sets i []

-- i is the number of a set that contains the cell
abbrev pub IsAt : List (List ℕ) → ℕ → ℕ → Type 0
IsAt sets x i = (i < length sets) × Contains (set_at sets i) x

-- no set is empty
abbrev pub HaveCells : List (List ℕ) → Type 0
HaveCells sets = (i : ℕ) → i < length sets → set_at sets i ≢ []

-- a cell is in one set at most
abbrev pub AreDisjoint : List (List ℕ) → Type 0
AreDisjoint sets = (i j x : ℕ) → IsAt sets x i → IsAt sets x j → i ≡ j

-- the first cells of the sets ascend; that of an ascending list is its least
abbrev pub StandInOrder : List (List ℕ) → Type 0
StandInOrder sets = (i j : ℕ) → i < j → j < length sets → slice_index (set_at sets i) 0 < slice_index (set_at sets j) 0

-- a strict partial order of the numbers below n: below i j says that i is strictly lower than j
pub record IsStrictOrder (n : ℕ) (below : ℕ → ℕ → Bool) : Type 0 where
  pub irreflexive : (i : ℕ) → i < n → below i i ≢ true
  pub transitive : IsTransitive n below

-- every cell of the lasso is in one set, or alpha in one set and omega in a strictly lower one
abbrev pub Descends : {flow : Flow} → List (List ℕ) → (ℕ → ℕ → Bool) → Lasso flow → Type 0
Descends sets below lasso =
    ((i : ℕ) × (i < length sets) × LieIn (set_at sets i) (lasso_cells lasso))
    ⊎ ((i : ℕ) × (j : ℕ) × (i < length sets) × (j < length sets)
    × LieIn (set_at sets i) (alpha_cells lasso) × LieIn (set_at sets j) (omega_cells lasso) × (below j i ≡ true))

-- disjoint non-empty isolated invariant sets with a strict partial order, along which every lasso descends
pub record IsMorse (flow : Flow) (sets : List (List ℕ)) (below : ℕ → ℕ → Bool) : Type 0 where
  pub non_empty : HaveCells sets
  pub disjoint : AreDisjoint sets
  pub isolated : (i : ℕ) → i < length sets → IsIsolatedInvariant flow (set_at sets i)
  pub order : IsStrictOrder (length sets) below
  pub lassos : (lasso : Lasso flow) → Descends sets below lasso

-- each set lies in a set of every Morse decomposition
abbrev pub IsFinest : Flow → List (List ℕ) → Type 0
IsFinest flow sets = (others : List (List ℕ)) (below : ℕ → ℕ → Bool) → IsMorse flow others below
    → (i : ℕ) → i < length sets → (j : ℕ) × (j < length others) × LieIn (set_at others j) (set_at sets i)

-- the recurrence classes that count, each listed once
pub record AreCountingClasses (flow : Flow) (sets : List (List ℕ)) : Type 0 where
  pub non_empty : HaveCells sets
  pub classes : (i x y : ℕ) → IsAt sets x i → Contains (set_at sets i) y ↔ AreRecurrent (StepOf flow) x y
  pub once : AreDisjoint sets
  pub all : (x : ℕ) → ((i : ℕ) × IsAt sets x i) ↔ (IsCell flow x × Counts (StepOf flow) flow x)

-- a walk leads from a cell of the one set to a cell of the other
abbrev pub SetReaches : Flow → List ℕ → List ℕ → Type 0
SetReaches flow from to = (x : ℕ) × (y : ℕ) × Contains from x × Contains to y × Reaches (StepOf flow) x y

-- below j i says that i and j differ and i reaches j
abbrev pub IsReachOrder : Flow → List (List ℕ) → (ℕ → ℕ → Bool) → Type 0
IsReachOrder flow sets below = (i j : ℕ) → i < length sets → j < length sets → (below j i ≡ true) ↔ ((i ≢ j) × SetReaches flow (set_at sets i) (set_at sets j))
