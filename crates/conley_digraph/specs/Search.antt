-- A search of a digraph in which each step is looked at once, after Gabow. A node is new, open or closed.
-- The open nodes stand on a stack in the order in which they were met; bounds are the places at which its segments begin.
--     stage_of stages y                   how far the search is with node y
--     IsMet stages y                      the node is open or closed
--     IsWithin bounds p q                 place p isn't before the segment of place q
--     IsPassed stages bounds q y          node y is closed, or open at a place that isn't before the segment of q
--     AreStages n stages stack roots      stages say where each node stands on the stack, or in which class it is
--     AreBounds height bounds path        bounds and path ascend, the bounds are on the path, and the path is on the stack
--     AreSegments lists stack bounds      the nodes of a segment reach each other, and those above them
--     AreTurns lists stages turns stack bounds path      which heads were looked at, and where they are
--     AreClosed lists stages              closed nodes step to closed nodes, and the nodes of a class reach each other
--     IsSearch lists stages turns stack bounds path roots      all of these
--     IsSearchOf lists s                  the same of a value of the code
use Rattle.std.specs.Prelude.{◌≡◌, ◌⊎◌, ◌+◌, ◌<◌, ◌≤◌, ℕ, List, [], Contains, length, slice_index, slice_index_or}
use Rattle.std.specs.List.Sorted.{IsStrictlyIncreasing}
use Rattle.conley_walk.specs.Walk.{ReachesIn}
use Rattle.conley_lists.specs.Lists.{ListedStep, LieIn}
use Rattle.conley_digraph.specs.declared.search.Search.{Search}
use Rattle.conley_digraph.specs.declared.search.Stage.{Stage}
use Rattle.conley_digraph.specs.declared.search.Stage.TheVariants.{New, Open, Closed}

abbrev pub stage_of : List Stage → ℕ → Stage
stage_of stages y = slice_index_or stages y New

abbrev pub IsMet : List Stage → ℕ → Type 0
IsMet stages y = ((p : ℕ) × (stage_of stages y ≡ Open p)) ⊎ ((k : ℕ) × (stage_of stages y ≡ Closed k))

abbrev pub IsWithin : List ℕ → ℕ → ℕ → Type 0
IsWithin bounds p q = (b : ℕ) → Contains bounds b → b ≤ q → b ≤ p

abbrev pub IsPassed : List Stage → List ℕ → ℕ → ℕ → Type 0
IsPassed stages bounds q y = ((k : ℕ) × (stage_of stages y ≡ Closed k)) ⊎ ((p : ℕ) × (stage_of stages y ≡ Open p) × IsWithin bounds p q)

pub record AreStages (n : ℕ) (stages : List Stage) (stack roots : List ℕ) : Type 0 where
  pub count : length stages ≡ n
  pub stands : (p : ℕ) → p < length stack → stage_of stages (slice_index stack p) ≡ Open p
  pub open_at : (y p : ℕ) → stage_of stages y ≡ Open p → (p < length stack) × (slice_index stack p ≡ y)
  pub closed_at : (y k : ℕ) → stage_of stages y ≡ Closed k → k < length roots
  pub root : (k : ℕ) → k < length roots → stage_of stages (slice_index roots k) ≡ Closed k

-- the path has the places of the nodes that the search hasn't left, among them the first of each segment
pub record AreBounds (height : ℕ) (bounds path : List ℕ) : Type 0 where
  pub bounds_rise : IsStrictlyIncreasing bounds
  pub path_rises : IsStrictlyIncreasing path
  pub on_stack : (p : ℕ) → Contains path p → p < height
  pub on_path : LieIn path bounds
  pub first : 0 < height → Contains bounds 0

-- each open node reaches those above it and those of its segment
abbrev pub AreSegments : List (List ℕ) → List ℕ → List ℕ → Type 0
AreSegments lists stack bounds = (p q : ℕ) → p < length stack → q < length stack → IsWithin bounds p q
    → ReachesIn lists (slice_index stack q) (slice_index stack p)

-- a node wants one turn for each head that wasn't looked at, the last head first, and one to be left
pub record AreTurns (lists : List (List ℕ)) (stages : List Stage) (turns stack bounds path : List ℕ) : Type 0 where
  pub count : length turns ≡ length lists
  pub bound : (y : ℕ) → y < length lists → slice_index turns y ≤ length (slice_index_or lists y []) + 1
  pub fresh : (y : ℕ) → y < length lists → stage_of stages y ≡ New → slice_index turns y ≡ length (slice_index_or lists y []) + 1
  pub wants : (q : ℕ) → Contains path q → 0 < slice_index turns (slice_index stack q)
  pub left : (q : ℕ) → q < length stack → Contains path q ⊎ (slice_index turns (slice_index stack q) ≡ 0)
  pub looked : (q i : ℕ) → q < length stack → i < length (slice_index_or lists (slice_index stack q) []) → slice_index turns (slice_index stack q) ≤ i + 1 →
      IsPassed stages bounds q (slice_index (slice_index_or lists (slice_index stack q) []) i)

-- steps of closed nodes lead to nodes that were closed before or together, and those closed together reach each other
pub record AreClosed (lists : List (List ℕ)) (stages : List Stage) : Type 0 where
  pub steps : (x y k : ℕ) → stage_of stages x ≡ Closed k → ListedStep lists x y → (j : ℕ) × (j ≤ k) × (stage_of stages y ≡ Closed j)
  pub same : (x y k : ℕ) → stage_of stages x ≡ Closed k → stage_of stages y ≡ Closed k → ReachesIn lists x y

pub record IsSearch (lists : List (List ℕ)) (stages : List Stage) (turns stack bounds path roots : List ℕ) : Type 0 where
  pub stages_are : AreStages (length lists) stages stack roots
  pub bounds_are : AreBounds (length stack) bounds path
  pub segments : AreSegments lists stack bounds
  pub turns_are : AreTurns lists stages turns stack bounds path
  pub closed_are : AreClosed lists stages

abbrev pub IsSearchOf : List (List ℕ) → Search → Type 0
IsSearchOf lists s = IsSearch lists s.stages.items s.turns.items s.stack.items s.bounds.items s.path.items s.roots.items
