-- What one turn of the search does.
--     Merges old new place            the bounds past the place are taken out
--     ClosesAll old new nodes class   these nodes are closed in the class, and no others
--     SameStages, SameTurns, SameStack, SameRoots old new    these don't change
--     EndsPath old new                the last place of the path is taken out
--     Meets old new x                 node x is opened
--     KeepsNodes old new              nothing but the bounds changes
--     PassesAt stage old new y        what follows for a node of this stage
--     Passes old new y                node y is opened, or bounds past its place are taken out, or nothing changes
--     Closes old new place            the nodes from the place on are closed
--     KeepsStack old new              nothing but the path changes
--     Leaves old new place            the last place of the path is taken out, and where it is the last bound, its segment is closed
--     IsTurned lists old new          a turn was taken: the search stands, and its nodes want fewer turns
use Rattle.std.specs.Prelude.{◌≡◌, ◌≢◌, ◌⊎◌, ◌↔◌, ◌-◌, ◌≤◌, ◌<◌, ℕ, List, [], ◌∷◌, ◌++◌, Contains, length, drop, take, slice_index, slice_set, sum}
use Rattle.std.specs.List.Sorted.{IsStrictlyIncreasing}
use Rattle.conley_digraph.specs.declared.search.Search.{Search}
use Rattle.conley_digraph.specs.declared.search.Stage.{Stage}
use Rattle.conley_digraph.specs.declared.search.Stage.TheVariants.{New, Open, Closed}
use Rattle.conley_digraph.specs.Search.{stage_of, IsMet, IsSearchOf}

pub record Merges (old new : List ℕ) (place : ℕ) : Type 0 where
  pub rise : IsStrictlyIncreasing new
  pub same : (b : ℕ) → Contains new b ↔ (Contains old b × (b ≤ place))

pub record ClosesAll (old new : List Stage) (nodes : List ℕ) (class : ℕ) : Type 0 where
  pub count : length new ≡ length old
  pub closed : (y : ℕ) → Contains nodes y → stage_of new y ≡ Closed class
  pub kept : (y : ℕ) → Contains nodes y ⊎ (stage_of new y ≡ stage_of old y)

abbrev pub SameStages : Search → Search → Type 0
SameStages old new = new.stages.items ≡ old.stages.items

abbrev pub SameTurns : Search → Search → Type 0
SameTurns old new = new.turns.items ≡ old.turns.items

abbrev pub SameStack : Search → Search → Type 0
SameStack old new = new.stack.items ≡ old.stack.items

abbrev pub SameRoots : Search → Search → Type 0
SameRoots old new = new.roots.items ≡ old.roots.items

-- its last place is taken out
abbrev pub EndsPath : Search → Search → Type 0
EndsPath old new = new.path.items ≡ take (length old.path.items - 1) old.path.items

pub record Meets (old new : Search) (x : ℕ) : Type 0 where
  pub stages : new.stages.items ≡ slice_set old.stages.items x (Open (length old.stack.items))
  pub turns : SameTurns old new
  pub stack : new.stack.items ≡ old.stack.items ++ x ∷ []
  pub bounds : new.bounds.items ≡ old.bounds.items ++ length old.stack.items ∷ []
  pub path : new.path.items ≡ old.path.items ++ length old.stack.items ∷ []
  pub roots : SameRoots old new

pub record KeepsNodes (old new : Search) : Type 0 where
  pub stages : SameStages old new
  pub turns : SameTurns old new
  pub stack : SameStack old new
  pub path : new.path.items ≡ old.path.items
  pub roots : SameRoots old new

abbrev pub PassesAt : Stage → Search → Search → ℕ → Type 0
PassesAt New old new y = Meets old new y
PassesAt (Open p) old new y = KeepsNodes old new × Merges old.bounds.items new.bounds.items p
PassesAt (Closed k) old new y = KeepsNodes old new × (new.bounds.items ≡ old.bounds.items)

abbrev pub Passes : Search → Search → ℕ → Type 0
Passes old new y = PassesAt (stage_of old.stages.items y) old new y

pub record Closes (old new : Search) (place : ℕ) : Type 0 where
  pub stages : ClosesAll old.stages.items new.stages.items (drop place old.stack.items) (length old.roots.items)
  pub turns : SameTurns old new
  pub stack : new.stack.items ≡ take place old.stack.items
  pub bounds : new.bounds.items ≡ take (length old.bounds.items - 1) old.bounds.items
  pub path : EndsPath old new
  pub roots : new.roots.items ≡ old.roots.items ++ slice_index old.stack.items place ∷ []

pub record KeepsStack (old new : Search) : Type 0 where
  pub stages : SameStages old new
  pub turns : SameTurns old new
  pub stack : SameStack old new
  pub bounds : new.bounds.items ≡ old.bounds.items
  pub path : EndsPath old new
  pub roots : SameRoots old new

abbrev pub Leaves : Search → Search → ℕ → Type 0
Leaves old new place = ((slice_index old.bounds.items (length old.bounds.items - 1) ≡ place) × Closes old new place)
    ⊎ ((slice_index old.bounds.items (length old.bounds.items - 1) ≢ place) × KeepsStack old new)

pub record IsTurned (lists : List (List ℕ)) (old new : Search) : Type 0 where
  pub search : IsSearchOf lists new
  pub met : (y : ℕ) → IsMet old.stages.items y → IsMet new.stages.items y
  pub turns : sum new.turns.items < sum old.turns.items
