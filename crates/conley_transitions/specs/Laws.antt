-- Laws of Morse decompositions, of isolated sets and of invariant parts, each of one flow.
--     ForEachFlow Law      it holds over all faces, all partitions and all tests of which parts are called regular
--     ClassesAreMorse      the recurrence classes that count are a Morse decomposition, ordered by reach
--     ClassesAreFinest     and each lies in a set of every Morse decomposition
--     FinestAreAlike       each set of a finest Morse decomposition has the cells of a set of any other
--     ReachIsLeast         where the classes that count are a Morse decomposition, its order holds wherever a set reaches another
--     IsolatedAreUnions    a set that some closed set isolates is a union of parts
--     IsolatedHaveNoGap    and it is locally closed
--     ClosuresIsolate      the closure of a locally closed union of parts isolates it
--     EssentialByClass     within a set, a cell is on an essential closed walk exactly where its class there counts
--     BetweenIsInvariant   a cell between essential closed walks within a set is in its invariant part
--     InvariantIsBetween   and no other cell is
use Rattle.std.specs.Prelude.{◌≡◌, ◌≢◌, ◌<◌, ◌↔◌, Contains, ℕ, List, Bool, true, length}
use Rattle.conley_walk.specs.Walk.{Reaches}
use Rattle.conley_faces.specs.Face.{IsInClosure, IsLocallyClosed}
use Rattle.conley_transitions.specs.Flow.{Flow, flow_by, IsFlow, Counts, AreCells}
use Rattle.conley_transitions.specs.Isolation.{IsUnionOfParts}
use Rattle.conley_transitions.specs.Invariant.{StepIn, IsEssentialIn}
use Rattle.conley_transitions.specs.Lasso.{Isolates, IsInInvariantPart, HasIsolatingSet}
use Rattle.conley_transitions.specs.Morse.{IsMorse, IsFinest, AreCountingClasses, SetReaches, IsReachOrder, set_at}

abbrev pub ForEachFlow : (Flow → Type 0) → Type 0
ForEachFlow Law = (faces : List (List ℕ)) (part_of : List ℕ) (regular : ℕ → Bool) → Law (flow_by faces part_of regular)

-- ---- the finest decomposition

abbrev pub ClassesAreMorse : Flow → Type 0
ClassesAreMorse flow = (sets : List (List ℕ)) (below : ℕ → ℕ → Bool)
    → IsFlow flow → AreCountingClasses flow sets → IsReachOrder flow sets below → IsMorse flow sets below

abbrev pub ClassesAreFinest : Flow → Type 0
ClassesAreFinest flow = (sets : List (List ℕ)) → IsFlow flow → AreCountingClasses flow sets → IsFinest flow sets

abbrev pub FinestAreAlike : Flow → Type 0
FinestAreAlike flow = (a b : List (List ℕ)) (below other : ℕ → ℕ → Bool) → IsMorse flow a below → IsMorse flow b other → IsFinest flow a → IsFinest flow b →
    (i : ℕ) → i < length a → (j : ℕ) × (j < length b) × ((x : ℕ) → Contains (set_at a i) x ↔ Contains (set_at b j) x)

abbrev pub ReachIsLeast : Flow → Type 0
ReachIsLeast flow = (sets : List (List ℕ)) (below : ℕ → ℕ → Bool) → IsFlow flow → AreCountingClasses flow sets → IsMorse flow sets below →
    (i j : ℕ) → i < length sets → j < length sets → i ≢ j → SetReaches flow (set_at sets i) (set_at sets j) → below j i ≡ true

-- ---- isolated sets

abbrev pub IsolatedAreUnions : Flow → Type 0
IsolatedAreUnions flow = (set : List ℕ) → IsFlow flow → AreCells flow set → HasIsolatingSet flow set → IsUnionOfParts flow set

abbrev pub IsolatedHaveNoGap : Flow → Type 0
IsolatedHaveNoGap flow = (set : List ℕ) → IsFlow flow → AreCells flow set → HasIsolatingSet flow set → IsLocallyClosed flow.faces set

abbrev pub ClosuresIsolate : Flow → Type 0
ClosuresIsolate flow = (set closure : List ℕ) → IsFlow flow → AreCells flow set → ((y : ℕ) → Contains closure y ↔ IsInClosure flow.faces set y) →
    IsUnionOfParts flow set → IsLocallyClosed flow.faces set → Isolates flow closure set

-- ---- invariant parts

abbrev pub EssentialByClass : Flow → Type 0
EssentialByClass flow = (set : List ℕ) → AreCells flow set → (x : ℕ) → IsEssentialIn flow set x ↔ (Contains set x × Counts (StepIn flow set) flow x)

abbrev pub BetweenIsInvariant : Flow → Type 0
BetweenIsInvariant flow = (set : List ℕ) (a b x : ℕ) → IsEssentialIn flow set a → IsEssentialIn flow set b → Reaches (StepIn flow set) a x
    → Reaches (StepIn flow set) x b → IsInInvariantPart flow set x

abbrev pub InvariantIsBetween : Flow → Type 0
InvariantIsBetween flow = (set : List ℕ) (x : ℕ) → IsInInvariantPart flow set x →
    (a : ℕ) × (b : ℕ) × IsEssentialIn flow set a × IsEssentialIn flow set b × Reaches (StepIn flow set) a x × Reaches (StepIn flow set) x b
