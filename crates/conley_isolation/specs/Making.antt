-- What the steps that find an invariant part say of what they made; no public clause cites it. Place i of a set stands for its cell i.
--     StepWithin faces part_of set x y     a step between two cells of the set
--     IsUnder direct faces x y             y stands directly under x, or y is a face of x
--     HasFaceSteps direct faces set n lists    steps down from the first n cells, within the set
--     HaveFirsts parts firsts              for each place the first place of its part
--     HasFirstsSoFar parts n first firsts  of the first n places, and for each part the first of these
--     LinksFirsts firsts n old new         steps between each of the first n places and the first of its part, besides
--     HasSteps faces part_of set lists     steps within the set, which reach what all steps within the set reach
--     IsWithin faces part_of set parts firsts lists    the set by its places
--     Crosses lists parts i                a step leads to another part, and a walk leads back
--     IsStart regular parts firsts lists i    such a place, or the first place of a part that isn't regular
use Rattle.std.specs.Prelude.{◌≡◌, ◌≢◌, ◌⊎◌, ◌↔◌, ◌<◌, ◌≤◌, ℕ, Bool, true, false, List, Contains, length, slice_index}
use Rattle.conley_walk.specs.Walk.{Reaches, ReachesIn}
use Rattle.conley_lists.specs.Lists.{ListedStep}
use Rattle.conley_lists.specs.Gathered.{AreToldBy}
use Rattle.conley_faces.specs.Face.{IsFace}
use Rattle.conley_transitions.specs.Step.{Step}

pub record StepWithin (faces : List (List ℕ)) (part_of set : List ℕ) (x y : ℕ) : Type 0 where
  pub from : Contains set x
  pub to : Contains set y
  pub step : Step faces part_of x y

abbrev pub IsUnder : Bool → List (List ℕ) → ℕ → ℕ → Type 0
IsUnder true faces x y = ListedStep faces x y
IsUnder false faces x y = IsFace faces x y

pub record HasFaceSteps (direct : Bool) (faces : List (List ℕ)) (set : List ℕ) (n : ℕ) (lists : List (List ℕ)) : Type 0 where
  pub count : length lists ≡ n
  pub steps : (i j : ℕ) → ListedStep lists i j ↔ ((i < n) × (j < length set) × IsUnder direct faces (slice_index set i) (slice_index set j))

pub record HaveFirsts (parts firsts : List ℕ) : Type 0 where
  pub count : length firsts ≡ length parts
  pub before : (i : ℕ) → i < length parts → slice_index firsts i ≤ i
  pub part : (i : ℕ) → i < length parts → slice_index parts (slice_index firsts i) ≡ slice_index parts i
  pub same : (i j : ℕ) → i < length parts → j < length parts → slice_index parts i ≡ slice_index parts j → slice_index firsts i ≡ slice_index firsts j

-- a part without a place so far has the number of all places
pub record HasFirstsSoFar (parts : List ℕ) (n : ℕ) (first firsts : List ℕ) : Type 0 where
  pub count : length firsts ≡ n
  pub told : AreToldBy first parts n firsts
  pub known : (i : ℕ) → i < n → (slice_index first (slice_index parts i) ≤ i)
      × (slice_index parts (slice_index first (slice_index parts i)) ≡ slice_index parts i)
  pub met : (p : ℕ) → p < length first → (slice_index first p ≡ length parts) ⊎ ((i : ℕ) × (i < n) × (slice_index parts i ≡ p))

pub record LinksFirsts (firsts : List ℕ) (n : ℕ) (old new : List (List ℕ)) : Type 0 where
  pub count : length new ≡ length old
  pub kept : (i j : ℕ) → ListedStep old i j → ListedStep new i j
  pub only : (i j : ℕ) → ListedStep new i j → ListedStep old i j ⊎ (((i < n) × (j ≡ slice_index firsts i)) ⊎ ((j < n) × (i ≡ slice_index firsts j)))
  pub back : (i : ℕ) → i < n → ListedStep new i (slice_index firsts i)
  pub there : (i : ℕ) → i < n → ListedStep new (slice_index firsts i) i

pub record HasSteps (faces : List (List ℕ)) (part_of set : List ℕ) (lists : List (List ℕ)) : Type 0 where
  pub count : length lists ≡ length set
  pub sound : (i j : ℕ) → ListedStep lists i j → (j < length set) × StepWithin faces part_of set (slice_index set i) (slice_index set j)
  pub reach : (i j : ℕ) → i < length set → j < length set → Reaches (StepWithin faces part_of set) (slice_index set i) (slice_index set j) → ReachesIn lists i j

pub record IsWithin (faces : List (List ℕ)) (part_of set parts firsts : List ℕ) (lists : List (List ℕ)) : Type 0 where
  pub count : length parts ≡ length set
  pub part : (i : ℕ) → i < length set → slice_index parts i ≡ slice_index part_of (slice_index set i)
  pub have_firsts : HaveFirsts parts firsts
  pub steps : HasSteps faces part_of set lists

abbrev pub Crosses : List (List ℕ) → List ℕ → ℕ → Type 0
Crosses lists parts i = (j : ℕ) × ListedStep lists i j × ReachesIn lists j i × (slice_index parts j ≢ slice_index parts i)

abbrev pub IsStart : (ℕ → Type 0) → List ℕ → List ℕ → List (List ℕ) → ℕ → Type 0
IsStart regular parts firsts lists i = Crosses lists parts i ⊎ ((i < length parts) × (slice_index firsts i ≡ i) × ¬ regular (slice_index parts i))
