-- Faces, closed sets and cells below themselves
use Rattle.std.proofs.Common.{◌≡◌, ◌⊎◌, inl, inr, ◌<◌, ℕ, List, length}
use Rattle.std.specs.Prelude.{Contains}
use Rattle.std.proofs.lemmas.List.Elements.{All-contains}
use Rattle.conley_lists.specs.Lists.{ListedStep, IsDigraph, IsOrderedCopy}
use Rattle.conley_walk.proofs.WalkLemmas.{reaches_itself, reaches_on, reaches_by_step, reaches_least, reaches_cases, reaches_more}
use Rattle.conley_lists.proofs.ListLemmas.{step_begins}
use Rattle.conley_faces.specs.Face.{IsFace, IsCellList, IsClosed, IsBelowItself, IsLeastBelowItself}

-- each cell is a face of itself
pub face_itself : (lists : List (List ℕ)) (x : ℕ) → x < length lists → IsFace lists x x
face_itself lists x lt = record { cell = lt; walk = reaches_itself x }

-- a face of a face is a face
pub face_on : (lists : List (List ℕ)) (x y z : ℕ) → IsFace lists x y → IsFace lists y z → IsFace lists x z
face_on lists x y z f g = record { cell = f.cell; walk = reaches_on f.walk g.walk }

-- the faces of a cell directly under x are faces of x
pub face_under : (lists : List (List ℕ)) (x z y : ℕ) → ListedStep lists x z → IsFace lists z y → IsFace lists x y
face_under lists x z y s f = record { cell = step_begins lists x z s; walk = reaches_on (reaches_by_step {Step = ListedStep lists} {x = x} {y = z} s) f.walk }

-- a face of x is x, or a face of a cell directly under x
pub face_cases : (lists : List (List ℕ)) → IsDigraph lists → (x y : ℕ) → IsFace lists x y → (x ≡ y) ⊎ ((z : ℕ) × (ListedStep lists x z × IsFace lists z y))
face_cases lists ok x y f = elim (reaches_cases f.walk) [
  | inl e ↦ inl e
  | inr g ↦ inr (g.0, (g.1.0, record { cell = ok x g.0 g.1.0; walk = g.1.1 }))
]

-- a face is a cell
pub face_ends : (lists : List (List ℕ)) → IsDigraph lists → (x y : ℕ) → IsFace lists x y → y < length lists
face_ends lists ok x y f = reaches_least (λ q. q < length lists) (λ a b s h. ok a b s) f.walk f.cell

-- a set of cells that has the faces of its cells is closed
pub closed_by_faces : (lists : List (List ℕ)) (set : List ℕ) → IsCellList lists set → ((x y : ℕ) → Contains set x → IsFace lists x y → Contains set y)
    → IsClosed lists set
closed_by_faces lists set are all y = (
  (λ c. (y, c, face_itself lists y (All-contains (λ q. q < length lists) set y are.cells c))),
  (λ g. all g.0 y g.1 g.2),
)

-- a closed set has the faces of its cells
pub faces_in_closed : (lists : List (List ℕ)) (set : List ℕ) → IsClosed lists set → (x y : ℕ) → Contains set x → IsFace lists x y → Contains set y
faces_in_closed lists set closed x y c f = (closed y).1 (x, c, f)

-- lists with more steps have more cells below themselves
pub below_same : (copy lists : List (List ℕ)) → ((x y : ℕ) → ListedStep copy x y → ListedStep lists x y) → (x : ℕ) → IsBelowItself copy x
    → IsBelowItself lists x
below_same copy lists same x b = (b.0, same x b.0 b.1, reaches_more same b.2)

-- what is in order has the same cells below themselves
module _ (copy lists : List (List ℕ)) (ordered : IsOrderedCopy copy lists) where
  pub below_ordered : (x : ℕ) → IsBelowItself lists x → IsBelowItself copy x
  below_ordered x b = below_same lists copy (λ a c s. (ordered.same a c).1 s) x b

  pub least_same : (x : ℕ) → IsLeastBelowItself copy x → IsLeastBelowItself lists x
  least_same x l = record {
    below = below_same copy lists (λ a b s. (ordered.same a b).0 s) x l.below;
    least = λ y lt b. l.least y lt (below_ordered y b);
  }
