-- Parts that gain what lies between their cells: that they must, and that the hull is reached.
use Rattle.std.proofs.Common.{◌≤◌, ℕ, List, length, refl, ◌∙◌, arith}
use Rattle.conley_lists.specs.Lists.{ListedStep, IsDigraph}
use Rattle.conley_lists.proofs.ListLemmas.{step_begins}
use Rattle.conley_digraph.specs.Turning.{IsTurnedRound}
use Rattle.conley_mvf.specs.Partition.{ShareAPart, HaveNoGap, HaveSameParts, IsMultivectorField}
use Rattle.conley_mvf.proofs.LabelLemmas.{between_in_part}
use Rattle.conley_hull.specs.Hull.{IsHull}
use Rattle.conley_hull.specs.Making.{Joins, IsClosedOver, Closes, IsLeastSoFar}
use Rattle.conley_hull.proofs.JoinLemmas.{share-sym, share-trans}

pub closes-none : (Keeps : List ℕ → Type 0) (old : List ℕ) → Closes Keeps old old
closes-none Keeps old = record { count = refl; coarser = λ x y s. s; least = λ other keeps finer. finer }

pub closes-on : (Keeps : List ℕ → Type 0) (old mid new : List ℕ) → Closes Keeps old mid → Closes Keeps mid new → Closes Keeps old new
closes-on Keeps old mid new a b = record {
  count = b.count ∙ a.count;
  coarser = λ x y s. b.coarser x y (a.coarser x y s);
  least = λ other keeps finer. b.least other keeps (a.least other keeps finer);
}

-- what must hold where less is known must hold where more is
pub closes-more : (Keeps Keeps' : List ℕ → Type 0) (old new : List ℕ) → ((other : List ℕ) → Keeps' other → Keeps other) → Closes Keeps old new
    → Closes Keeps' old new
closes-more Keeps Keeps' old new more a = record { count = a.count; coarser = a.coarser; least = λ other keeps finer. a.least other (more other keeps) finer }

-- y lies between x and z
pub closes-join : (Under : ℕ → ℕ → Type 0) (x y z : ℕ) (old new : List ℕ) → Under x y → Under y z → ShareAPart old x z → Joins x y old new
    → Closes (IsClosedOver Under) old new
closes-join Under x y z old new f g s j = record {
  count = j.count;
  coarser = j.coarser;
  least =
      λ other closed finer. j.least other finer (closed x y z f g (finer x z s));
}

-- what is closed downwards is closed upwards
pub closed-turned : (below above : List (List ℕ)) → IsTurnedRound below above → (other : List ℕ) → IsClosedOver (ListedStep below) other
    → IsClosedOver (ListedStep above) other
closed-turned below above turned other closed x y z f g s =
    let back = share-sym other x z s in
    share-trans other x z y s (closed z y x ((turned.steps z y).0 g) ((turned.steps y x).0 f) back)

-- the finest labels that keep the sets together, closed, are the hull
pub hull_from_labels : (faces sets : List (List ℕ)) (n : ℕ) (joined closed part_of : List ℕ) → IsDigraph faces → length sets ≤ n
    → IsLeastSoFar (length faces) sets n joined → Closes (HaveNoGap faces) joined closed → HaveSameParts closed part_of → IsMultivectorField faces part_of
    → IsHull faces sets part_of
hull_from_labels faces sets n joined closed part_of digraph le least closes same field = record {
  field = field;
  together = λ x y s. (same x y).1 (closes.coarser x y (least.together s.0 x y (omega (arith, step_begins sets s.0 x s.1)) s.1 s.2));
  finest = λ other others keeps x y s.
      closes.least other (between_in_part faces other digraph others) (least.least other others.count (λ k a b lt sa sb. keeps a b (k, sa, sb))) x y
      ((same x y).0 s);
}
