-- Essential closed walks, lassos, invariant parts and isolation.
--     LieInOneRegularPart flow cells          the cells all lie in one part that is called regular
--     IsEssential R flow first rest           first ∷ rest is an essential closed walk by R
--     Lasso flow                              an essential closed walk, a walk from one of its cells, and one that this leads to
--     alpha_cells, omega_cells, lasso_cells   the cells of the two closed walks, and all cells
--     IsInInvariantPart flow set x            x is on some lasso in the set
--     Isolates flow closed set                the closed set isolates the set
--     HasIsolatingSet flow set                some closed set isolates the set
--     IsIsolatedInvariant flow set            the set equals its invariant part, and some closed set isolates it
-- Essential closed walks and lassos, which are finite, are this project's own; the other words are after Mrozek and Wanner, stated by these.
-- Nothing is claimed of how they relate to the essential solutions of other works.
use Rattle.std.specs.Prelude.{◌≢◌, ◌↔◌, ℕ, List, [], ◌∷◌, ◌++◌, Contains}
use Rattle.conley_lists.specs.Lists.{LieIn}
use Rattle.conley_walk.specs.Walk.{Walk}
use Rattle.conley_faces.specs.Face.{IsClosed}
use Rattle.conley_transitions.specs.Flow.{Flow, IsInPart, IsCalledRegular, StepOf, AreCells}

-- these cells all lie in one part that is called regular
abbrev pub LieInOneRegularPart : Flow → List ℕ → Type 0
LieInOneRegularPart flow cells = (p : ℕ) × IsCalledRegular flow p × ((x : ℕ) → Contains cells x → IsInPart flow p x)

-- the walk first ∷ rest has a step, ends where it begins, and its cells don't all lie in one regular part
pub record IsEssential (R : ℕ → ℕ → Type 0) (flow : Flow) (first : ℕ) (rest : List ℕ) : Type 0 where
  pub moves : rest ≢ []
  pub closed : Walk R first rest first
  pub essential : ¬ LieInOneRegularPart flow (first ∷ rest)

-- an essential closed walk, a walk from one of its cells, and an essential closed walk that this one leads to
pub record Lasso (flow : Flow) : Type 0 where
  pub alpha_first : ℕ
  pub alpha_rest : List ℕ
  pub link_first : ℕ
  pub link_rest : List ℕ
  pub link_last : ℕ
  pub omega_first : ℕ
  pub omega_rest : List ℕ
  pub alpha : IsEssential (StepOf flow) flow alpha_first alpha_rest
  pub leaves : Contains (alpha_first ∷ alpha_rest) link_first
  pub link : Walk (StepOf flow) link_first link_rest link_last
  pub arrives : Contains (omega_first ∷ omega_rest) link_last
  pub omega : IsEssential (StepOf flow) flow omega_first omega_rest

abbrev pub alpha_cells : {flow : Flow} → Lasso flow → List ℕ
alpha_cells lasso = lasso.alpha_first ∷ lasso.alpha_rest

abbrev pub omega_cells : {flow : Flow} → Lasso flow → List ℕ
omega_cells lasso = lasso.omega_first ∷ lasso.omega_rest

-- the cells of both closed walks and of the walk between them
abbrev pub lasso_cells : {flow : Flow} → Lasso flow → List ℕ
lasso_cells lasso = alpha_cells lasso ++ (lasso.link_first ∷ lasso.link_rest) ++ omega_cells lasso

-- the invariant part of a set: the cells on some lasso in the set
abbrev pub IsInInvariantPart : Flow → List ℕ → ℕ → Type 0
IsInInvariantPart flow set x = (lasso : Lasso flow) × LieIn set (lasso_cells lasso) × Contains (lasso_cells lasso) x

-- the closed set isolates the set
pub record Isolates (flow : Flow) (closed set : List ℕ) : Type 0 where
  pub cells : AreCells flow closed
  pub is_closed : IsClosed flow.faces closed
  pub steps : (x y : ℕ) → Contains set x → StepOf flow x y → Contains closed y
  pub walks : (x : ℕ) (rest : List ℕ) (y : ℕ) → Walk (StepOf flow) x rest y → LieIn closed (x ∷ rest) → Contains set x → Contains set y → LieIn set (x ∷ rest)

-- some closed set isolates the set
abbrev pub HasIsolatingSet : Flow → List ℕ → Type 0
HasIsolatingSet flow set = (closed : List ℕ) × Isolates flow closed set

-- the set equals its invariant part, and some closed set isolates it
pub record IsIsolatedInvariant (flow : Flow) (set : List ℕ) : Type 0 where
  pub invariant : (x : ℕ) → Contains set x ↔ IsInInvariantPart flow set x
  pub isolated : HasIsolatingSet flow set
