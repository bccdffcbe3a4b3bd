-- Flows: multivector fields of which it is told which parts are regular, over lists.
--     Flow                           the cells directly under each cell, the part of each cell, and which parts are called regular
--     flow_by faces part_of test     the flow whose regular parts a test tells
--     IsFlow flow                    cells are cells, and each has a part
--     IsCell, IsInPart, ShareAPart   as for a partition
--     AreCells flow set              each number of the list is a cell
--     IsCalledRegular flow p         part p is called regular
--     StepOf flow x y                a step by the faces and parts of the flow
--     Counts R flow x                the class of x has two or more parts, or the part of x isn't called regular
-- After Mrozek and Wanner; the wording is this project's own.
use Rattle.std.specs.Prelude.{◌≡◌, ◌⊎◌, ◌<◌, ℕ, List, Bool, true, Contains, length, slice_index}
use Rattle.conley_walk.specs.Walk.{AreRecurrent}
use Rattle.conley_lists.specs.Lists.{IsDigraph}
use Rattle.conley_mvf.specs.Partition as partition
use Rattle.conley_transitions.specs.Step.{Step}

pub record Flow : Type 1 where
  pub faces : List (List ℕ)
  pub part_of : List ℕ
  pub regular : ℕ → Type 0

abbrev pub flow_by : List (List ℕ) → List ℕ → (ℕ → Bool) → Flow
flow_by faces part_of test = record { faces = faces; part_of = part_of; regular = λ p. test p ≡ true }

pub record IsFlow (flow : Flow) : Type 0 where
  pub digraph : IsDigraph flow.faces
  pub parts : length flow.part_of ≡ length flow.faces

abbrev pub IsCell : Flow → ℕ → Type 0
IsCell flow x = x < length flow.part_of

abbrev pub AreCells : Flow → List ℕ → Type 0
AreCells flow set = (x : ℕ) → Contains set x → IsCell flow x

abbrev pub IsInPart : Flow → ℕ → ℕ → Type 0
IsInPart flow p x = partition.IsInPart flow.part_of p x

abbrev pub ShareAPart : Flow → ℕ → ℕ → Type 0
ShareAPart flow x y = partition.ShareAPart flow.part_of x y

abbrev pub IsCalledRegular : Flow → ℕ → Type 0
IsCalledRegular flow p = flow.regular p

abbrev pub StepOf : Flow → ℕ → ℕ → Type 0
StepOf flow x y = Step flow.faces flow.part_of x y

abbrev pub Counts : (ℕ → ℕ → Type 0) → Flow → ℕ → Type 0
Counts R flow x = ((y : ℕ) × AreRecurrent R x y × ¬ ShareAPart flow x y) ⊎ ¬ IsCalledRegular flow (slice_index flow.part_of x)
