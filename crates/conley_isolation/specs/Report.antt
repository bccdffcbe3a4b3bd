-- What a report says of a set of cells.
--     IsInvariantPart F c part_of set cells    the ascending list of the cells on some lasso in the set
--     IsIsolated F c part_of set       the set equals its invariant part, and some closed set isolates it
--     Findings, findings_of report     what a report tells, as lists
--     IsReport F c part_of set told    the invariant part, whether the set is isolated, and its Conley numbers exactly where it is
--     ReportIsOne F c                  at most one report is that of a set
-- After Mrozek and Wanner, stated by lassos, which are this project's own.
use Rattle.std.specs.Prelude.{◌≡◌, ◌↔◌, ℕ, Bool, true, false, List, Option, IfSome, IfNone, Contains, option_map}
use Rattle.conley_field.specs.Arithmetic.{Arithmetic}
use Rattle.conley_faces.specs.Face.{IsCellList}
use Rattle.conley_lefschetz.specs.Complex.{Layout}
use Rattle.conley_lefschetz.specs.Conley.{AreConleyNumbers}
use Rattle.conley_transitions.specs.Lasso.{IsInInvariantPart, IsIsolatedInvariant}
use Rattle.conley_graph.specs.Decomposition.{flow_of}
use Rattle.conley_isolation.specs.declared.set_report.SetReport.{SetReport}

pub record IsInvariantPart (F : Arithmetic) (c : Layout) (part_of set cells : List ℕ) : Type 0 where
  pub list : IsCellList c.faces cells
  pub invariant : (x : ℕ) → Contains cells x ↔ IsInInvariantPart (flow_of F c part_of) set x

abbrev pub IsIsolated : Arithmetic → Layout → List ℕ → List ℕ → Type 0
IsIsolated F c part_of set = IsIsolatedInvariant (flow_of F c part_of) set

pub record Findings : Type 0 where
  pub invariant : List ℕ
  pub isolated : Bool
  pub index : Option (List ℕ)

abbrev pub findings_of : SetReport → Findings
findings_of report = record { invariant = report.invariant.items; isolated = report.isolated; index = option_map (λ numbers. numbers.items) report.index }

pub record IsReport (F : Arithmetic) (c : Layout) (part_of set : List ℕ) (told : Findings) : Type 0 where
  pub invariant_part : IsInvariantPart F c part_of set told.invariant
  pub isolation : (told.isolated ≡ true) ↔ IsIsolated F c part_of set
  -- an index is told exactly where the set is isolated
  pub numbers : IfSome told.index (λ numbers. (told.isolated ≡ true) × AreConleyNumbers F c set numbers)
  pub none : IfNone told.index (told.isolated ≡ false)

abbrev pub ReportIsOne : Arithmetic → Layout → Type 0
ReportIsOne F c = (part_of set : List ℕ) (a b : Findings) → IsReport F c part_of set a → IsReport F c part_of set b → a ≡ b
