-- At most one report is that of a set
use Rattle.std.proofs.Common.{◌≡◌, ℕ, Bool, true, false, List, refl, sym, ap, ◌∙◌}
use Rattle.std.specs.Prelude.{Option, Some, None, IfSome, IfNone}
use Rattle.std.proofs.lemmas.Bool.{true≢false}
use Rattle.conley_lists.proofs.AscendingLemmas.{same_numbers}
use Rattle.conley_lists.proofs.TestLemmas.{same_tests}
use Rattle.conley_field.specs.Arithmetic.{Arithmetic}
use Rattle.conley_lefschetz.specs.Complex.{Layout}
use Rattle.conley_lefschetz.specs.Conley.{AreConleyNumbers, NumbersAreOne}
use Rattle.conley_isolation.specs.Report.{IsInvariantPart, ReportIsOne}

pub invariant_once : {F : Arithmetic} (c : Layout) (part_of set a b : List ℕ) → IsInvariantPart F c part_of set a → IsInvariantPart F c part_of set b → a ≡ b
invariant_once c part_of set a b first second =
    same_numbers a b first.list.ascending second.list.ascending (λ x. (
      (λ at. (second.invariant x).1 ((first.invariant x).0 at)),
      (λ at. (first.invariant x).1 ((second.invariant x).0 at)),
    ))

-- an index is told by one test, and then it is one
index_once : {F : Arithmetic} (c : Layout) (set : List ℕ) → NumbersAreOne F c → (t : Bool) (a b : Option (List ℕ)) →
    IfSome a (λ numbers. (t ≡ true) × AreConleyNumbers F c set numbers) → IfNone a (t ≡ false) →
    IfSome b (λ numbers. (t ≡ true) × AreConleyNumbers F c set numbers) → IfNone b (t ≡ false) → a ≡ b
index_once c set one t None None a_some a_none b_some b_none = refl
index_once c set one t None (Some n) a_some a_none b_some b_none = absurd (true≢false (sym b_some.0 ∙ a_none))
index_once c set one t (Some m) None a_some a_none b_some b_none = absurd (true≢false (sym a_some.0 ∙ b_none))
index_once c set one t (Some m) (Some n) a_some a_none b_some b_none = ap Some (one.one_list set m n a_some.1 b_some.1)

pub report_once : {F : Arithmetic} (c : Layout) → NumbersAreOne F c → ReportIsOne F c
report_once {F} c one part_of set a b first second =
    let invariant : a.invariant ≡ b.invariant = invariant_once c part_of set a.invariant b.invariant first.invariant_part second.invariant_part in
    let isolated : a.isolated ≡ b.isolated = same_tests a.isolated b.isolated (λ t. second.isolation.1 (first.isolation.0 t))
    (λ t. first.isolation.1 (second.isolation.0 t)) in
    let index : a.index ≡ b.index = index_once c set one a.isolated a.index b.index first.numbers first.none (rw isolated second.numbers)
    (rw isolated second.none) in
    λ i. record { invariant = invariant i; isolated = isolated i; index = index i }
