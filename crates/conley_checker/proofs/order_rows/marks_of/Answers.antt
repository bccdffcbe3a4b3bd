use Rattle.std.proofs.Common.{ℕ, List, subst, refl}
use Rattle.std.specs.Prelude.{Contains, ◌↔◌}
use Rattle.std.proofs.lemmas.List.{take_all}
use Rattle.conley_lists.specs.Lists.{IsMarked}
use Rattle.conley_checker.proofs.OrderRows.{marked_more}
use Rattle.conley_checker.proofs.order_rows.marks_of.Goals as goal

pub loop-k-preserved : goal.loop-k-preserved
loop-k-preserved c = marked_more c.args.width c.args.list.now c.loop-k.k c.loop-k.row.items _ c.loop-k.invariant c.loop-k-test.true refl
    (c.requires c.loop-k.k 0 c.loop-k-test.true)

pub returns-clause-marks : goal.returns-clause-marks
returns-clause-marks c q = subst (λ (xs : List ℕ). IsMarked c.loop-k.row.items q ↔ Contains xs q) (take_all c.loop-k.k c.args.list.now c.loop-k-test.false)
    (c.loop-k.invariant.same q)
