use Rattle.std.proofs.Common.{arith, ap, ◌∙◌, List, ℕ, Vec, Result, Ok, Err, OnErr}
use Rattle.std.proofs.Math.Seq.{map-set_same}
use Rattle.std.specs.declared.alloc.Global.{Global}
use Rattle.conley_lists.proofs.ListLemmas.{row_of, length-items_of}
use Rattle.conley_lists.proofs.EntryLemmas.{puts_under_rows}
use Rattle.conley_lists.proofs.lists.put_under.Goals as goal

pub returns-clause-puts : goal.returns-clause-puts
returns-clause-puts c = puts_under_rows c.args.lists.now.items c.args.x c.args.y c.index_mut.result.now c.push.new.self
    (omega (arith, length-items_of c.args.lists.now.items, c.requires)) (row_of c.args.lists.now.items c.args.x c.index_mut.result.now c.requires
    c.index_mut.ensures.value) c.in_ok-push.ensures.items

on_err : {T E P : Type 0} (r : Result T E) → P → OnErr r P
on_err (Ok _) p = tt
on_err (Err _) p = p

pub returns-in_err-push-clause-unchanged : goal.returns-in_err-push-clause-unchanged
returns-in_err-push-clause-unchanged c =
    let items : Vec ℕ Global → List ℕ = λ (row : Vec ℕ Global). row.items in
    on_err c.from_residual.result (map-set_same items c.args.lists.now.items c.args.x c.push.new.self c.index_mut.result.now
    (c.in_err-push.ensures.items ∙ ap items c.index_mut.ensures.value))
