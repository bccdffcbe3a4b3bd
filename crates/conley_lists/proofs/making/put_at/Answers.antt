use Rattle.std.proofs.Common.{ℕ, List, sym, subst}
use Rattle.std.specs.Prelude.{Contains}
use Rattle.std.proofs.lemmas.List.{take_all}
use Rattle.conley_lists.proofs.MakingLemmas.{put_more}
use Rattle.conley_lists.proofs.making.put_at.Goals as goal

pub loop-i-preserved : goal.loop-i-preserved
loop-i-preserved c = put_more c.args.numbers.now.items c.args.places.now c.loop-i.i c.args.number c.loop-i.numbers.items c.loop-i.invariant c.loop-i-test.true
    (c.requires c.loop-i.i 0 c.loop-i-test.true)

pub returns-clause-inside : goal.returns-clause-inside
returns-clause-inside c x h = c.loop-i.invariant.inside x (subst (λ (xs : List ℕ). Contains xs x)
    (sym (take_all c.loop-i.i c.args.places.now c.loop-i-test.false)) h)
