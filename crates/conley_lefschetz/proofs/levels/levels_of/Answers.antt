use Rattle.std.proofs.Common.{inl, inr, take, get_or, arith}
use Rattle.std.proofs.lemmas.List.{take_more, take_all}
use Rattle.conley_lefschetz.proofs.LevelLemmas.{levels_start, levels_more, levels_same}
use Rattle.std.proofs.lemmas.Bool.{cases_lt}
use Rattle.conley_lefschetz.proofs.levels.levels_of.Goals as goal

pub loop-dim-init : goal.loop-dim-init
loop-dim-init c = levels_start

pub loop-dim-preserved : goal.loop-dim-preserved
loop-dim-preserved c =
    let more = take_more c.args.dims.now c.loop-dim.dim-index 0 c.loop-dim-test.true in
    rw more (elim (cases_lt (get_or c.args.dims.now c.loop-dim.dim-index 0) c.loop-dim.levels) [
      | inl lt ↦ rw (c.raised-levels.ensures.same lt) (levels_same (take c.loop-dim.dim-index c.args.dims.now) (get_or c.args.dims.now c.loop-dim.dim-index 0)
          c.loop-dim.levels c.loop-dim.invariant lt)
      | inr ge ↦ rw (c.raised-levels.ensures.more ge) (levels_more (take c.loop-dim.dim-index c.args.dims.now) (get_or c.args.dims.now c.loop-dim.dim-index 0)
          c.loop-dim.levels c.loop-dim.invariant ge)
    ])

pub returns : goal.returns
returns c = rw (← take_all c.loop-dim.dim-index c.args.dims.now (omega (arith, c.loop-dim-test.false))) c.loop-dim.invariant
