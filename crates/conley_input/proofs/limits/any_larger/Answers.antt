use Rattle.std.proofs.Common.{arith, ◌-◌, ℕ, List, map, length, refl, below_more}
use Rattle.conley_lists.specs.Lists.{items_of}
use Rattle.conley_input.proofs.LimitLemmas.{any_at, no_any, size_at, length-sizes}
use Rattle.conley_input.proofs.limits.any_larger.Goals as goal

pub loop-simplex-preserved : goal.loop-simplex-preserved
loop-simplex-preserved c =
    let at = size_at c.args.simplices.now c.loop-simplex.simplex-index c.simplex-item.result c.loop-simplex-test.true c.simplex-item.is in
    below_more _ _ c.loop-simplex.invariant (omega (arith, at, c.len.ensures, c.if-len-most.false))

pub returns-then-len-most : goal.returns-then-len-most
returns-then-len-most c =
    let at = size_at c.args.simplices.now c.loop-simplex.simplex-index c.simplex-item.result c.loop-simplex-test.true c.simplex-item.is in
    let dims = map (λ (s : List ℕ). length s - 1) (items_of c.args.simplices.now) in (
      (λ _. any_at (λ (dim : ℕ). dim) c.args.most dims 0 c.loop-simplex.simplex-index (omega
          (arith, c.loop-simplex-test.true, length-sizes c.args.simplices.now)) (omega (arith, at, c.len.ensures, c.if-len-most.true))),
      (λ _. refl),
    )

pub returns : goal.returns
returns c =
    let dims = map (λ (s : List ℕ). length s - 1) (items_of c.args.simplices.now) in (
      (λ t. cc),
      (λ any. absurd (no_any (λ (dim : ℕ). dim) c.args.most dims 0 c.loop-simplex.simplex-index
          (omega (arith, c.loop-simplex-test.false, length-sizes c.args.simplices.now)) c.loop-simplex.invariant any)),
    )
