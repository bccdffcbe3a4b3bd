use Rattle.std.proofs.Common.{arith, ◌≡◌, ℕ, length, subst}
use Rattle.conley_order.proofs.LowerRowLemmas.{JoinedSoFar, joined_all}
use Rattle.conley_order.proofs.bits.join_row.Goals as goal

pub returns : goal.returns
returns c =
    let all : c.loop-k.k ≡ length c.args.words.now = omega arith in
    joined_all c.args.words.now c.loop-k.words c.args.row.now (subst (λ (n : ℕ). JoinedSoFar c.args.words.now c.loop-k.words c.args.row.now n) all
    c.loop-k.invariant)
