use Rattle.std.proofs.Common.{arith, ◌-◌, length, ap, List, ℕ}
use Rattle.conley_homology.proofs.PlaceLemmas.{IsLast-last}
use Rattle.conley_homology.proofs.column.last.Goals as goal

pub returns-clause-some : goal.returns-clause-some
returns-clause-some c =
    IsLast-last c.args.chain.now (length c.args.chain.now - 1) c.index-entries-entries.result c.entries-entries.ensures.chain
    (omega (arith, c.if-entries-eq0.false, ap (λ (es : List (ℕ × ℕ)). length es) c.entries-entries.ensures.entries))
    (rw (c.entries-entries.ensures.entries) at c.index-entries-entries.is)
