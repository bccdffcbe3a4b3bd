use Rattle.std.proofs.Common.{ℕ, ◌≡◌, nat_lt, arith, rules}
use Rattle.std.proofs.lemmas.Bool.{ltb-true, ltb-false}
use Rattle.std.proofs.lemmas.List.Sorted.{IsPartitionPoint-from_clause, IsPartitionedBy-ltb}
use Rattle.std.specs.List.Sorted.{IsPartitionPoint}
use Rattle.std.specs.Prelude.{true, false}
use Rattle.conley_chains.proofs.ChainLemmas.{places-rise}
use Rattle.conley_chains.proofs.chain.count_before.Goals as goal

parted : (c : goal.After-partition_point) → IsPartitionPoint (λ (y : ℕ × ℕ). nat_lt y.0 c.args.place ≡ true) (λ y. nat_lt y.0 c.args.place ≡ false)
    c.args.entries.now c.partition_point.result
parted c =
    IsPartitionPoint-from_clause (λ (y : ℕ × ℕ). nat_lt y.0 c.args.place) c.args.entries.now c.partition_point.result c.partition_point.ensures.partitioned
    (IsPartitionedBy-ltb (λ (y : ℕ × ℕ). y.0) c.args.entries.now c.args.place (places-rise c.args.entries.now c.requires)) (λ a r q k. search rules)

pub returns-clause-before : goal.returns-clause-before
returns-clause-before c k d below = ltb-true _ _ ((parted c).0 k d (omega arith) below)

pub returns-clause-after : goal.returns-clause-after
returns-clause-after c k d from within = ltb-false _ _ ((parted c).1 k d from within)
