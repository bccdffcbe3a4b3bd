use Rattle.std.proofs.Common.{subst, sym, inl, inr}
use Rattle.conley_chains.specs.Chain.{IsChain}
use Rattle.conley_chains.proofs.WithoutLemmas.{rest_before, rest_kept, rest_passed}
use Rattle.conley_chains.proofs.chain.Chain.without.Goals as goal
use Rattle.conley_chains.proofs.chain.Chain.without.Goals.{then-e-k+then-e-q+in_ok-put, else-e-k, else-e-k-via-then-e-k+else-e-q, else-e-k-via-else-e-k}

pub put-requires : goal.put-requires
put-requires c =
    let chain = subst IsChain (sym c.entries-e-items.ensures.entries) c.entries-e-items.ensures.chain in
    rest_before c.args.k c.args.q c.requires c.entries-e-items.result.now chain c.loop-e.e-index c.e-item.result c.loop-e-test.true c.e-item.is c.loop-e.rest
    c.place_among.result
    c.loop-e.invariant c.place_among.ensures

pub loop-e-preserved : goal.loop-e-preserved
loop-e-preserved c =
    let chain = subst IsChain (sym c.entries-e-items.ensures.entries) c.entries-e-items.ensures.chain in
    elim c.if-e-k.branch [
      | then-e-k+then-e-q+in_ok-put w ↦ rw w.rest-is
          (rest_kept c.args.k c.args.q c.requires c.entries-e-items.result.now chain c.loop-e.e-index c.e-item.result c.loop-e-test.true c.e-item.is
          c.loop-e.rest w.put.new.self w.place_among.result
          c.loop-e.invariant w.place_among.ensures w.in_ok-put.ensures.codes w.in_ok-put.ensures.places (λ n. w.in_ok-put.ensures.below n))
      | else-e-k w ↦ rw w.rest-is
          (rest_passed c.args.k c.args.q c.requires c.entries-e-items.result.now chain c.loop-e.e-index c.e-item.result c.loop-e-test.true c.e-item.is
          c.loop-e.rest c.loop-e.invariant
          (elim w.else-e-k.branch [
            | else-e-k-via-then-e-k+else-e-q v ↦ inr v.if-e-q.false
            | else-e-k-via-else-e-k v ↦ inl v.if-e-k.false
          ]))
    ]
