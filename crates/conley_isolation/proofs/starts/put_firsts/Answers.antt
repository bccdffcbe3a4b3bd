use Rattle.std.proofs.Common.{arith, inl, inr, get_or, sym, ap, ◌∙◌, subst, ℕ}
use Rattle.std.proofs.lemmas.Bool.{cases_eq}
use Rattle.conley_transitions.specs.Flow.{IsCalledRegular}
use Rattle.conley_graph.specs.Decomposition.{flow_of}
use Rattle.conley_isolation.proofs.starts.put_firsts.Goals.{then-firsts-i+in_ok-put_critical, else-firsts-i}
use Rattle.conley_isolation.proofs.starts.put_firsts.Goals as goal

pub loop-i-preserved : goal.loop-i-preserved
loop-i-preserved g c =
    let firsts = c.args.firsts.now in
    let n = c.loop-i.i in
    let critical = λ (i : ℕ). IsCalledRegular (flow_of (g.F.Field.arithmetic c.args.complex.now.0) c.args.complex.now.1 c.args.partition.now)
    (get_or c.args.parts.now i 0) → ⊥ in
    elim c.if-firsts-i.branch [
      | then-firsts-i+in_ok-put_critical w ↦ rw w.starts-is (λ i.
          let before = c.loop-i.invariant i in
          let more = w.in_ok-put_critical.ensures i in (
            (λ h. elim (more.0 h) [
              | inl old ↦ elim (before.0 old) [ inl given ↦ inl given | inr k ↦ inr (omega (arith, k.0), k.1, k.2) ]
              | inr k ↦ inr (omega (arith, k.0), ap (λ v. get_or firsts v 0) k.0 ∙ w.if-firsts-i.true ∙ sym k.0, subst critical (sym k.0) k.1)
            ]),
            (λ s. elim s [
              | inl given ↦ more.1 (inl (before.1 (inl given)))
              | inr k ↦ elim (cases_eq i n) [
                | inl e ↦ more.1 (inr (e, subst critical e k.2))
                | inr ne ↦ more.1 (inl (before.1 (inr (omega (arith, k.0, ne), k.1, k.2))))
              ]
            ]),
          ))
      | else-firsts-i w ↦ rw w.starts-is (λ i.
          let before = c.loop-i.invariant i in (
            (λ h. elim (before.0 h) [ inl given ↦ inl given | inr k ↦ inr (omega (arith, k.0), k.1, k.2) ]),
            (λ s. elim s [
              | inl given ↦ before.1 (inl given)
              | inr k ↦ elim (cases_eq i n) [
                | inl e ↦ absurd (w.if-firsts-i.false (ap (λ v. get_or firsts v 0) (sym e) ∙ k.1 ∙ e))
                | inr ne ↦ before.1 (inr (omega (arith, k.0, ne), k.1, k.2))
              ]
            ]),
          ))
    ]

pub returns : goal.returns
returns g c = λ i.
    let before = c.loop-i.invariant i in (
      (λ h. elim (before.0 h) [ inl given ↦ inl given | inr k ↦ inr (omega (arith, k.0, c.loop-i.auto.i-end), k.1, k.2) ]),
      (λ s. elim s [ inl given ↦ before.1 (inl given) | inr k ↦ before.1 (inr (omega (arith, k.0, c.loop-i-test.false), k.1, k.2)) ]),
    )
