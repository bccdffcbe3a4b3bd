use Rattle.std.proofs.Common.{arith, refl, subst, inl, inr, below_more}
use Rattle.std.proofs.lemmas.Bool.{true≢false}
use Rattle.conley_lists.proofs.ListLemmas.{place_of, stands_before}
use Rattle.conley_faces.specs.Face.{IsGap}
use Rattle.conley_faces.proofs.faces.Faces.find_gap.Goals as goal

pub returns-in-Some-clause-none : goal.returns-in-Some-clause-none
returns-in-Some-clause-none c = ((λ t. absurd (true≢false t)), (λ closed. absurd (closed _ _ _ c.in-Some.ensures.gap)))

pub returns-in-Some-clause-gap : goal.returns-in-Some-clause-gap
returns-in-Some-clause-gap c = record {
  gap = c.in-Some.ensures.gap;
  first = λ x y z g before. elim before [
    | inl less ↦
        let p = place_of c.args.set.now x g.upper in
        c.loop-x.invariant p.0 (stands_before c.args.set.now c.requires.ascending c.loop-x.x-index p.0 p.1 (omega (arith, p.2))) y z (rw p.2 g)
    | inr same ↦
        let l = c.in-Some.ensures.first y z (subst (λ q. IsGap c.args.self.now c.args.set.now q y z) same.0 g) in
        elim same.1 [ inl less ↦ absurd (omega (arith, l.0)) | inr e ↦ absurd (omega (arith, l.1 e.0, e.1)) ]
  ];
}

pub loop-x-preserved : goal.loop-x-preserved
loop-x-preserved c = below_more _ _ c.loop-x.invariant c.in_default.ensures.none

pub returns-clause-none : goal.returns-clause-none
returns-clause-none c = (
  (λ _ x y z g.
      let p = place_of c.args.set.now x g.upper in
      c.loop-x.invariant p.0 (omega (arith, p.1)) y z (rw p.2 g)),
  (λ _. refl),
)
