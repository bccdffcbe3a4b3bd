use Rattle.std.proofs.Common.{inl, inr, [], ◌∷◌, ◌++◌, sym, ◌∙◌, subst}
use Rattle.std.specs.Prelude.{Contains}
use Rattle.std.proofs.lemmas.Bool.{false≢true}
use Rattle.std.proofs.lemmas.List.Elements.{Contains-append_left, Contains-push, Contains-push_cases}
use Rattle.conley_isolation.proofs.starts.put_critical.Goals as goal

pub returns-in_ok-push : goal.returns-in_ok-push
returns-in_ok-push g c = λ i.
    let old = c.args.starts.now.items in
    let place = c.args.place in
    rw c.in_ok-push.ensures.items (
      (λ h. elim (Contains-push_cases old place i h) [
        | inl given ↦ inl given
        | inr e ↦ inr
            (sym e, (λ regular. false≢true (sym c.if-not-branch.true ∙ c.in_ok-is_regular_part.ensures.1 regular)))
      ]),
      (λ s. elim s [
        | inl given ↦ Contains-append_left old (place ∷ []) i given
        | inr w ↦ subst (Contains (old ++ place ∷ [])) (sym w.0)
            (Contains-push old place)
      ]),
    )
