use Rattle.std.specs.Prelude.{IsTrue, ℕ}
use Rattle.conley_homotopy.specs.Laws.{Holds}
use Rattle.conley_homotopy.proofs.RestrictionLemmas.{cycle, restricted-basis}
use Rattle.conley_homotopy.proofs.laws.grades_restrict.Goals as goal

pub returns : goal.returns
returns g c = λ below order L S m eq L_complex S_complex strict p inside closure mouth around k r list listing.
    let laws = g.met.F.Field.is_field c.args.field.now in
    let InClosure : ℕ → Type 0 = λ x. IsTrue (closure x) in
    let InMouth : ℕ → Type 0 = λ x. IsTrue (mouth x) in (
      (λ (i : ℕ). cycle laws {below = Holds below} order L S m eq L_complex S_complex strict p inside InClosure InMouth around (list i)),
      restricted-basis laws {below = Holds below} order L S m eq L_complex S_complex strict p inside InClosure InMouth around k r list listing,
    )
