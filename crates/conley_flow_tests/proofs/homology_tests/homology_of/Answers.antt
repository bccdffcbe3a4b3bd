use Rattle.std.proofs.Common.{ℕ, List, subst, rules}
use Rattle.conley_faces.specs.Face.{IsLocallyClosed}
use Rattle.conley_flow_tests.proofs.homology_tests.homology_of.Goals as goal

pub relative-requires-clause-closed : goal.relative-requires-clause-closed
relative-requires-clause-closed c =
    subst (λ (faces : List (List ℕ)). IsLocallyClosed faces c.args.set.now) c.faces.ensures.faces (c.in_default.ensures.none.0 (search rules))
