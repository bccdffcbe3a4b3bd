use Rattle.std.proofs.Common.{ℕ, List, subst, rules}
use Rattle.conley_faces.specs.Face.{IsLocallyClosed}
use Rattle.conley_flow_tests.proofs.homology_tests.numbers_of.Goals as goal

pub numbers-requires-clause-closed : goal.numbers-requires-clause-closed
numbers-requires-clause-closed c =
    subst (λ (faces : List (List ℕ)). IsLocallyClosed faces c.args.set.now) c.faces.ensures.faces (c.in_default.ensures.none.0 (search rules))

pub is_regular-requires-clause-closed : goal.is_regular-requires-clause-closed
is_regular-requires-clause-closed c =
    subst (λ (faces : List (List ℕ)). IsLocallyClosed faces c.args.set.now) c.faces.ensures.faces (c.in_default.ensures.none.0 (search rules))
