use Rattle.conley_homotopy.specs.Equivalence.{Maps, identity_maps}
use Rattle.conley_algebra.proofs.MatrixLemmas.{entries_path}
use Rattle.conley_homotopy.proofs.PairStepLemmas.{maps_path}
use Rattle.conley_chains.specs.Matrix.{entry}
use Rattle.conley_equivalence.proofs.Laws.{identity_law}
use Rattle.conley_equivalence.proofs.composition.identity.Goals as goal

pub returns-clause-law : goal.returns-clause-law
returns-clause-law g c cells test C order count complex =
    let phi = c.in_ok-identity.field-0 in
    let m : Maps = record {
      phi = entry phi;
      psi = entry c.in_ok-identity-2.field-0;
      gamma = entry c.in_ok-empty.field-0;
      gamma2 =
          entry c.in_ok-empty-2.field-0;
    } in
    identity_law (g.met.F.Field.is_field c.args.field.now) cells test order C m c.args.n
    (maps_path m (identity_maps c.args.n) (entries_path _ _ c.in_ok-identity.ensures.entries) (entries_path _ _ c.in_ok-identity-2.ensures.entries)
    (entries_path _ _ c.in_ok-empty.ensures.entries) (entries_path _ _ c.in_ok-empty-2.ensures.entries)) count complex

pub returns-clause-tables : goal.returns-clause-tables
returns-clause-tables g c =
    let F = g.F.Field.arithmetic c.args.field.now in
    record {
      phi = c.in_ok-identity.ensures.table;
      psi = c.in_ok-identity-2.ensures.table;
      gamma = c.in_ok-empty.ensures.table F;
      gamma2 =
          c.in_ok-empty-2.ensures.table F;
    }
