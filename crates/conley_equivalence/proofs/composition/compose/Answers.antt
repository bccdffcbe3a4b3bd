use Rattle.std.proofs.Common.{ℕ, ap, ◌∙◌, ◌≡◌}
use Rattle.conley_field.specs.Arithmetic.{Arithmetic}
use Rattle.conley_algebra.specs.Entries.{product_of, plus_of, SameEntries}
use Rattle.conley_homotopy.specs.Equivalence.{Maps, composed}
use Rattle.conley_algebra.proofs.MatrixLemmas.{entries_path}
use Rattle.conley_homotopy.proofs.PairStepLemmas.{maps_path}
use Rattle.conley_chains.specs.Matrix.{entry, column_count}
use Rattle.conley_equivalence.specs.MapTables.{maps_of}
use Rattle.conley_equivalence.proofs.Laws.{composed_law}
use Rattle.conley_equivalence.proofs.composition.compose.Goals as goal

-- the four formulas, each over its own number of columns
are_composed : (F : Arithmetic) (first second m : Maps) (n a b c : ℕ) → a ≡ n → b ≡ n → c ≡ n
    → SameEntries m.phi (product_of F n first.phi second.phi) → SameEntries m.psi (product_of F a second.psi first.psi)
    → SameEntries m.gamma (plus_of F first.gamma (product_of F b (product_of F b first.phi second.gamma) first.psi))
    → SameEntries m.gamma2 (plus_of F second.gamma2 (product_of F c (product_of F c second.psi first.gamma2) second.phi))
    → m ≡ composed F n first second
are_composed F first second m n a b c at bt ct phi psi gamma gamma2 = maps_path m (composed F n first second)
    (entries_path _ _ phi)
    (entries_path _ _ psi ∙ ap (λ (k : ℕ). product_of F k second.psi first.psi) at)
    (entries_path _ _ gamma ∙ ap (λ (k : ℕ). plus_of F first.gamma (product_of F k (product_of F k first.phi second.gamma) first.psi)) bt)
    (entries_path _ _ gamma2 ∙ ap (λ (k : ℕ). plus_of F second.gamma2 (product_of F k (product_of F k second.psi first.gamma2) second.phi)) ct)

pub returns-clause-maps : goal.returns-clause-maps
returns-clause-maps g c =
    are_composed (g.F.Field.arithmetic c.args.field.now) (maps_of c.args.first.now) (maps_of c.args.second.now)
    (record { phi = entry c.in_ok-phi.phi; psi = entry c.in_ok-psi.psi; gamma = entry c.in_ok-on_large.on_large; gamma2 = entry c.in_ok-on_small.on_small })
    (column_count c.args.first.now.phi) _ _ _ c.requires.second.psi.columns c.requires.second.gamma.columns c.requires.first.gamma2.columns
    c.in_ok-phi.ensures.product c.in_ok-psi.ensures.product c.in_ok-on_large.ensures.entries c.in_ok-on_small.ensures.entries

pub returns-clause-law : goal.returns-clause-law
returns-clause-law g c cells test A B C order count first second =
    composed_law (g.met.F.Field.is_field c.args.field.now) cells test order A B C (maps_of c.args.first.now) (maps_of c.args.second.now)
    (record { phi = entry c.in_ok-phi.phi; psi = entry c.in_ok-psi.psi; gamma = entry c.in_ok-on_large.on_large; gamma2 = entry c.in_ok-on_small.on_small })
    (column_count c.args.first.now.phi)
    (are_composed (g.F.Field.arithmetic c.args.field.now) (maps_of c.args.first.now) (maps_of c.args.second.now)
    (record { phi = entry c.in_ok-phi.phi; psi = entry c.in_ok-psi.psi; gamma = entry c.in_ok-on_large.on_large; gamma2 = entry c.in_ok-on_small.on_small })
    (column_count c.args.first.now.phi) _ _ _ c.requires.second.psi.columns c.requires.second.gamma.columns c.requires.first.gamma2.columns
    c.in_ok-phi.ensures.product c.in_ok-psi.ensures.product c.in_ok-on_large.ensures.entries c.in_ok-on_small.ensures.entries)
    count first second
