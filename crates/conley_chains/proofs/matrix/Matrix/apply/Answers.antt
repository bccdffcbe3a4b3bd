use Rattle.conley_chains.specs.Matrix.{column_count}
use Rattle.conley_chains.proofs.ChainLemmas.{places_within}
use Rattle.conley_chains.proofs.matrix.Matrix.apply.Goals as goal

pub image-requires-clause-fits : goal.image-requires-clause-fits
image-requires-clause-fits g c =
    rw c.entries.ensures.entries (places_within c.args.chain.now (column_count c.args.self.now) c.entries.ensures.chain c.requires.fits)
